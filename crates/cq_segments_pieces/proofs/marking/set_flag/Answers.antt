use Rattle.std.proofs.Common.{◌∙◌, ap, ap₂, length, map, sym}
use Rattle.std.specs.List.{range_with_len}
use Rattle.std.specs.Simd.Lanes.{zip2}
use Rattle.std.proofs.lemmas.List.FromFn.{length-map-range_with_len}
use Rattle.cq_vectors_masks.specs.Plane.{either}
use Rattle.cq_segments_pieces.proofs.Flags.{is_place, with_place}
use Rattle.cq_segments_pieces.proofs.marking.set_flag.Goals as goal

pub set_or-requires : goal.set_or-requires
set_or-requires c = sym (ap length c.set_where.ensures ∙ length-map-range_with_len (is_place c.args.place) 0 c.len.result ∙ c.len.ensures.len)

pub returns : goal.returns
returns c =
    let place = c.args.place in
    let one = c.set_where.ensures ∙ ap (λ n. map (is_place place) (range_with_len 0 n)) (c.len.ensures.len ∙ ap length c.set_copy.ensures) in
    c.set_or.ensures ∙ ap₂ (zip2 either) c.set_copy.ensures one ∙ with_place c.args.plane.now place c.requires
