use Rattle.std.proofs.Common.{◌∙◌, ap, length, map, refl, sym}
use Rattle.std.specs.Simd.Lanes.{zip2}
use Rattle.std.proofs.lemmas.List.{length-map}
use Rattle.std.proofs.lemmas.Simd.{length-zip2}
use Rattle.cq_values.specs.Truth.{and_truth, truth_of}
use Rattle.cq_vectors_masks.specs.Plane.{neither}
use Rattle.cq_table_positions.proofs.LiveTrue.{all-left-out}
use Rattle.cq_table_positions.proofs.live.leave_out.Goals as goal

pub and_with-requires : goal.and_with-requires
and_with-requires c =
    let marks = c.args.marks.now in
    c.requires ∙ sym (ap length (c.set_tested.ensures ∙ ap (map truth_of) c.set_neither.ensures) ∙ length-map (zip2 neither marks marks) truth_of ∙ length-zip2 neither marks marks refl)

pub returns : goal.returns
returns c = c.and_with.ensures ∙ ap (zip2 and_truth c.args.truths.now) (c.set_tested.ensures ∙ ap (map truth_of) c.set_neither.ensures) ∙ all-left-out c.args.truths.now c.args.marks.now
