use Rattle.std.proofs.Common.{◌∙◌, ◌+◌, ◌-◌, ℕ, Bool, List, ap, ap₂, false, get_or, length, map}
use Rattle.std.specs.List.{range_with_len}
use Rattle.cq_segments_pieces.proofs.Flags.{flags-behind}
use Rattle.cq_segments_pieces.proofs.marking.drop_flags.Goals as goal

pub returns : goal.returns
returns c =
    let count = c.args.count in
    let left = ap (λ (n : ℕ). n - count) (c.len.ensures.len ∙ ap length c.set_copy.ensures) in
    c.set_where.ensures
    ∙ ap₂ (λ (flags : List Bool) (n : ℕ). map (λ place. get_or flags (count + place) false) (range_with_len 0 n)) c.set_copy.ensures left
    ∙ flags-behind c.args.plane.now count
