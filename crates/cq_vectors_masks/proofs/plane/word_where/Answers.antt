use Rattle.std.proofs.Common.{ℕ, ◌∙◌, ap, map, arith, min, ◌-◌, ◌≡◌}
use Rattle.std.specs.List.{range_with_len}
use lib.Lanes.{mask_l}
use Rattle.cq_vectors_masks.proofs.plane.word_where.Goals as goal

pub returns : goal.returns
returns g c =
    let whole : 64 ≡ min (c.args.len - c.args.from) 64 = omega arith in
    c.word.ensures ∙ ap (λ (n : ℕ). mask_l (map (g.T.PlaceTest.holds c.args.test.now) (range_with_len c.args.from n))) whole
