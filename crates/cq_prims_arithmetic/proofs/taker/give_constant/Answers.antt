use Rattle.std.proofs.Common.{◌≡◌, ◌∙◌, ℕ, Bool, List, ap, arith, false, length, of_z, replicate, subst, sym, to_z, to_z-of_z, w64}
use Rattle.std.proofs.lemmas.Int.{ints}
use Rattle.cq_values.specs.Lent.{owned}
use Rattle.cq_prims_arithmetic.specs.Sides.{AreSide}
use Rattle.cq_prims_arithmetic.proofs.SideLemmas.{side-constant}
use Rattle.cq_prims_arithmetic.proofs.taker.give_constant.Goals as goal

pub take-requires : goal.take-requires
take-requires g c =
    let n = c.in-Some.number in
    let values = g.K.Taker.values c.args.taker.now in
    let kept : to_z w64 (of_z w64 n) ≡ n = search (arith, ints, to_z-of_z) in
    let none : c.none_of-nulls.result ≡ replicate (length values) false = c.none_of-nulls.ensures ∙ ap (λ (m : ℕ). replicate m false) (c.len.ensures.len ∙ ap length c.requires.values) in
    rw kept (subst (λ (fs : List Bool). AreSide (replicate c.args.len n) fs values) (sym none)
    (side-constant c.args.len n (owned c.args.value.now) values (sym c.requires.values ∙ c.requires.constant) c.in-Some.ensures))
