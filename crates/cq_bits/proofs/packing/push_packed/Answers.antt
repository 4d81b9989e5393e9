use Rattle.std.proofs.Common.{◌≡◌, ℕ, ◌+◌, ◌-◌, ◌∷◌, ◌++◌, List, [], arith, ap, bit_and, refl, subst, sym, take, ◌∙◌}
use Rattle.std.proofs.lemmas.List.{take_all}
use Rattle.std.proofs.lemmas.Nat.{and_mask}
use Rattle.cq_bits.specs.Packed.{IsPacked}
use Rattle.cq_bits.proofs.Holding.{Holds-as, Holds-next, Holds-none, Holds-word, IsPacked-last}
use Rattle.cq_bits.proofs.packing.push_packed.Goals as goal
use Rattle.cq_bits.proofs.packing.push_packed.Goals.{else-bits-ge64, then-bits-ge64}

pub loop-value-init : goal.loop-value-init
loop-value-init c = record { holds = Holds-none c.args.width c.args.to.now.items c.requires.empty; few = omega arith; room = refl }

pub loop-value-preserved : goal.loop-value-preserved
loop-value-preserved c =
    let i = c.loop-value.value-index in
    let next = Holds-next c.args.width c.loop-value.bits c.loop-value.held c.from.result i c.loop-value.to.items c.args.values.now c.loop-value.invariant.holds c.loop-value-test.true c.from.ensures c.requires.fit c.loop-value.invariant.few c.requires.narrow in
    elim c.if-bits-ge64.branch [
      | then-bits-ge64 w ↦ record {
        holds = Holds-as c.args.width _ _ _ _ _ _ _ _ (sym w.bits-is) (sym w.held-is)
            (ap (λ (v : ℕ). c.loop-value.to.items ++ v ∷ []) (sym (ap (bit_and _) w.from-then-bits-ge64.ensures ∙ and_mask _ 64)) ∙ sym w.push_reserved.ensures.items ∙ cc) refl
            (Holds-word c.args.width (c.loop-value.bits + c.args.width - 64) _ c.loop-value.to.items (take (i + 1) c.args.values.now)
            (Holds-as c.args.width _ _ _ _ _ _ _ _ (omega arith) refl refl refl next));
        few = omega arith;
        room = cc;
      }
      | else-bits-ge64 w ↦ record {
        holds = Holds-as c.args.width _ _ _ _ _ _ _ _ (sym w.bits-is) (sym w.held-is) (cc) refl next;
        few = omega arith;
        room = cc;
      }
    ]

pub returns-then-bits-gt0 : goal.returns-then-bits-gt0
returns-then-bits-gt0 c =
    let all : take c.loop-value.value-index c.args.values.now ≡ c.args.values.now =
    take_all c.loop-value.value-index c.args.values.now c.loop-value-test.false in
    subst (λ (ws : List ℕ). IsPacked c.args.width c.args.values.now ws) (sym c.push_reserved-then-bits-gt0.ensures.items)
    (IsPacked-last c.args.width c.loop-value.bits c.loop-value.held c.loop-value.to.items c.args.values.now
    (Holds-as c.args.width _ _ _ _ _ _ _ _ refl refl refl all c.loop-value.invariant.holds) c.if-bits-gt0.true c.loop-value.invariant.few)
