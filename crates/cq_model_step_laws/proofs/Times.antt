-- The epochs of views: a command takes each of them on, and not beyond the present.
use Rattle.std.proofs.Common.{ℕ, ◌+◌, ◌≤◌, List, [], ◌∷◌, sym, subst, arith}
use Rattle.std.specs.List.{AllByRecursion}
use Rattle.std.proofs.lemmas.Bool.Decides.{nat_tests}
use Rattle.cq_model_bags.proofs.Totals.{by_test}
use Rattle.cq_binder_rules.specs.declared.bound.Bound.{Bound}
use Rattle.cq_binder_rules.specs.declared.bound.Bound.TheVariants as commands
use Rattle.cq_model_state.specs.State.{ViewOf, State}
use Rattle.cq_model_step.specs.Named.{is_named}
use Rattle.cq_model_step.specs.Next.{reach, at_epoch, taken_on}
use Rattle.cq_model_step.specs.Step.{AreBetween}
use Rattle.cq_model_step_laws.specs.Sound.{IsInTime}

-- a view that stands in time is to go no further back, and not beyond the last epoch
abbrev pub StaysInTime : ℕ → ℕ → (ℕ → ViewOf → ℕ) → Type 0
StaysInTime first last to = (place : ℕ) (v : ViewOf) → IsInTime first last v → (v.epoch ≤ to place v) × (to place v ≤ last)

-- so does each command with each view
pub reach-in_time : (s : State) (command : Bound) → StaysInTime s.passed s.now (reach s command)
reach-in_time s (commands.Select header q order) place v t =
    let high = t.reached in
    by_test (is_named s.views q place) (λ k. rw k (omega arith, omega arith)) (λ k. rw k (omega arith, omega arith))
reach-in_time s (commands.Refresh view changes) place v t =
    let high = t.reached in
    (grind (arith, nat_tests), grind (arith, nat_tests))
reach-in_time s command place v t = let high = t.reached in (omega arith, omega arith)

-- a view at such an epoch stands in time
at_epoch-in_time : (first last epoch : ℕ) (v : ViewOf) → IsInTime first last v → v.epoch ≤ epoch → epoch ≤ last → IsInTime first last (at_epoch epoch v)
at_epoch-in_time first last epoch v t low high =
    let built = t.built in
    let kept = t.kept in
    record { built = omega arith; kept = omega arith; reached = high }

module _ (first last : ℕ) (to : ℕ → ViewOf → ℕ) (stays : StaysInTime first last to) where
  -- views that are taken on stay in time
  pub taken_on-in_time : (place : ℕ) (views : List ViewOf) → AllByRecursion (IsInTime first last) views → AllByRecursion (IsInTime first last) (taken_on to place views)
  taken_on-in_time place [] a = tt
  taken_on-in_time place (v ∷ vs) a =
      let here = stays place v a.0 in
      (at_epoch-in_time first last (to place v) v a.0 here.0 here.1, taken_on-in_time (place + 1) vs a.1)

  -- so do views that stop on their way
  pub between-in_time : (place : ℕ) (views news : List ViewOf) → AllByRecursion (IsInTime first last) views → AreBetween to place views news → AllByRecursion (IsInTime first last) news
  between-in_time place [] [] a b = tt
  between-in_time place [] (w ∷ ws) a b = absurd b
  between-in_time place (v ∷ vs) [] a b = absurd b
  between-in_time place (v ∷ vs) (w ∷ ws) a b =
      let here = stays place v a.0 in
      let above = b.0.2 in (
        subst (IsInTime first last) (sym b.0.3) (at_epoch-in_time first last b.0.0 v a.0 b.0.1 (omega arith)),
        between-in_time (place + 1) vs ws a.1 b.1,
      )
