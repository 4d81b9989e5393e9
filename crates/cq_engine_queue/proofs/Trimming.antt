-- How many changes each of several views has passed.
use Rattle.std.proofs.Common.{◌≡◌, ◌∙◌, ◌+◌, ◌-◌, ◌<◌, ◌≤◌, ℕ, List, [], ◌∷◌, ◌++◌, get_or, length, min, take, sym, ap, subst, arith}
use Rattle.std.specs.List.{AllByRecursion}
use Rattle.std.proofs.lemmas.List.{take_more}
use Rattle.cq_model_bags.proofs.Lists.{all-at, all-back, all-front, all-next, all-weaker}
use Rattle.cq_engine_tables.specs.Views.{NamedView}
use Rattle.cq_engine_queue.specs.Queued.{AreWithin, Queued}

module _ (q : Queued) (views : List NamedView) (within : AreWithin q views) where
  -- those before a place have passed so many changes
  abbrev HavePassed : ℕ → ℕ → Type 0
  HavePassed place n = AllByRecursion (λ v. q.passed + n ≤ v.kept.state.epoch) (take place views)

  module _ (place : ℕ) (v : NamedView) (there : place < length views) (is : v ≡ get_or views place v) (count now : ℕ) (less : now ≡ min count (v.kept.state.epoch - q.passed)) where
    at : q.passed ≤ v.kept.state.epoch
    at = (subst (λ (w : NamedView). (q.passed ≤ w.kept.state.epoch) × (w.kept.state.epoch ≤ q.passed + length q.changes)) (sym is)
        (all-at (λ w. (q.passed ≤ w.kept.state.epoch) × (w.kept.state.epoch ≤ q.passed + length q.changes)) views place v there within)).0

    -- with the next view they have passed as many as it has, if these are fewer
    pub passed-next : HavePassed place count → HavePassed (place + 1) now
    passed-next passed =
        all-next (λ w. q.passed + now ≤ w.kept.state.epoch) views place v there is
        (all-weaker (λ w. q.passed + count ≤ w.kept.state.epoch) (λ w. q.passed + now ≤ w.kept.state.epoch) (λ w far. omega (arith, less, far)) (take place views) passed)
        (omega (arith, less, at))

    -- and not one more
    pub most-next : (len : ℕ) → ((n : ℕ) → n ≤ len → HavePassed place n → n ≤ count) → (n : ℕ) → n ≤ len → HavePassed (place + 1) n → n ≤ now
    most-next len before n few passed =
        let parts = subst (AllByRecursion (λ w. q.passed + n ≤ w.kept.state.epoch)) (take_more views place v there ∙ ap (λ (w : NamedView). take place views ++ w ∷ []) (sym is)) passed in
        let own = (all-back (λ w. q.passed + n ≤ w.kept.state.epoch) (take place views) (v ∷ []) parts).0 in
        omega (arith, less, own, at, before n few (all-front (λ w. q.passed + n ≤ w.kept.state.epoch) (take place views) (v ∷ []) parts))
