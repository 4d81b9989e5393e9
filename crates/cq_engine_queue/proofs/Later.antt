-- What is right in a state is right in a later one.
use Rattle.std.proofs.Common.{◌≡◌, ◌⊎◌, ◌+◌, ◌<◌, ◌≤◌, ◌^◌, ℕ, List, [], ◌∷◌, Some, inl, inr, length, refl, sym, subst, arith}
use Rattle.std.specs.Prelude.{nat_lt}
use Rattle.std.specs.List.{AllByRecursion}
use Rattle.std.proofs.lemmas.Bool.{ltb-false, ltb-true}
use Rattle.cq_model_bags.specs.Bag.{SameBag, Weighted, once_each}
use Rattle.cq_model_bags.proofs.Bags.{same-equal, same-sym, same-trans}
use Rattle.cq_model_bags.proofs.Totals.{by_test}
use Rattle.cq_model.specs.Sizes.{IsStored}
use Rattle.cq_model.specs.Views.{sources_of, tables_alone}
use Rattle.cq_model_state.specs.Fitting.{AreFitting, AreLimited, rows_limit}
use Rattle.cq_model_state.specs.State.{IsThere, State, rows_in, tables_at, tables_now}
use Rattle.cq_model_step_laws.proofs.Follows.{Follows}
use Rattle.cq_model_step_laws.proofs.Pasts.{at-present}
use Rattle.cq_model_step_laws.specs.Sound.{IsInTime}
use Rattle.cq_views.specs.Laws.{StandingDependsOnSources}
use Rattle.cq_views.specs.State.{StandsFor}
use Rattle.cq_engine_tables.proofs.Rows.{rows_have}
use Rattle.cq_engine_tables.proofs.Stored.{tables_stored}
use Rattle.cq_engine_tables.proofs.Wide.{rows-wide_in, wide-there}
use Rattle.cq_engine_tables.specs.Views.{AreRight, AreWide, IsPresent, IsRight, NamedView, bags_in, view_of, views_of, width_at}
use Rattle.cq_engine_queue.proofs.Reaching.{sources-there}
use Rattle.cq_engine_queue.specs.History.{AreFew, IsHistory, IsSmall}

-- the table of a number has few stored rows of its columns, where rows fit and are not too many
few-now : (s : State) → AreFitting s.tables → AreLimited rows_limit s.tables → (n wide : ℕ) → width_at s.tables n ≡ Some wide → AreFew wide (tables_now s n)
few-now s fitting limited n wide is = record {
  rows = rows_in s.tables n;
  are = same-equal (once_each (rows_in s.tables n)) (tables_now s n) refl;
  stored = rows_have (λ rs. AllByRecursion IsStored rs) tt s.tables n (tables_stored s.tables fitting);
  widths = rows-wide_in s.tables n wide fitting is;
  few = rows_have (λ rs. length rs ≤ rows_limit) (omega arith) s.tables n limited;
}

few-over : (wide : ℕ) (xs ys : Weighted) → SameBag xs ys → AreFew wide ys → AreFew wide xs
few-over wide xs ys same few = record { rows = few.rows; are = same-trans (once_each few.rows) ys xs few.are (same-sym xs ys same); stored = few.stored; widths = few.widths; few = few.few }

-- the table of a number has no row at any epoch that can be told
abbrev pub IsNew : State → ℕ → Type 0
IsNew s n = (epoch : ℕ) → s.passed ≤ epoch → epoch ≤ s.now → SameBag (tables_at s epoch n) []

-- each table was there with its columns, or is new
abbrev pub AreKnown : State → State → Type 0
AreKnown old new = (n wide : ℕ) → width_at new.tables n ≡ Some wide → (width_at old.tables n ≡ Some wide) ⊎ IsNew new n

module _ (old new : State) (f : Follows old new) (one : new.now ≤ old.now + 1) where
  module _ (history : IsHistory old) (fitting : AreFitting new.tables) (limited : AreLimited rows_limit new.tables) (known : AreKnown old new) where
    held-before : (epoch n wide : ℕ) → new.passed ≤ epoch → epoch ≤ old.now → epoch ≤ new.now → IsThere n new.tables → (width_at old.tables n ≡ Some wide) ⊎ IsNew new n → AreFew wide (tables_at new epoch n)
    held-before epoch n wide low past high at (inl was) = few-over wide (tables_at new epoch n) (tables_at old epoch n) (f.stays epoch n low past at) (history.held epoch n wide (omega (arith, f.kept, low)) past was)
    held-before epoch n wide low past high at (inr none) = few-over wide (tables_at new epoch n) [] (none epoch low high) (record { rows = []; are = same-equal [] [] refl; stored = tt; widths = tt; few = omega arith })

    held-later : (epoch n wide : ℕ) → new.passed ≤ epoch → epoch ≤ new.now → width_at new.tables n ≡ Some wide → AreFew wide (tables_at new epoch n)
    held-later epoch n wide low high is = by_test (nat_lt epoch new.now)
        (λ k.
        let before : epoch < new.now = ltb-true epoch new.now k in
        held-before epoch n wide low (omega (arith, before, one)) high (wide-there new.tables n wide is) (known n wide is))
        (λ k.
        let last : epoch ≡ new.now = omega (arith, high, ltb-false epoch new.now k) in
        rw (last, at-present new f.sound.whole n) (few-now new fitting limited n wide is))

    -- a history goes on
    pub history-later : AllByRecursion IsSmall new.queue → new.now < 2 ^ 64 → IsHistory new
    history-later small range = record { sound = f.sound; held = held-later; small = small; range = range }

  module _ (law : StandingDependsOnSources) where
    -- a view stands for the tables as they were
    pub right-later : (v : NamedView) → IsRight old v → IsInTime new.passed new.now (view_of v) → AreWide new.tables v.kept.query v.kept.widths → IsRight new v
    right-later v right time wide = record {
      shown = right.shown;
      fits = right.fits;
      wide = wide;
      time = time;
      stands =
          let epoch = v.kept.state.epoch in
          law v.kept (tables_alone (tables_at old epoch)) (tables_alone (tables_at new epoch))
          (sources-there new (λ x. SameBag (tables_alone (tables_at old epoch) x) (tables_alone (tables_at new epoch) x))
          (λ n at. same-sym (tables_at new epoch n) (tables_at old epoch n) (f.stays epoch n time.kept right.time.reached at)) (sources_of v.kept.query) v.kept.widths wide)
          right.stands;
    }

    pub all-right-later : (vs : List NamedView) → AreRight old vs → AllByRecursion (IsInTime new.passed new.now) (views_of vs) → AllByRecursion (λ v. AreWide new.tables v.kept.query v.kept.widths) vs → AreRight new vs
    all-right-later [] right times wides = tt
    all-right-later (v ∷ vs) right times wides = (right-later v right.0 times.0 wides.0, all-right-later vs right.1 times.1 wides.1)

-- ---- At the present
-- a view that is right and at the present stands for the tables as they are
pub present-right : (law : StandingDependsOnSources) (s : State) → s.passed + length s.queue ≡ s.now → (v : NamedView) → IsRight s v → v.kept.state.epoch ≡ s.now → IsPresent s.tables v
present-right law s whole v right at = record {
  fits = right.fits;
  wide = right.wide;
  stands =
      law v.kept (tables_alone (tables_at s s.now)) (bags_in s.tables)
      (sources-there s (λ x. SameBag (tables_alone (tables_at s s.now) x) (bags_in s.tables x)) (λ n there. same-equal (tables_at s s.now n) (tables_now s n) (at-present s whole n)) (sources_of v.kept.query) v.kept.widths right.wide)
      (subst (λ (e : ℕ). StandsFor v.kept (tables_alone (tables_at s e))) at right.stands);
}

-- and one that was built there is right
pub right-built : (law : StandingDependsOnSources) (s : State) → s.passed + length s.queue ≡ s.now → (v : NamedView) → length v.columns ≡ length v.kept.query.items → IsPresent s.tables v → v.kept.state.epoch ≡ s.now → v.kept.state.built ≡ s.now → IsRight s v
right-built law s whole v shown present at built = record {
  shown = shown;
  fits = present.fits;
  wide = present.wide;
  time = record { built = omega (arith, at, built); kept = omega (arith, at, whole); reached = omega (arith, at) };
  stands =
      subst (λ (e : ℕ). StandsFor v.kept (tables_alone (tables_at s e))) (sym at)
      (law v.kept (bags_in s.tables) (tables_alone (tables_at s s.now))
      (sources-there s (λ x. SameBag (bags_in s.tables x) (tables_alone (tables_at s s.now) x)) (λ n there. same-equal (tables_now s n) (tables_at s s.now n) (sym (at-present s whole n))) (sources_of v.kept.query) v.kept.widths present.wide)
      present.stands);
}
