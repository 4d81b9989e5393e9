-- The tables at an epoch: how they follow from the queue, and what leaves them as they were.
use Rattle.std.proofs.Common.{◌≡◌, ◌≢◌, ℕ, zero, suc, ◌+◌, ◌-◌, ◌≤◌, ◌<◌, ◌+ℤ◌, neg_ℤ, eqb, List, [], ◌∷◌, ◌++◌, drop, length, Some, refl, sym, ◌∙◌, ap, ap₂, subst, arith, eqb-true, eq-eqb}
use Rattle.std.specs.List.{AllByRecursion, slice_get}
use Rattle.std.proofs.lemmas.Int.{ints}
use Rattle.std.proofs.lemmas.List.{append-nil, append_assoc, drop-drop, drop_all, drop-append-le}
use Rattle.cq_values.specs.Value.{Row}
use Rattle.cq_model_bags.specs.Bag.{Weighted, weight_of, SameBag, once_each, negative, difference}
use Rattle.cq_model_bags.proofs.Totals.{by_test, weight_of-append, weight_of-negative}
use Rattle.cq_model_bags.proofs.Bags.{same-refl, same-trans}
use Rattle.cq_model_bags.proofs.Canonicals.{same-bag_of}
use Rattle.cq_model.specs.declared.query.Query.{Query}
use Rattle.cq_model.specs.declared.query.Source.{Source}
use Rattle.cq_model.specs.declared.query.Source.TheVariants.{Table, View}
use Rattle.cq_views_model.specs.Delta.{SameTables, changed, joined_change}
use Rattle.cq_model.specs.Meaning.{joined_rows}
use Rattle.cq_model.specs.Views.{tables_alone}
use Rattle.cq_model_laws.proofs.Meanings.{joined_rows-respects, joined_rows-changed}
use Rattle.cq_model_state.specs.State.{IsThere, ChangeOf, State, rows_in, tables_now, change_of, above, tables_at}
use Rattle.cq_model_step.specs.Next.{written, Writes, without_front}
use Rattle.cq_model_step_laws.specs.Sound.{IsSound}
use Rattle.cq_model_step_laws.specs.Laws.{LeadsOn, IsNext, GoesOneOn}
use Rattle.cq_model_step_laws.proofs.Numbers.{rows_in-with_rows, rows_in-others}

-- ---- what changes did to a table
-- first some, then the others
pub change_of-append : (cs ds : List ChangeOf) (n : ℕ) → change_of (cs ++ ds) n ≡ change_of cs n ++ change_of ds n
change_of-append [] ds n = refl
change_of-append (c ∷ cs) ds n = by_test (eqb c.table n)
    (λ k. rw (k, change_of-append cs ds n) (sym (append_assoc c.rows (change_of cs n) (change_of ds n))))
    (λ k. rw k (change_of-append cs ds n))

-- changes of tables with smaller numbers did nothing
pub change_of-below : (cs : List ChangeOf) (n : ℕ) → AllByRecursion (λ c. c.table < n) cs → change_of cs n ≡ []
change_of-below [] n a = refl
change_of-below (c ∷ cs) n a = by_test (eqb c.table n)
    (λ k. let e = eqb-true c.table n k in let here = a.0 in absurd (omega arith))
    (λ k. rw k (change_of-below cs n a.1))

-- ---- the bags at an epoch
-- a row weighs what it does at present, less what the changes above brought
pub weight_of-at : (s : State) (epoch n : ℕ) (r : Row) → weight_of (tables_at s epoch n) r ≡ weight_of (tables_now s n) r +ℤ neg_ℤ (weight_of (change_of (above s epoch) n) r)
weight_of-at s epoch n r =
    weight_of-append (tables_now s n) (negative (change_of (above s epoch) n)) r
    ∙ ap (λ w. weight_of (tables_now s n) r +ℤ w) (weight_of-negative (change_of (above s epoch) n) r)

-- no change is above the last epoch
pub at-present : (s : State) → s.passed + length s.queue ≡ s.now → (n : ℕ) → tables_at s s.now n ≡ tables_now s n
at-present s whole n =
    let none : above s s.now ≡ [] = drop_all (s.now - s.passed) s.queue (omega arith) in
    rw none (append-nil (tables_now s n))

-- the bags at an epoch depend on the rows that are there and on the changes above it
pub at-same : (s t : State) (epoch n : ℕ) → rows_in s.tables n ≡ rows_in t.tables n → above s epoch ≡ above t epoch → tables_at s epoch n ≡ tables_at t epoch n
at-same s t epoch n rows changes = ap₂ (λ (us : List Row) (cs : List ChangeOf). once_each us ++ negative (change_of cs n)) rows changes

-- ---- from one epoch to the next
-- a place below the length has a change
pub there-at : (cs : List ChangeOf) (i : ℕ) → i < length cs → (c : ChangeOf) × (slice_get cs i ≡ Some c)
there-at [] i h = absurd (omega arith)
there-at (c ∷ cs) zero h = (c, refl)
there-at (c ∷ cs) (suc i) h = there-at cs i (omega arith)

-- which is the first of those from there on
drop-at : (cs : List ChangeOf) (i : ℕ) (c : ChangeOf) → slice_get cs i ≡ Some c → drop i cs ≡ c ∷ drop (suc i) cs
drop-at [] i c h = absurd (cc)
drop-at (b ∷ cs) zero c h = let e : b ≡ c = cc in rw e refl
drop-at (b ∷ cs) (suc i) c h = drop-at cs i c h

-- one change more is in the bags
pub at-next : (s : State) (epoch : ℕ) (c : ChangeOf) → s.passed ≤ epoch → slice_get s.queue (epoch - s.passed) ≡ Some c
    → (n : ℕ) → SameBag (tables_at s (epoch + 1) n) (tables_at s epoch n ++ change_of (c ∷ []) n)
at-next s epoch c low is n =
    let step : suc (epoch - s.passed) ≡ epoch + 1 - s.passed = omega arith in
    let split : above s epoch ≡ c ∷ above s (epoch + 1) = drop-at s.queue (epoch - s.passed) c is ∙ ap (λ (i : ℕ). c ∷ drop i s.queue) step in
    let parts : change_of (above s epoch) n ≡ change_of (c ∷ []) n ++ change_of (above s (epoch + 1)) n =
    ap (λ cs. change_of cs n) split ∙ change_of-append (c ∷ []) (above s (epoch + 1)) n in
    record {
      at = λ r.
          let one = ap (λ xs. weight_of xs r) parts ∙ weight_of-append (change_of (c ∷ []) n) (change_of (above s (epoch + 1)) n) r in
          omega (arith, ints, one, weight_of-at s epoch n r, weight_of-at s (epoch + 1) n r, weight_of-append (tables_at s epoch n) (change_of (c ∷ []) n) r);
    }

-- ---- what leaves the bags at an epoch as they were
-- the changes in front of it may go
pub at-without_front : (s : State) (count epoch n : ℕ) → s.passed + count ≤ epoch → tables_at (without_front count s) epoch n ≡ tables_at s epoch n
at-without_front s count epoch n low =
    let place : count + (epoch - (s.passed + count)) ≡ epoch - s.passed = omega arith in
    at-same (without_front count s) s epoch n refl (drop-drop (epoch - (s.passed + count)) count s.queue ∙ ap (λ (i : ℕ). drop i s.queue) place)

module _ (s : State) (n : ℕ) (rows : List Row) (change : Weighted) (is : SameBag change (difference (once_each rows) (tables_now s n))) (there : IsThere n s.tables) where
  -- the new rows are the old ones and the change
  pub now-written : SameBag (tables_now (written n rows change s) n) (tables_now s n ++ change)
  now-written = record {
    at = λ r.
        let new = ap (λ us. weight_of (once_each us) r) (rows_in-with_rows n rows s.tables there) ∙ (same-bag_of rows).at r in
        let made = is.at r ∙ weight_of-append (once_each rows) (negative (tables_now s n)) r ∙ ap (λ w. weight_of (once_each rows) r +ℤ w) (weight_of-negative (tables_now s n) r) in
        omega (arith, ints, new, made, weight_of-append (tables_now s n) change r);
  }

  -- each table has what the change did to it
  weight_of-written : (m : ℕ) (r : Row) → weight_of (tables_now (written n rows change s) m) r ≡ weight_of (tables_now s m) r +ℤ weight_of (change_of (record { table = n; rows = change } ∷ []) m) r
  weight_of-written m r = by_test (eqb n m)
      (λ k. rw (k, append-nil change) (subst (λ i. weight_of (tables_now (written n rows change s) i) r ≡ weight_of (tables_now s i) r +ℤ weight_of change r) (eqb-true n m k)
      (now-written.at r ∙ weight_of-append (tables_now s n) change r)))
      (λ k. let apart : m ≢ n = λ e. absurd (let u = eq-eqb n m (sym e) in cc) in
      let here = ap (λ us. weight_of (once_each us) r) (rows_in-others n rows s.tables m apart) in
      rw k (omega (arith, ints, here)))

  -- which is taken back at each epoch so far
  pub at-written : s.passed + length s.queue ≡ s.now → (epoch m : ℕ) → epoch ≤ s.now → SameBag (tables_at (written n rows change s) epoch m) (tables_at s epoch m)
  at-written whole epoch m high =
      let c : ChangeOf = record { table = n; rows = change } in
      let t = written n rows change s in
      let longer : above t epoch ≡ above s epoch ++ c ∷ [] = drop-append-le (epoch - s.passed) s.queue (c ∷ []) (omega arith) in
      let parts : change_of (above t epoch) m ≡ change_of (above s epoch) m ++ change_of (c ∷ []) m = ap (λ cs. change_of cs m) longer ∙ change_of-append (above s epoch) (c ∷ []) m in
      record {
        at = λ r.
            let one = ap (λ xs. weight_of xs r) parts ∙ weight_of-append (change_of (above s epoch) m) (change_of (c ∷ []) m) r in
            omega (arith, ints, one, weight_of-at s epoch m r, weight_of-at t epoch m r, weight_of-written m r);
      }

-- ---- the laws of writes and of epochs
-- a write puts its change in
pub leads_on : (old new : State) (n : ℕ) (rows : List Row) (w : Writes old n rows new) → IsThere n old.tables → LeadsOn old n w.change new
leads_on old new n rows w there = subst (LeadsOn old n w.change) (sym w.state) (record {
  changed = now-written old n rows w.change w.is_difference there;
  others = rows_in-others n rows old.tables;
})

-- the tables go on by one change
pub goes_one_on : (s : State) (epoch : ℕ) → IsSound s → s.passed ≤ epoch → epoch < s.now → GoesOneOn s epoch
goes_one_on s epoch sound low high =
    let whole = sound.whole in
    let one = there-at s.queue (epoch - s.passed) (omega arith) in
    record { change = one.0; next = one.1; tables = at-next s epoch one.0 low one.1 }

-- and so do joined rows
pub joined-next : (s : State) (epoch : ℕ) (c : ChangeOf) (q : Query) → s.passed ≤ epoch → IsNext s epoch c
    → SameBag (joined_rows q (tables_alone (tables_at s (epoch + 1))))
    (joined_rows q (tables_alone (tables_at s epoch)) ++ joined_change q (tables_alone (tables_at s epoch)) (tables_alone (change_of (c ∷ []))))
joined-next s epoch c q low is =
    let old = tables_alone (tables_at s epoch) in
    let new = tables_alone (tables_at s (epoch + 1)) in
    let change = tables_alone (change_of (c ∷ [])) in
    let same : SameTables new (changed old change) = record { at = next-source s epoch c low is } in
    same-trans (joined_rows q new) (joined_rows q (changed old change)) (joined_rows q old ++ joined_change q old change)
    (joined_rows-respects q new (changed old change) same)
    (joined_rows-changed q old change)
  where
    next-source : (s : State) (epoch : ℕ) (c : ChangeOf) → s.passed ≤ epoch → IsNext s epoch c → (source : Source)
        → SameBag (tables_alone (tables_at s (epoch + 1)) source) (changed (tables_alone (tables_at s epoch)) (tables_alone (change_of (c ∷ []))) source)
    next-source s epoch c low is (Table n) = at-next s epoch c low is n
    next-source s epoch c low is (View v) = same-refl []
