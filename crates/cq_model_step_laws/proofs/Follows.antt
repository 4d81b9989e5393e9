-- What comes of commands: tables at epochs that are past stay, and the state is sound.
use Rattle.std.proofs.Common.{◌≡◌, ℕ, ◌+◌, ◌-◌, ◌≤◌, ◌<◌, not, eqb, nat_le, List, [], ◌∷◌, ◌++◌, length, inl, inr, refl, sym, ◌∙◌, ap₂, subst, arith}
use Rattle.std.specs.Prelude.{filter}
use Rattle.std.specs.List.{AllByRecursion, remove}
use Rattle.std.proofs.lemmas.Bool.Decides.{nat_tests}
use Rattle.std.proofs.lemmas.List.{length-append, length-drop}
use Rattle.cq_values.specs.Value.{Row}
use Rattle.cq_model_bags.specs.Bag.{Weighted, SameBag, IsBag, once_each, negative, difference}
use Rattle.cq_model_bags.proofs.Totals.{by_test}
use Rattle.cq_model_laws.proofs.Positives.{once_each-bag}
use Rattle.cq_binder_rules.specs.declared.bound.Bound.{Bound}
use Rattle.cq_binder_rules.specs.declared.bound.Bound.TheVariants as commands
use Rattle.cq_values.specs.declared.column.ColumnDef.{ColumnDef}
use Rattle.cq_model.specs.Write.{left_by, updated}
use Rattle.cq_model_step.specs.declared.answer.Answer.{Answer}
use Rattle.cq_model_state.specs.State.{IsThere, ViewOf, State, rows_in, with_rows, tables_now, change_of, above, tables_at}
use Rattle.cq_model_step.specs.Next.{with_tables, with_all_views, created, new_view, written, Writes, reach, taken_on, refreshed, without_front, Trims}
use Rattle.cq_model_step.specs.Step.{Leads, Accepts}
use Rattle.cq_model_step_laws.specs.Sound.{Fits, IsInTime, IsSound}
use Rattle.cq_model_step_laws.specs.Laws.{IsNewTable}
use Rattle.cq_model_step_laws.proofs.Numbers.{rows_in-absent, there-with_rows, rows_in-created, there-created, there-old_or_new, rows_in-dropped, there-dropped, numbered-below, numbered-created, numbered-dropped}
use Rattle.cq_model_step_laws.proofs.Pasts.{change_of-below, at-present, at-same, at-without_front, at-written}
use Rattle.cq_model_step_laws.proofs.Times.{reach-in_time, taken_on-in_time}
use Rattle.cq_model_bags.proofs.Lists.{all-append, all-both, all-drop, all-remove, all-weaker}
use Rattle.cq_model_bags.proofs.Positives.{bag-same}
use Rattle.cq_model_bags.proofs.Bags.{same-equal}
use Rattle.cq_model_state.proofs.Numbered.{numbered-weaker, numbered-with_rows}

-- a later state: the tables at epochs that both can tell are the same, and it is sound
pub record Follows (old new : State) : Type 0 where
  pub kept : old.passed ≤ new.passed
  pub stays : (epoch n : ℕ) → new.passed ≤ epoch → epoch ≤ old.now → IsThere n new.tables → SameBag (tables_at new epoch n) (tables_at old epoch n)
  pub sound : IsSound new

-- the number that is drawn next has no row at any epoch
pub at-drawn : (s : State) → IsSound s → (epoch : ℕ) → tables_at s epoch s.drawn ≡ []
at-drawn s sound epoch =
    let rows : rows_in s.tables s.drawn ≡ [] = rows_in-absent s.drawn s.tables (λ there. let low = numbered-below s.tables s.drawn sound.numbered s.drawn there in absurd (omega arith)) in
    let changes : change_of (above s epoch) s.drawn ≡ [] =
    change_of-below (above s epoch) s.drawn (all-drop (λ c. c.table < s.drawn) (epoch - s.passed) s.queue sound.known) in
    ap₂ (λ (us : List Row) (ds : Weighted). once_each us ++ negative ds) rows changes

-- ---- each way to a next state
-- nothing changes
pub follows-itself : (s : State) → IsSound s → Follows s s
follows-itself s sound = record { kept = omega arith; stays = λ epoch n low high there. same-equal (tables_at s epoch n) (tables_at s epoch n) refl; sound = sound }

-- views come, go or move on
pub follows-views : (s : State) (views : List ViewOf) → IsSound s → AllByRecursion (IsInTime s.passed s.now) views → Follows s (with_all_views views s)
follows-views s views sound epochs = record {
  kept = omega arith;
  stays = λ epoch n low high there. same-equal (tables_at s epoch n) (tables_at s epoch n) refl;
  sound = record { numbered = sound.numbered; whole = sound.whole; drawn = sound.drawn; known = sound.known; epochs = epochs; bags = sound.bags };
}

-- a new table
pub follows-created : (s : State) (name : List ℕ) (columns : List ColumnDef) (sort : List ℕ) → IsSound s → Follows s (created name columns sort s)
follows-created s name columns sort sound =
    let t = created name columns sort s in
    let drawn = sound.drawn in
    let same : (epoch n : ℕ) → tables_at t epoch n ≡ tables_at s epoch n = λ epoch n. at-same t s epoch n (rows_in-created s.tables s.drawn name columns sort n) refl in
    record {
      kept = omega arith;
      stays = λ epoch n low high there. same-equal (tables_at t epoch n) (tables_at s epoch n) (same epoch n);
      sound = record {
        numbered = numbered-created s.tables s.drawn name columns sort sound.numbered;
        whole = sound.whole;
        drawn = omega arith;
        known = all-weaker (λ c. c.table < s.drawn) (λ c. c.table < s.drawn + 1) (λ c low. omega arith) s.queue sound.known;
        epochs = sound.epochs;
        bags = λ epoch n low high there. rw (same epoch n) (elim (there-old_or_new s.tables s.drawn name columns sort n there) [
          | inl old ↦ sound.bags epoch n low high old
          | inr e ↦ rw (e, at-drawn s sound epoch) (once_each-bag [])
        ]);
      };
    }

-- a dropped table
pub follows-dropped : (s : State) (n : ℕ) → IsSound s → Follows s (with_tables (filter (λ t. not (eqb t.number n)) s.tables) s)
follows-dropped s n sound =
    let t = with_tables (filter (λ u. not (eqb u.number n)) s.tables) s in
    let same : (epoch m : ℕ) → IsThere m t.tables → tables_at t epoch m ≡ tables_at s epoch m = λ epoch m there. at-same t s epoch m (rows_in-dropped n s.tables m (there-dropped n s.tables m there).0) refl in
    record {
      kept = omega arith;
      stays = λ epoch m low high there. same-equal (tables_at t epoch m) (tables_at s epoch m) (same epoch m there);
      sound = record {
        numbered = numbered-dropped (λ u. not (eqb u.number n)) s.tables s.drawn sound.numbered;
        whole = sound.whole;
        drawn = sound.drawn;
        known = sound.known;
        epochs = sound.epochs;
        bags = λ epoch m low high there. rw (same epoch m there) (sound.bags epoch m low high (there-dropped n s.tables m there).1);
      };
    }

module _ (s : State) (n : ℕ) (rows : List Row) (change : Weighted) (is : SameBag change (difference (once_each rows) (tables_now s n))) (there : IsThere n s.tables) (sound : IsSound s) where
  -- the queue has the write's change too
  whole-written : s.passed + length (s.queue ++ record { table = n; rows = change } ∷ []) ≡ s.now + 1
  whole-written = let whole = sound.whole in omega (arith, length-append s.queue (record { table = n; rows = change } ∷ []))

  -- the tables after a write are bags, at present and at each epoch so far
  bags-written : (epoch m : ℕ) → s.passed ≤ epoch → epoch ≤ s.now + 1 → IsThere m (with_rows n rows s.tables) → IsBag (tables_at (written n rows change s) epoch m)
  bags-written epoch m low high at =
      let t = written n rows change s in
      by_test (nat_le epoch s.now)
      (λ k. let past : epoch ≤ s.now = grind (arith, nat_tests) in
      bag-same (tables_at t epoch m) (tables_at s epoch m) (at-written s n rows change is there sound.whole epoch m past) (sound.bags epoch m low past (there-with_rows n rows s.tables m at)))
      (λ k. let last : epoch ≡ s.now + 1 = grind (arith, nat_tests) in
      rw (last, at-present t whole-written m) (once_each-bag (rows_in t.tables m)))

  -- so a write keeps the past
  pub follows-written : Follows s (written n rows change s)
  follows-written =
      let drawn = sound.drawn in
      let below = numbered-below s.tables s.drawn sound.numbered n there in
      record {
        kept = omega arith;
        stays = λ epoch m low high at. at-written s n rows change is there sound.whole epoch m high;
        sound = record {
          numbered = numbered-weaker (with_rows n rows s.tables) s.drawn (s.drawn + 1) (omega arith) (numbered-with_rows n rows s.tables s.drawn sound.numbered);
          whole = whole-written;
          drawn = omega arith;
          known = all-append (λ c. c.table < s.drawn + 1) s.queue (record { table = n; rows = change } ∷ []) (all-weaker (λ c. c.table < s.drawn) (λ c. c.table < s.drawn + 1) (λ c low. omega arith) s.queue sound.known) (omega arith, tt);
          epochs = all-weaker (IsInTime s.passed s.now) (IsInTime s.passed (s.now + 1)) (λ v t. let high = t.reached in record { built = t.built; kept = t.kept; reached = omega arith }) s.views sound.epochs;
          bags = bags-written;
        };
      }

-- also one whose change is known as a bag alone
follows-writes : (old new : State) (n : ℕ) (rows : List Row) → IsSound old → IsThere n old.tables → Writes old n rows new → Follows old new
follows-writes old new n rows sound there w = subst (Follows old) (sym w.state) (follows-written old n rows w.change w.is_difference there sound)

-- views that a command takes on stay in time
follows-refreshed : (s : State) (command : Bound) → IsSound s → Follows s (refreshed command s)
follows-refreshed s command sound = follows-views s (taken_on (reach s command) 0 s.views) sound (taken_on-in_time s.passed s.now (reach s command) (reach-in_time s command) 0 s.views sound.epochs)

-- ---- commands
-- each command that is accepted, while nothing is dropped from the queue
pub follows-leads : (old new : State) (command : Bound) (answer : Answer) → IsSound old → Fits old command → Leads old command answer new → Follows old new
follows-leads old new (commands.CreateTable name columns sort) answer sound fits l = subst (Follows old) (sym l.1) (follows-created old name columns sort sound)
follows-leads old new (commands.DropTable n) answer sound fits l = subst (Follows old) (sym l.1) (follows-dropped old n sound)
follows-leads old new (commands.CreateView name columns q) answer sound fits l =
    let whole = sound.whole in
    let new_one : IsInTime old.passed old.now (new_view name columns q old.now) = record { built = omega arith; kept = omega arith; reached = omega arith } in
    subst (Follows old) (sym l.1) (follows-views old (old.views ++ new_view name columns q old.now ∷ []) sound
    (all-append (IsInTime old.passed old.now) old.views (new_view name columns q old.now ∷ []) sound.epochs (new_one, tt)))
follows-leads old new (commands.DropView place) answer sound fits l =
    subst (Follows old) (sym l.1) (follows-views old (remove old.views place) sound (all-remove (IsInTime old.passed old.now) old.views place sound.epochs))
follows-leads old new (commands.Insert n rows) answer sound fits l = follows-writes old new n (rows_in old.tables n ++ rows) sound fits l.1
follows-leads old new (commands.Delete n c) answer sound fits l = follows-writes old new n (left_by c (rows_in old.tables n)) sound fits l.1
follows-leads old new (commands.Update n assignments c) answer sound fits l = follows-writes old new n (updated assignments c (rows_in old.tables n)) sound fits l.1
follows-leads old new (commands.Select header q order) answer sound fits l = subst (Follows old) (sym l.1) (follows-refreshed old (commands.Select header q order) sound)
follows-leads old new (commands.Move n rows) answer sound fits l = subst (Follows old) (sym l.1) (follows-itself old sound)
follows-leads old new (commands.Merge n) answer sound fits l = subst (Follows old) (sym l.1) (follows-itself old sound)
follows-leads old new (commands.Refresh place changes) answer sound fits l = subst (Follows old) (sym l.1) (follows-refreshed old (commands.Refresh place changes) sound)

-- changes that each view has passed may be dropped
follows-without_front : (old s : State) (count : ℕ) → count ≤ length s.queue → AllByRecursion (λ v. s.passed + count ≤ v.epoch) s.views → Follows old s → Follows old (without_front count s)
follows-without_front old s count within passed f =
    let t = without_front count s in
    let sound = f.sound in
    let whole = sound.whole in
    let kept = f.kept in
    record {
      kept = omega arith;
      stays = λ epoch n low high there. rw (at-without_front s count epoch n low) (f.stays epoch n (omega arith) high there);
      sound = record {
        numbered = sound.numbered;
        whole = omega (arith, length-drop count s.queue);
        drawn = sound.drawn;
        known = all-drop (λ c. c.table < s.drawn) count s.queue sound.known;
        epochs = all-both (IsInTime s.passed s.now) (λ v. s.passed + count ≤ v.epoch) (IsInTime (s.passed + count) s.now) (λ v i low. record { built = i.built; kept = low; reached = i.reached }) s.views sound.epochs passed;
        bags = λ epoch n low high there. rw (at-without_front s count epoch n low) (sound.bags epoch n (omega arith) high there);
      };
    }

-- so the queue may be trimmed
pub follows-trims : (old whole new : State) → Trims whole new → Follows old whole → Follows old new
follows-trims old whole new t f = subst (Follows old) (sym t.state) (follows-without_front old whole t.count t.there t.passed f)

-- and what is accepted keeps the past
pub follows-accepts : (old new : State) (command : Bound) (answer : Answer) → IsSound old → Fits old command → Accepts old command answer new → Follows old new
follows-accepts old new command answer sound fits a = follows-trims old a.whole new a.trims (follows-leads old a.whole command answer sound fits a.leads)

-- ---- a new table
-- it is there and was empty, whatever is dropped from the queue
new-created : (s : State) (name : List ℕ) (columns : List ColumnDef) (sort : List ℕ) → IsSound s → (count : ℕ) → IsNewTable (without_front count (created name columns sort s)) s.drawn
new-created s name columns sort sound count =
    let t = created name columns sort s in
    record {
      there = there-created s.tables s.drawn name columns sort;
      empty = λ epoch low high. same-equal (tables_at (without_front count t) epoch s.drawn) []
          (at-without_front t count epoch s.drawn low ∙ at-same t s epoch s.drawn (rows_in-created s.tables s.drawn name columns sort s.drawn) refl ∙ at-drawn s sound epoch);
    }

-- so is the one of an accepted CREATE TABLE
pub new-empty : (old new : State) (name : List ℕ) (columns : List ColumnDef) (sort : List ℕ) (answer : Answer) → IsSound old
    → Accepts old (commands.CreateTable name columns sort) answer new → IsNewTable new old.drawn
new-empty old new name columns sort answer sound a =
    let whole : IsNewTable (without_front a.trims.count a.whole) old.drawn =
    subst (λ s. IsNewTable (without_front a.trims.count s) old.drawn) (sym a.leads.1) (new-created old name columns sort sound a.trims.count) in
    subst (λ s. IsNewTable s old.drawn) (sym a.trims.state) whole
