-- What the engine does with its tables and views is what the command says.
use Rattle.std.proofs.Common.{◌≡◌, ℕ, ◌+◌, ◌≤◌, List, [], ◌∷◌, ◌++◌, length, Option, Some, None, Err, refl, sym, ap, ◌∙◌, inl, inr, arith, subst}
use Rattle.std.specs.Prelude.{Bool}
use Rattle.std.specs.List.{AllByRecursion}
use Rattle.std.proofs.Math.Nat.{add-zero}
use Rattle.std.proofs.lemmas.List.{drop_all, length-append}
use Rattle.cq_values.specs.Value.{Row}
use Rattle.cq_model_bags.specs.Bag.{SameBag, difference, once_each}
use Rattle.cq_model_bags.proofs.Bags.{same-equal}
use Rattle.cq_model_bags.proofs.Lists.{all-drop, all-push, all-weaker}
use Rattle.cq_binder_rules.specs.Checks.{MayRefuse}
use Rattle.cq_binder_rules.specs.declared.bound.Bound.{Bound}
use Rattle.cq_binder_rules.specs.declared.bound.Bound.TheVariants as commands
use Rattle.cq_binder_rules.specs.declared.fault.Fault.{Fault}
use Rattle.cq_model.specs.declared.query.Order.{Order}
use Rattle.cq_model.specs.declared.query.Query.{Query}
use Rattle.cq_model_state.specs.State.{ChangeOf, State, ViewOf, rows_in}
use Rattle.cq_model_step.specs.Next.{Trims, Writes, reach, with_all_views, written}
use Rattle.cq_model_step.specs.Step.{Accepts, AreBetween, GivesUp, Leads}
use Rattle.cq_model_step.specs.declared.answer.Answer.{Answer}
use Rattle.cq_model_step_laws.specs.Sound.{IsInTime}
use Rattle.cq_engine_answers.specs.Selects.{Selects}
use Rattle.cq_engine_queue.specs.History.{IsSmall}
use Rattle.cq_engine_queue.specs.Queued.{IsTrimmed, Notes, Queued}
use Rattle.cq_engine_tables.specs.Views.{NamedView, views_of}
use Rattle.cq_engine_writes.specs.Changing.{Tells}
use Rattle.cq_engine.specs.Commands.{CarriesOut, IsRefused, room}

-- ---- Changes that leave the queue
-- views that stand in time have passed what was dropped
passed-none : (first last : ℕ) (views : List ViewOf) → AllByRecursion (IsInTime first last) views → AllByRecursion (λ v. first + 0 ≤ v.epoch) views
passed-none first last views times = all-weaker (IsInTime first last) (λ v. first + 0 ≤ v.epoch) (λ v time. omega (arith, time.kept)) views times

-- nothing is dropped
pub none-dropped : (s : State) → AllByRecursion (IsInTime s.passed s.now) s.views → Trims s s
none-dropped s times = record { count = 0; there = omega arith; passed = passed-none s.passed s.now s.views times; state = rw (add-zero s.passed) refl }

passed-views : (bound : ℕ) (vs : List NamedView) → AllByRecursion (λ v. bound ≤ v.kept.state.epoch) vs → AllByRecursion (λ v. bound ≤ v.epoch) (views_of vs)
passed-views bound [] all = tt
passed-views bound (v ∷ vs) all = (all.0, passed-views bound vs all.1)

-- the state with another queue
abbrev pub with_queue : Queued → State → State
with_queue q s = record s { passed = q.passed; queue = q.changes }

-- what each view has passed is dropped
pub some-dropped : (s : State) (vs : List NamedView) (q : Queued) → s.views ≡ views_of vs → IsTrimmed vs s.passed s.queue q → Trims s (with_queue q s)
some-dropped s vs q are trimmed = record {
  count = trimmed.count;
  there = trimmed.there;
  passed = subst (λ (views : List ViewOf). AllByRecursion (λ v. s.passed + trimmed.count ≤ v.epoch) views) (sym are) (passed-views (s.passed + trimmed.count) vs trimmed.behind);
  state = λ i. record { tables = s.tables; views = s.views; now = s.now; drawn = s.drawn; passed = trimmed.passed i; queue = trimmed.changes i; max_rows = s.max_rows };
}

-- ---- Commands that write nothing
-- a command leads to a state, and nothing is dropped
pub unwritten : (old new : State) (command : Bound) (answer : Answer) → AllByRecursion (IsInTime new.passed new.now) new.views → Leads old command answer new → Accepts old command answer new
unwritten old new command answer times leads = record { whole = new; leads = leads; trims = none-dropped new times }

-- or some changes are
pub unwritten-trimmed : (old whole : State) (command : Bound) (answer : Answer) (vs : List NamedView) (q : Queued) → whole.views ≡ views_of vs → IsTrimmed vs whole.passed whole.queue q → Leads old command answer whole
    → Accepts old command answer (with_queue q whole)
unwritten-trimmed old whole command answer vs q are trimmed leads = record { whole = whole; leads = leads; trims = some-dropped whole vs q are trimmed }

-- ---- Writes
-- what a write told is a change that was put behind the others
pub record IsNoted (s : State) (vs : List NamedView) (n : ℕ) (rows : List Row) (q : Queued) : Type 0 where
  pub change : ChangeOf
  pub table : change.table ≡ n
  pub is : SameBag change.rows (difference (once_each rows) (once_each (rows_in s.tables n)))
  pub trimmed : IsTrimmed vs s.passed (s.queue ++ change ∷ []) q
  pub small : AllByRecursion IsSmall q.changes

-- it is told where there are views
pub noted : (s : State) (vs : List NamedView) (n : ℕ) (rows : List Row) (asked : Bool) (told : Option ChangeOf) (old new : Queued) → old.passed ≡ s.passed → old.changes ≡ s.queue
    → AllByRecursion IsSmall s.queue → (told ≡ None → vs ≡ []) → Tells asked n (rows_in s.tables n) rows told → Notes vs told old new → IsNoted s vs n rows new
noted s vs n rows asked (Some c) old new passed changes small none tells notes = record {
  change = c;
  table = tells.is.table;
  is = tells.is.rows;
  trimmed = trimmed;
  small = subst (λ (cs : List ChangeOf). AllByRecursion IsSmall cs) (sym trimmed.changes) (all-drop IsSmall trimmed.count (s.queue ++ c ∷ []) (all-push IsSmall s.queue c small tells.is.small));
}
  where
    trimmed : IsTrimmed vs s.passed (s.queue ++ c ∷ []) new
    trimmed = subst (λ (k : ℕ). IsTrimmed vs k (s.queue ++ c ∷ []) new) passed (subst (λ (cs : List ChangeOf). IsTrimmed vs old.passed (cs ++ c ∷ []) new) changes notes)
noted s vs n rows asked None old new passed changes small none tells notes =
    let d = difference (once_each rows) (once_each (rows_in s.tables n)) in
    let c : ChangeOf = record { table = n; rows = d } in
    let gone : vs ≡ [] = none refl in
    let long : length (s.queue ++ c ∷ []) ≡ length old.changes + 1 = length-append s.queue (c ∷ []) ∙ ap (λ (cs : List ChangeOf). length cs + 1) (sym changes) in
    record {
      change = c;
      table = refl;
      is = same-equal d d refl;
      trimmed = record {
        count = length (s.queue ++ c ∷ []);
        there = omega arith;
        behind = subst (λ (ws : List NamedView). AllByRecursion (λ v. s.passed + length (s.queue ++ c ∷ []) ≤ v.kept.state.epoch) ws) (sym gone) tt;
        most = λ n few all. few;
        passed = omega (arith, notes.0, passed, long);
        changes = notes.1 ∙ sym (drop_all (length (s.queue ++ c ∷ [])) (s.queue ++ c ∷ []) (omega arith));
      };
      small = subst (λ (cs : List ChangeOf). AllByRecursion IsSmall cs) (sym notes.1) tt;
    }

module _ (s : State) (vs : List NamedView) (are : s.views ≡ views_of vs) (n : ℕ) (rows : List Row) (q : Queued) (note : IsNoted s vs n rows q) where
  -- the state behind a write, with all its changes
  abbrev pub whole : State
  whole = written n rows note.change.rows s

  writes : Writes s n rows whole
  writes = record { change = note.change.rows; is_difference = note.is; state = refl }

  same-change : note.change ≡ record { table = n; rows = note.change.rows }
  same-change = λ i. record { table = note.table i; rows = note.change.rows }

  -- a command that writes so is accepted
  pub write-accepted : (command : Bound) (answer : Answer) → (Writes s n rows whole → Leads s command answer whole) → Accepts s command answer (with_queue q whole)
  write-accepted command answer leads = record {
    whole = whole;
    leads = leads writes;
    trims = some-dropped whole vs q are (subst (λ (c : ChangeOf). IsTrimmed vs s.passed (s.queue ++ c ∷ []) q) same-change note.trimmed);
  }

-- ---- Refusals
-- a command that is refused for want of room or memory changes nothing
pub refused : (s t : State) (command : Bound) (f : Fault) → MayRefuse (room s command) f → t ≡ s → CarriesOut s command (Err f) t
refused s t command f may same = inl (may, same)

-- the state in which views have gone on
pub gave-up : (s : State) (command : Bound) (views : List ViewOf) → AreBetween (reach s command) 0 s.views views → GivesUp s command (with_all_views views s)
gave-up s command views between = record { views = between; state = refl }

-- why a SELECT is refused
pub select-refused : (s : State) (header : List (List ℕ)) (q : Query) (order : Order) (f : Fault) (views : List ViewOf) → Selects s.tables s.views q order (Err f) → AreBetween (reach s (commands.Select header q order)) 0 s.views views
    → IsRefused s (commands.Select header q order) f (with_all_views views s)
select-refused s header q order f views (inl m) between = inr (refl, inl m, gave-up s (commands.Select header q order) views between)
select-refused s header q order f views (inr w) between = inr (refl, inr w, gave-up s (commands.Select header q order) views between)
