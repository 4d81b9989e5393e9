-- Statements leave sound states, whether they are accepted or refused.
use Rattle.std.proofs.Common.{◌≡◌, ℕ, List, [], ◌∷◌, map, Option, Some, None, Result, Ok, Err, refl, sym, subst, arith, eq-eqb}
use Rattle.std.specs.Prelude.{option_map}
use Rattle.cq_values.specs.Texts.{is_text}
use Rattle.cq_model_bags.proofs.Totals.{by_test}
use Rattle.cq_binder_rules.specs.declared.bound.Bound.{Bound}
use Rattle.cq_binder_rules.specs.declared.bound.Bound.TheVariants as commands
use Rattle.cq_sql_language.specs.declared.statement.Statement.{Statement}
use Rattle.cq_sql_language.specs.declared.statement.Statement.TheVariants as statements
use Rattle.cq_model_step.specs.declared.answer.Answer.{Answer}
use Rattle.cq_binder_rules.specs.declared.fault.Fault.{Fault}
use Rattle.cq_binder_rules.specs.Scopes.{place_in, from_table, scope_of}
use Rattle.cq_binder_rules.specs.Sets.{bound_where}
use Rattle.cq_binder_rules.specs.From.{From, from_walk, view_walk}
use Rattle.cq_binder_rules.specs.Bound.{row_of, bound_select, bound_update, bound, bound_view, standing, rows_read}
use Rattle.cq_binder_rules.specs.Records.{Files}
use Rattle.cq_model_state.specs.State.{IsThere, TableOf, State, table_named, view_place, first_state}
use Rattle.cq_model_step.specs.Next.{reach}
use Rattle.cq_model_step.specs.Step.{Does, GivesUp, Refuses, by_walk, for_memory, source_failed, memory_on_the_way, too_large, Step}
use Rattle.cq_model_step_laws.specs.Sound.{Fits, IsSound}
use Rattle.cq_model_step_laws.proofs.Numbers.{there-behind}
use Rattle.cq_model_step_laws.proofs.Times.{reach-in_time, between-in_time}
use Rattle.cq_model_step_laws.proofs.Follows.{follows-views, follows-accepts}

-- a table that is found by its name is there by its number
there-named : (name : List ℕ) (tables : List TableOf) (t : TableOf) → table_named name tables ≡ Some t → IsThere t.number tables
there-named name [] t e = absurd (cc)
there-named name (u ∷ us) t e = by_test (is_text u.name name)
    (λ k. let found : u ≡ t = let h = rw k at e in cc in subst (λ v. IsThere v.number (u ∷ us)) found (rw (eq-eqb u.number u.number refl) refl))
    (λ k. there-behind t.number u us (there-named name us t (rw k at e)))

-- a command of a table that is found by its name
of_table : (s : State) (name : List ℕ) (command : Bound) (make : TableOf → Bound) → ((t : TableOf) → IsThere t.number s.tables → Fits s (make t))
    → option_map make (table_named name s.tables) ≡ Some command → Fits s command
of_table s name command make fits e = found (table_named name s.tables) refl e
  where
    found : (o : Option TableOf) → table_named name s.tables ≡ o → option_map make o ≡ Some command → Fits s command
    found None h e = absurd (cc)
    found (Some t) h e = let is : make t ≡ command = cc in subst (Fits s) is (fits t (there-named name s.tables t h))

-- a statement whose tables are there is bound to a command that fits
pub bound-fits : (files : Files) (s : State) (statement : Statement) (command : Bound) → bound files s statement ≡ Some command → Fits s command
bound-fits files s (statements.CreateTable name columns sort) command e =
    let is : commands.CreateTable name columns (map (place_in columns) sort) ≡ command = cc in subst (Fits s) is tt
bound-fits files s (statements.DropTable name) command e = of_table s name command (λ t. commands.DropTable t.number) (λ t there. there) e
bound-fits files s (statements.CreateView name view) command e = found (standing (view_walk s view)) e
  where
    found : (o : Option From) → option_map (bound_view name view) o ≡ Some command → Fits s command
    found None e = absurd (cc)
    found (Some from) e = let is : bound_view name view from ≡ command = cc in subst (Fits s) is tt
bound-fits files s (statements.DropView name) command e = placed (view_place name s.views) e
  where
    placed : (o : Option ℕ) → option_map commands.DropView o ≡ Some command → Fits s command
    placed None e = absurd (cc)
    placed (Some place) e = let is : commands.DropView place ≡ command = cc in subst (Fits s) is tt
bound-fits files s (statements.Insert name rows) command e = of_table s name command (λ t. commands.Insert t.number (map row_of rows)) (λ t there. there) e
bound-fits files s (statements.Copy name file) command e = of_table s name command (λ t. commands.Insert t.number (rows_read t (files file))) (λ t there. there) e
bound-fits files s (statements.Delete name condition) command e =
    of_table s name command (λ t. commands.Delete t.number (bound_where (scope_of (from_table t)) condition)) (λ t there. there) e
bound-fits files s (statements.Update name sets condition) command e = of_table s name command (bound_update sets condition) (λ t there. there) e
bound-fits files s (statements.Select q) command e = found (standing (from_walk s q)) e
  where
    found : (o : Option From) → option_map (bound_select q) o ≡ Some command → Fits s command
    found None e = absurd (cc)
    found (Some from) e = let is : bound_select q from ≡ command = cc in subst (Fits s) is tt
bound-fits files s (statements.Move name rows) command e = of_table s name command (λ t. commands.Move t.number rows) (λ t there. there) e
bound-fits files s (statements.Merge name) command e = of_table s name command (λ t. commands.Merge t.number) (λ t there. there) e
bound-fits files s (statements.Refresh view changes) command e = placed (view_place view s.views) e
  where
    placed : (o : Option ℕ) → option_map (λ place. commands.Refresh place changes) o ≡ Some command → Fits s command
    placed None e = absurd (cc)
    placed (Some place) e = let is : commands.Refresh place changes ≡ command = cc in subst (Fits s) is tt

-- the state in which nothing is there
pub first-sound : (max_rows : ℕ) → IsSound (first_state max_rows)
first-sound max_rows = record {
  numbered = tt;
  whole = omega arith;
  drawn = omega arith;
  known = tt;
  epochs = tt;
  bags = λ epoch n low high there. absurd (cc);
}

-- a command that gives up moves views alone
sound-gives_up : (old new : State) (command : Bound) → IsSound old → GivesUp old command new → IsSound new
sound-gives_up old new command sound g =
    let epochs = between-in_time old.passed old.now (reach old command) (reach-in_time old command) 0 old.views new.views sound.epochs g.views in
    subst IsSound (sym g.state) (follows-views old new.views sound epochs).sound

-- no refusal does more
sound-refuses : (files : Files) (old new : State) (statement : Statement) (f : Fault) → IsSound old → Refuses files old statement f new → IsSound new
sound-refuses files old new statement f sound (by_walk r e) = subst IsSound (sym e) sound
sound-refuses files old new statement f sound (for_memory r e) = subst IsSound (sym e) sound
sound-refuses files old new statement f sound (source_failed r q e) = subst IsSound (sym e) sound
sound-refuses files old new statement f sound (memory_on_the_way command r b q g) = sound-gives_up old new command sound g
sound-refuses files old new statement f sound (too_large command r b l q g) = sound-gives_up old new command sound g

-- an accepted statement leaves a sound state
does-sound : (files : Files) (old new : State) (statement : Statement) (answer : Answer) → IsSound old → Does files old statement answer new → IsSound new
does-sound files old new statement answer sound d = (follows-accepts old new d.command answer sound (bound-fits files old statement d.command d.is_bound) d.accepts).sound

-- so every step leaves a sound state
pub step-sound : (files : Files) (old new : State) (statement : Statement) (outcome : Result Answer Fault) → IsSound old → Step files old statement outcome new → IsSound new
step-sound files old new statement (Ok answer) sound d = does-sound files old new statement answer sound d
step-sound files old new statement (Err f) sound r = sound-refuses files old new statement f sound r
