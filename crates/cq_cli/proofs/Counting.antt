-- How many statements and failures a piece counts.
use Rattle.std.proofs.Common.{◌≡◌, ℕ, ◌+◌, ◌≤◌, Bool, true, false, [], ◌∷◌, Option, Result, Ok, Err, ap, arith, if◌then◌else◌}
use Rattle.cq_sql_language.specs.Pieces.{PieceOf}
use Rattle.cq_binder_rules.specs.declared.bound.Bound.{Bound}
use Rattle.cq_binder_rules.specs.declared.bound.Bound.TheVariants as commands
use Rattle.cq_sql_language.specs.declared.statement.Statement.{Statement}
use Rattle.cq_model_step.specs.declared.answer.Answer.{Answer}
use Rattle.cq_binder_rules.specs.declared.fault.Fault.{Fault}
use Rattle.cq_binder_rules.specs.declared.fault.Fault.TheVariants as faults
use Rattle.cq_binder_rules.specs.Records.{Files}
use Rattle.cq_model_state.specs.State.{State}
use Rattle.cq_model_step.specs.Step.{Leads, Does, Refuses, by_walk, for_memory, source_failed, memory_on_the_way, too_large, Step}
use Rattle.cq_model_step.specs.Output.{Serves, rest_without_semicolon, sentence, no_sentence, past_limits, out_of_memory}
use Rattle.cq_model_step.specs.Output.{source_failures}

-- the number that is drawn next
abbrev next : State → ℕ
next s = s.drawn

-- what stays is no more than one more, and so is one more
stays : (new old : ℕ) → new ≡ old → new ≤ old + 1
stays new old is = omega (arith, is)

grows : (new old : ℕ) → new ≡ old + 1 → new ≤ old + 1
grows new old is = omega (arith, is)

-- what is the same leaves a bound
within : (new on_the_way most : ℕ) → new ≡ on_the_way → on_the_way ≤ most → new ≤ most
within new on_the_way most is bound = omega (arith, is, bound)

-- a command draws at most one number
leads_draws : (old whole : State) (command : Bound) (answer : Answer) → Leads old command answer whole → whole.drawn ≤ old.drawn + 1
leads_draws old whole (commands.CreateTable name columns sort) answer l = grows whole.drawn old.drawn (ap next l.1)
leads_draws old whole (commands.DropTable n) answer l = stays whole.drawn old.drawn (ap next l.1)
leads_draws old whole (commands.CreateView name columns q) answer l = stays whole.drawn old.drawn (ap next l.1)
leads_draws old whole (commands.DropView place) answer l = stays whole.drawn old.drawn (ap next l.1)
leads_draws old whole (commands.Insert n rows) answer l = grows whole.drawn old.drawn (ap next l.1.state)
leads_draws old whole (commands.Delete n c) answer l = grows whole.drawn old.drawn (ap next l.1.state)
leads_draws old whole (commands.Update n assignments c) answer l = grows whole.drawn old.drawn (ap next l.1.state)
leads_draws old whole (commands.Select header q order) answer l = stays whole.drawn old.drawn (ap next l.1)
leads_draws old whole (commands.Move n rows) answer l = stays whole.drawn old.drawn (ap next l.1)
leads_draws old whole (commands.Merge n) answer l = stays whole.drawn old.drawn (ap next l.1)
leads_draws old whole (commands.Refresh place changes) answer l = stays whole.drawn old.drawn (ap next l.1)

-- an accepted statement too
does_draws : (files : Files) (old new : State) (s : Statement) (answer : Answer) → Does files old s answer new → new.drawn ≤ old.drawn + 1
does_draws files old new s answer d =
    within new.drawn d.accepts.whole.drawn (old.drawn + 1) (ap next d.accepts.trims.state) (leads_draws old d.accepts.whole d.command answer d.accepts.leads)

-- and a refused one none
refuses_draws : (files : Files) (old new : State) (s : Statement) (f : Fault) → Refuses files old s f new → new.drawn ≤ old.drawn + 1
refuses_draws files old new s f (by_walk refused same) = stays new.drawn old.drawn (ap next same)
refuses_draws files old new s f (for_memory is same) = stays new.drawn old.drawn (ap next same)
refuses_draws files old new s f (source_failed reads is same) = stays new.drawn old.drawn (ap next same)
refuses_draws files old new s f (memory_on_the_way command free bound is gives) = stays new.drawn old.drawn (ap next gives.state)
refuses_draws files old new s f (too_large command free bound large is gives) = stays new.drawn old.drawn (ap next gives.state)

-- a step counts at most one statement more
step_draws : (files : Files) (old new : State) (s : Statement) (o : Result Answer Fault) → Step files old s o new → new.drawn ≤ old.drawn + 1
step_draws files old new s (Ok answer) d = does_draws files old new s answer d
step_draws files old new s (Err f) r = refuses_draws files old new s f r

-- where it is asked whether there is one more, what stays is within it, and so is what is at most one more
stays_within : (new old : ℕ) (more : Bool) → new ≡ old → new ≤ old + (if more then 1 else 0)
stays_within new old true is = omega (arith, is)
stays_within new old false is = omega (arith, is)

grows_within : (new old : ℕ) (more : Bool) → more ≡ true → new ≤ old + 1 → new ≤ old + (if more then 1 else 0)
grows_within new old more is bound = rw is bound

-- a piece counts one statement more where a semicolon ended it, and none otherwise
pub serves_draws : (source : Option Files) (old new : State) (p : PieceOf) (o : Result Answer Fault) → Serves source old p o new → new.drawn ≤ old.drawn + (if p.closed then 1 else 0)
serves_draws source old new p o (rest_without_semicolon unclosed is same) = stays_within new.drawn old.drawn p.closed (ap next same)
serves_draws source old new p o (sentence closed s is step) = grows_within new.drawn old.drawn p.closed closed (step_draws step.0 old new s o step.2)
serves_draws source old new p o (no_sentence closed none is same) = stays_within new.drawn old.drawn p.closed (ap next same)
serves_draws source old new p o (past_limits closed past is same) = stays_within new.drawn old.drawn p.closed (ap next same)
serves_draws source old new p o (out_of_memory closed is same) = stays_within new.drawn old.drawn p.closed (ap next same)

-- an outcome tells of one failure at most
one_at_most : (o : Result Answer Fault) → source_failures (o ∷ []) ≤ 1
one_at_most (Ok answer) = omega arith
one_at_most (Err faults.SourceFailed) = omega arith
one_at_most (Err f) = omega arith

-- and a piece where a semicolon ended it alone
pub serves_failures : (source : Option Files) (old new : State) (p : PieceOf) (o : Result Answer Fault) → Serves source old p o new → source_failures (o ∷ []) ≤ (if p.closed then 1 else 0)
serves_failures source old new p o (rest_without_semicolon unclosed is same) = rw (is, unclosed) (omega arith)
serves_failures source old new p o (sentence closed s is step) = rw closed (one_at_most o)
serves_failures source old new p o (no_sentence closed none is same) = rw closed (one_at_most o)
serves_failures source old new p o (past_limits closed past is same) = rw closed (one_at_most o)
serves_failures source old new p o (out_of_memory closed is same) = rw closed (one_at_most o)
