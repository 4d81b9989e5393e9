-- What views counted behind a command.
use Rattle.std.proofs.Common.{◌≡◌, ◌⊎◌, ℕ, List, [], ◌∷◌, Option, Some, Result, Ok, Err, inl, inr, subst, sym}
use Rattle.std.specs.Global.{Vec}
use Rattle.cq_binder_rules.specs.Bound.{bound}
use Rattle.cq_binder_rules.specs.Records.{Files}
use Rattle.cq_binder_rules.specs.Sources.{AreTold}
use Rattle.cq_binder_rules.specs.declared.bound.Bound.{Bound}
use Rattle.cq_binder_rules.specs.declared.bound.Bound.TheVariants as commands
use Rattle.cq_binder_rules.specs.declared.fault.Fault.{Fault}
use Rattle.cq_binder_rules.specs.declared.fault.Fault.TheVariants.{Memory}
use Rattle.cq_model.specs.declared.query.Order.{Order}
use Rattle.cq_model.specs.declared.query.Query.{Query}
use Rattle.cq_model_state.specs.State.{State, ViewOf}
use Rattle.cq_model_step.specs.Next.{reach}
use Rattle.cq_model_step.specs.declared.answer.Answer.{Answer}
use Rattle.cq_sql_language.specs.declared.statement.Statement.{Statement}
use Rattle.cq_values.specs.Value.{Row}
use Rattle.cq_engine_queue.proofs.Counting.{counted-itself}
use Rattle.cq_engine_queue.specs.Counts.{AllCount, HaveCounted, MayBegin}
use Rattle.cq_engine_queue.specs.History.{IsHistory, IsQueueOf}
use Rattle.cq_engine_queue.specs.Queued.{Queued}
use Rattle.cq_engine_tables.specs.Views.{AreRight, NamedView, views_of}
use Rattle.cq_engine.specs.Held.{CountsBy, CountsFrom, Held}
use Rattle.cq_engine.specs.Reading.{CountsNamed, named_to}

-- views that stay where they are count nothing
pub counted-all : (s : State) (vs : List NamedView) → HaveCounted s vs vs
counted-all s [] = tt
counted-all s (v ∷ vs) = (counted-itself s v, counted-all s vs)

-- once the views are where they are to go, they counted so whichever way a query ends
pub counted-anyway : (q : Query) (now : ℕ) (queue : Queued) (old new : Vec NamedView) (r : Result (List Row) Fault) → AllCount queue old.items new.items → CountsNamed q now queue old new r
counted-anyway q now queue old new (Ok rows) counts = counts
counted-anyway q now queue old new (Err f) counts = inl counts

-- what a refused query counted is what its SELECT may have counted
pub counts-refused : (s : State) (header : List (List ℕ)) (q : Query) (order : Order) (queue : Queued) (old new : Vec NamedView) (f : Fault) → IsQueueOf s queue → IsHistory s → AreRight s old.items → s.views ≡ views_of old.items → CountsNamed q s.now queue old new (Err f)
    → HaveCounted s old.items new.items ⊎ ((f ≡ Memory) × MayBegin (reach s (commands.Select header q order)) s 0 old.items new.items)
counts-refused s header q order queue old new f of history right are (inl counts) = inl (counts s of history right)
counts-refused s header q order queue old new f of history right are (inr begun) =
    inr (begun.0, subst (λ (views : List ViewOf). MayBegin (named_to views q s.now) s 0 old.items new.items) (sym are) (begun.1 s of history right))

-- what a command counted, a statement did that was bound to it
pub counts-bound : (told : Option Files) (files : Files) (old new : Held) (statement : Statement) (command : Bound) (result : Result Answer Fault) → AreTold told files → bound files old.state statement ≡ Some command → CountsBy old command result new
    → CountsFrom told old statement result new
counts-bound told files old new statement command (Ok answer) are is counts = (command, (files, are, is), counts)
counts-bound told files old new statement command (Err f) are is (inl counts) = inl counts
counts-bound told files old new statement command (Err f) are is (inr begun) = inr (command, (files, are, is), begun)
