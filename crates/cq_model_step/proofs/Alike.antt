-- States that differ in nothing that an answer shows: in the epochs of their views and in the front of their queues alone.
use Rattle.std.proofs.Common.{◌≡◌, ℕ, not, List, [], ◌∷◌, map, Option, Some, None, Result, Ok, Err, refl, sym, ap, ◌∙◌}
use Rattle.std.specs.Prelude.{◌||◌, Bool, is_some, option_map, unwrap_or}
use Rattle.cq_values.specs.Texts.{is_text}
use Rattle.cq_model_bags.proofs.Totals.{by_test}
use Rattle.cq_sql_language.specs.declared.statement.Statement.{Statement}
use Rattle.cq_sql_language.specs.declared.statement.Statement.TheVariants as statements
use Rattle.cq_sql_language.specs.declared.statement.JoinedSource.{JoinedSource}
use Rattle.cq_sql_language.specs.declared.statement.Select.{Select}
use Rattle.cq_binder_rules.specs.declared.fault.Fault.{Fault}
use Rattle.cq_binder_rules.specs.declared.fault.Fault.TheVariants as faults
use Rattle.cq_binder_rules.specs.Kinds.{◌and_then◌}
use Rattle.cq_binder_rules.specs.Scopes.{Named, from_table, from_view, source_named}
use Rattle.cq_binder_rules.specs.From.{From, any_source, first_walk, join_walk, joins_walk, no_view, sources_walk}
use Rattle.cq_binder_rules.specs.Bound.{bound, bound_select, bound_view, standing}
use Rattle.cq_binder_rules.specs.Checks.{fault_if, first_fault}
use Rattle.cq_binder_rules.specs.Records.{Files}
use Rattle.cq_binder_rules.specs.Refusal.{is_used, drop_table_checks, select_checks, refusal}
use Rattle.cq_binder_rules.specs.ViewChecks.{view_select_checks}
use Rattle.std.specs.List.{prefix_len, list_any}
use Rattle.std.proofs.lemmas.List.{length-map}
use Rattle.std.specs.Option.{option_or}
use Rattle.cq_binder_rules.specs.declared.bound.Bound.TheVariants as commands
use Rattle.cq_model.specs.Views.{sources_of, is_table}
use Rattle.cq_model_state.specs.State.{TableOf, ViewOf, State, table_named, view_place, view_named, is_taken}
use Rattle.cq_model_step.specs.Next.{at_epoch}

-- the view without its epoch
abbrev pub timeless : ViewOf → ViewOf
timeless v = at_epoch 0 v

-- the same tables, the same views but for their epochs, and as many writes
pub record Alike (x y : State) : Type 0 where
  pub tables : x.tables ≡ y.tables
  pub views : map timeless x.views ≡ map timeless y.views
  pub now : x.now ≡ y.now
  pub drawn : x.drawn ≡ y.drawn
  pub max_rows : x.max_rows ≡ y.max_rows

pub alike_same : (x y : State) → x ≡ y → Alike x y
alike_same x y e = record { tables = ap (λ (s : State). s.tables) e; views = ap (λ (s : State). map timeless s.views) e; now = ap (λ (s : State). s.now) e; drawn = ap (λ (s : State). s.drawn) e; max_rows = ap (λ (s : State). s.max_rows) e }

pub alike_turned : (x y : State) → Alike x y → Alike y x
alike_turned x y a = record { tables = sym a.tables; views = sym a.views; now = sym a.now; drawn = sym a.drawn; max_rows = sym a.max_rows }

pub alike_then : (x y z : State) → Alike x y → Alike y z → Alike x z
alike_then x y z a b = record { tables = a.tables ∙ b.tables; views = a.views ∙ b.views; now = a.now ∙ b.now; drawn = a.drawn ∙ b.drawn; max_rows = a.max_rows ∙ b.max_rows }

-- what of a state an answer shows
abbrev seen : State → State
seen x = record { tables = x.tables; views = map timeless x.views; now = x.now; drawn = x.drawn; passed = 0; queue = []; max_rows = x.max_rows }

seen-alike : (x y : State) → Alike x y → seen x ≡ seen y
seen-alike x y a = λ i. record { tables = a.tables i; views = a.views i; now = a.now i; drawn = a.drawn i; passed = 0; queue = []; max_rows = a.max_rows i }

-- a view is found by its name, whatever its epoch
prefix-timeless : (p : ViewOf → Bool) (vs : List ViewOf) → ((v : ViewOf) → p (timeless v) ≡ p v) → prefix_len p (map timeless vs) ≡ prefix_len p vs
prefix-timeless p [] same = refl
prefix-timeless p (v ∷ vs) same = rw (same v, prefix-timeless p vs same) refl

place-timeless : (name : List ℕ) (vs : List ViewOf) → view_place name (map timeless vs) ≡ view_place name vs
place-timeless name vs = rw (prefix-timeless (λ v. not (is_text v.name name)) vs (λ v. refl), length-map vs timeless) refl

named-timeless : (name : List ℕ) (vs : List ViewOf) → view_named name (map timeless vs) ≡ option_map timeless (view_named name vs)
named-timeless name [] = refl
named-timeless name (v ∷ vs) = by_test (is_text v.name name) (λ k. rw k refl) (λ k. rw k (named-timeless name vs))

there-timeless : (name : List ℕ) (vs : List ViewOf) → is_some (view_named name (map timeless vs)) ≡ is_some (view_named name vs)
there-timeless name vs = ap is_some (named-timeless name vs) ∙ some (view_named name vs)
  where
    some : (o : Option ViewOf) → is_some (option_map timeless o) ≡ is_some o
    some None = refl
    some (Some v) = refl

used-timeless : (n : ℕ) (vs : List ViewOf) → is_used n (map timeless vs) ≡ is_used n vs
used-timeless n [] = refl
used-timeless n (v ∷ vs) = ap (λ (b : Bool). list_any (is_table n) (sources_of v.query) || b) (used-timeless n vs)

-- a source is the same, whatever the epochs
source-timeless : (name : List ℕ) (x : State) → source_named name (seen x) ≡ source_named name x
source-timeless name x = rw (place-timeless name x.views, named-timeless name x.views) (told (view_named name x.views))
  where
    told : (o : Option ViewOf)
        → option_or {T = Named} (option_map from_table (table_named name x.tables)) (option_map (λ (v : ViewOf). from_view v (unwrap_or (view_place name x.views) 0)) (option_map timeless o))
        ≡ option_or {T = Named} (option_map from_table (table_named name x.tables)) (option_map (λ (v : ViewOf). from_view v (unwrap_or (view_place name x.views) 0)) o)
    told None = refl
    told (Some v) = refl

-- what stands behind a result, whatever the epochs
behind-alike : {A B : Type 0} (r : Result A Fault) (f g : A → Result B Fault) → ((x : A) → f x ≡ g x) → (r and_then f) ≡ (r and_then g)
behind-alike (Ok x) f g same = same x
behind-alike (Err e) f g same = refl

-- FROM is walked through alike, whatever may stand in it
module _ (may : Named → Option Fault) where
  joins-timeless : (x : State) (js : List JoinedSource) (from : From) → joins_walk may (seen x) from js ≡ joins_walk may x from js
  joins-timeless x [] from = refl
  joins-timeless x (j ∷ js) from =
      ap (λ (o : Option Named). join_walk may from j o and_then λ wide. joins_walk may (seen x) wide js) (source-timeless j.source.name x)
      ∙ behind-alike (join_walk may from j (source_named j.source.name x)) (λ wide. joins_walk may (seen x) wide js) (λ wide. joins_walk may x wide js) (joins-timeless x js)

  from-timeless : (x : State) (q : Select) → sources_walk may (seen x) q ≡ sources_walk may x q
  from-timeless x q =
      ap (λ (o : Option Named). first_walk may q.first o and_then λ from. joins_walk may (seen x) from q.joins) (source-timeless q.first.name x)
      ∙ behind-alike (first_walk may q.first (source_named q.first.name x)) (λ from. joins_walk may (seen x) from q.joins) (λ from. joins_walk may x from q.joins) (joins-timeless x q.joins)

-- the walk sees no epoch
refusal-seen : (files : Files) (x : State) (s : Statement) → refusal files (seen x) s ≡ refusal files x s
refusal-seen files x (statements.CreateTable name columns sort) = rw (there-timeless name x.views) refl
refusal-seen files x (statements.DropTable name) = used (table_named name x.tables)
  where
    used : (o : Option TableOf) → first_fault (drop_table_checks (map timeless x.views) o) ≡ first_fault (drop_table_checks x.views o)
    used None = refl
    used (Some t) = rw (used-timeless t.number x.views) refl
refusal-seen files x (statements.CreateView name view) =
    let taken : is_taken name (seen x) ≡ is_taken name x = rw (there-timeless name x.views) refl in
    λ i. first_fault (fault_if (taken i) faults.NameTaken ∷ view_select_checks view (from-timeless no_view x view i))
refusal-seen files x (statements.DropView name) = rw (place-timeless name x.views) refl
refusal-seen files x (statements.Insert name rows) = rw (there-timeless name x.views) refl
refusal-seen files x (statements.Copy name file) = rw (there-timeless name x.views) refl
refusal-seen files x (statements.Delete name condition) = rw (there-timeless name x.views) refl
refusal-seen files x (statements.Update name sets condition) = rw (there-timeless name x.views) refl
refusal-seen files x (statements.Select q) = ap (λ (r : Result From Fault). first_fault (select_checks q r)) (from-timeless any_source x q)
refusal-seen files x (statements.Move name rows) = rw (there-timeless name x.views) refl
refusal-seen files x (statements.Merge name) = rw (there-timeless name x.views) refl
refusal-seen files x (statements.Refresh view changes) = rw (place-timeless view x.views) refl

-- and names are resolved without one
bound-seen : (files : Files) (x : State) (s : Statement) → bound files (seen x) s ≡ bound files x s
bound-seen files x (statements.CreateTable name columns sort) = refl
bound-seen files x (statements.DropTable name) = refl
bound-seen files x (statements.CreateView name view) =
    ap (λ (r : Result From Fault). option_map (bound_view name view) (standing r)) (from-timeless no_view x view)
bound-seen files x (statements.DropView name) = ap (option_map commands.DropView) (place-timeless name x.views)
bound-seen files x (statements.Insert name rows) = refl
bound-seen files x (statements.Delete name condition) = refl
bound-seen files x (statements.Select q) = ap (λ (r : Result From Fault). option_map (bound_select q) (standing r)) (from-timeless any_source x q)
bound-seen files x (statements.Move name rows) = refl
bound-seen files x (statements.Merge name) = refl
bound-seen files x (statements.Refresh view changes) = ap (option_map (λ place. commands.Refresh place changes)) (place-timeless view x.views)
bound-seen files x s = refl

pub refusal-alike : (files : Files) (x y : State) (s : Statement) → Alike x y → refusal files x s ≡ refusal files y s
refusal-alike files x y s a = sym (refusal-seen files x s) ∙ ap (λ (z : State). refusal files z s) (seen-alike x y a) ∙ refusal-seen files y s

pub bound-alike : (files : Files) (x y : State) (s : Statement) → Alike x y → bound files x s ≡ bound files y s
bound-alike files x y s a = sym (bound-seen files x s) ∙ ap (λ (z : State). bound files z s) (seen-alike x y a) ∙ bound-seen files y s
