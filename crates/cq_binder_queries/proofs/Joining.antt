-- How FROM is walked through, source by source.
use Rattle.std.proofs.Common.{◌≡◌, ℕ, ◌+◌, ◌<◌, Bool, false, List, [], ◌∷◌, ◌++◌, map, length, get_or, drop, sym, Option, Some, None, Result, Ok, Err, refl, ap, ap₂, ◌∙◌}
use Rattle.std.specs.Prelude.{nat_lt, unwrap_or}
use Rattle.cq_model.specs.declared.query.Equality.{Equality}
use Rattle.cq_model.specs.declared.query.Join.{Join}
use Rattle.cq_model.specs.declared.query.Source.{Source}
use Rattle.cq_model_state.specs.State.{State}
use Rattle.std.proofs.lemmas.List.{at_drop_more}
use Rattle.cq_sql_language.specs.declared.statement.FromSource.{FromSource}
use Rattle.cq_sql_language.specs.declared.statement.JoinedSource.{JoinedSource}
use Rattle.cq_binder_rules.specs.declared.fault.Fault.{Fault}
use Rattle.cq_binder_rules.specs.Checks.{first_fault, MayRefuse}
use Rattle.cq_binder_rules.specs.From.{From, base_limit, columns_with, equality_check, equality_of, first_from, first_walk, join_checks, join_walk, joined_with, joins_walk, passing}
use Rattle.cq_binder_rules.specs.Kinds.{◌and_then◌}
use Rattle.cq_binder_rules.specs.Scopes.{Named, known_as, source_columns, source_named}
use Rattle.cq_binder_rules.specs.Typing.{ScopeColumn, fault_in, is_known}
use Rattle.cq_binder_queries.proofs.Faults.{first_fault_cons, one_check, or_next, refused_along, refused_front, refused_same}

-- a fault of what comes first is one of the whole
pub refused_before : {A B : Type 0} (r : Result A Fault) (k : A → Result B Fault) (f : Fault) → MayRefuse (fault_in r) f → MayRefuse (fault_in (r and_then k)) f
refused_before {A = A} r k f m = refused_along (fault_in r) (fault_in (r and_then k)) f (along r) m
  where
    along : (q : Result A Fault) → fault_in q ≡ Some f → fault_in (q and_then k) ≡ Some f
    along (Ok x) e = absurd (cc e)
    along (Err g) e = e

-- what passes has the fault that is asked for, or none
passing_fault : {A : Type 0} (o : Option Fault) (x : A) → fault_in (passing o x) ≡ o
passing_fault None x = refl
passing_fault (Some f) x = refl

-- nothing in FROM is known by the name of a source that is to be joined, and it leaves no more tables there than may be
pub record MayJoin (from : From) (j : JoinedSource) (source : Named) (name : List ℕ) : Type 0 where
  pub known : name ≡ known_as j.source source
  pub free : is_known from.columns (known_as j.source source) ≡ false
  pub few : nat_lt base_limit (from.bases + source.bases) ≡ false

module _ (from : From) (j : JoinedSource) (source : Named) (name : List ℕ) where
  -- both were asked, and neither was so
  pub may_join : (own : List ℕ) (columns : List ScopeColumn) (bases : ℕ) (taken many : Bool) → name ≡ unwrap_or j.source.alias own → own ≡ source.known → columns ≡ from.columns → taken ≡ is_known columns name → taken ≡ false
      → bases ≡ source.bases → many ≡ nat_lt base_limit (from.bases + bases) → many ≡ false → MayJoin from j source name
  may_join own columns bases taken many named is_own seen is_taken free few_is is_many few =
      let known : name ≡ known_as j.source source = named ∙ ap (unwrap_or j.source.alias) is_own in
      record { known = known; free = sym (is_taken ∙ ap₂ is_known seen known) ∙ free; few = sym (is_many ∙ ap (λ (n : ℕ). nat_lt base_limit (from.bases + n)) few_is) ∙ few }

  -- its columns stand behind those of FROM
  pub stand_behind : (columns : List ScopeColumn) → MayJoin from j source name → columns ≡ from.columns ++ source_columns name source → columns ≡ columns_with from.columns j.source source
  stand_behind columns may pushed = pushed ∙ ap (λ (called : List ℕ). from.columns ++ source_columns called source) may.known

module _ (may : Named → Option Fault) where
  -- ---- The first source, once it was found
  module _ (f : FromSource) (o : Option Named) (source : Named) (there : o ≡ Some source) where
    -- where it may not stand, it refuses
    pub first_refused : (fault : Fault) → MayRefuse (first_fault (may source ∷ [])) fault → MayRefuse (fault_in (first_walk may f o)) fault
    first_refused fault m =
        let is : fault_in (first_walk may f o) ≡ may source = ap (λ (n : Option Named). fault_in (first_walk may f n)) there ∙ passing_fault (may source) (first_from f source) in
        refused_same (first_fault (may source ∷ [])) (fault_in (first_walk may f o)) fault (is ∙ sym (one_check (may source))) m

    -- where it may, FROM begins with it
    pub first_stands : (from : From) → first_fault (may source ∷ []) ≡ None → from ≡ first_from f source → first_walk may f o ≡ Ok from
    first_stands from free is =
        ap (λ (n : Option Named). first_walk may f n) there
        ∙ ap (λ (p : Option Fault). passing p (first_from f source)) (sym (one_check (may source)) ∙ free)
        ∙ ap (λ (x : From). Ok x) (sym is)

  -- ---- A source that is joined, once it was found
  module _ (from : From) (j : JoinedSource) (source : Named) where
    abbrev columns : List ScopeColumn
    columns = columns_with from.columns j.source source

    abbrev on_walk : List (Option Fault)
    on_walk = map (equality_check columns (length from.columns)) j.on

    abbrev walk : Result From Fault
    walk = join_walk may from j (Some source)

    walk_fault : fault_in walk ≡ first_fault (join_checks may from j source)
    walk_fault = passing_fault (first_fault (join_checks may from j source)) (joined_with from j source)

    module _ (free : is_known from.columns (known_as j.source source) ≡ false) (few : nat_lt base_limit (from.bases + source.bases) ≡ false) where
      -- whether it may stand decides, and then the equalities
      standing_decides : first_fault (join_checks may from j source) ≡ first_fault (may source ∷ on_walk)
      standing_decides = rw (free, few) refl

      -- where it may not stand, it refuses
      pub source_refused : (f : Fault) → MayRefuse (first_fault (may source ∷ [])) f → MayRefuse (fault_in walk) f
      source_refused f m = refused_same (first_fault (may source ∷ on_walk)) (fault_in walk) f (walk_fault ∙ standing_decides) (refused_front (may source ∷ []) on_walk f m)

      module _ (stands : first_fault (may source ∷ []) ≡ None) where
        on_decides : first_fault (join_checks may from j source) ≡ first_fault on_walk
        on_decides = standing_decides ∙ first_fault_cons (may source) on_walk ∙ or_next (may source) (first_fault on_walk) (sym (one_check (may source)) ∙ stands)

        -- an equality refuses
        pub equality_refused : (f : Fault) → MayRefuse (first_fault on_walk) f → MayRefuse (fault_in walk) f
        equality_refused f m = refused_same (first_fault on_walk) (fault_in walk) f (walk_fault ∙ on_decides) m

        -- none refuses
        pub joins : first_fault on_walk ≡ None → walk ≡ Ok (joined_with from j source)
        joins none = ap (λ (o : Option Fault). passing o (joined_with from j source)) (on_decides ∙ none)

  -- the walk through what is left: the next source, and then those behind it
  pub joins_more : (s : State) (from : From) (js : List JoinedSource) (i : ℕ) (j : JoinedSource) → i < length js → j ≡ get_or js i j
      → joins_walk may s from (drop i js) ≡ (join_walk may from j (source_named j.source.name s) and_then λ wide. joins_walk may s wide (drop (i + 1) js))
  joins_more s from js i j lt is =
      at_drop_more (joins_walk may s from) js i j lt ∙ ap (λ (x : JoinedSource). joins_walk may s from (x ∷ drop (i + 1) js)) (sym is)

-- what is put together is FROM with the source
module _ (from : From) (j : JoinedSource) (source : Named) where
  abbrev wide_columns : List ScopeColumn
  wide_columns = columns_with from.columns j.source source

  pub joined_made : (joins : List Join) (wide : List ScopeColumn) (on : List Equality) (named : Source) (bases : ℕ)
      → joins ≡ from.joins ++ record { source = named; on = on } ∷ [] → wide ≡ wide_columns → on ≡ map (equality_of wide_columns (length from.columns)) j.on
      → named ≡ source.source → bases ≡ source.bases
      → record { first = from.first; joins = joins; columns = wide; bases = from.bases + bases } ≡ joined_with from j source
  joined_made joins wide on named bases all e h k b =
      ap (λ (js : List Join). record { first = from.first; joins = js; columns = wide; bases = from.bases + bases }) all
      ∙ λ i. record { first = from.first; joins = from.joins ++ record { source = k i; on = h i } ∷ []; columns = e i; bases = from.bases + b i }
