-- The view that has the answer to a query at hand, and where views are to go for a SELECT.
use Rattle.std.proofs.Common.{◌≡◌, ◌∙◌, ℕ, zero, suc, ◌+◌, ◌<◌, Bool, true, false, cond, List, [], ◌∷◌, length, map, Option, Some, None, Result, Ok, Err, refl, sym, ap, ap₂, subst, arith, eq-eqb}
use Rattle.std.specs.Prelude.{◌||◌, ◌==◌, nat_eq, if◌then◌else◌, option_map, slice_get, is_some, IfSome, OnOk, position}
use Rattle.std.specs.List.{AllByRecursion, find, list_any}
use Rattle.std.specs.Option.{option_eq}
use Rattle.std.proofs.lemmas.Option.{same_Some, slice_get-map, slice_get_within}
use Rattle.cq_model.specs.Views.{is_view, sources_of}
use Rattle.cq_model.specs.declared.query.Query.{Query}
use Rattle.cq_model.specs.declared.query.Source.{Source}
use Rattle.cq_model.specs.declared.query.Source.TheVariants.{Table, View}
use Rattle.cq_model_core.specs.Core.{HasCoreOf, has_core}
use Rattle.cq_model_core.specs.Laws.{CoreIsTold}
use Rattle.cq_model_state.specs.State.{State, ViewOf}
use Rattle.cq_model_step.specs.Named.{core_place, is_named}
use Rattle.cq_model_step.specs.Next.{at_epoch, taken_on}
use Rattle.cq_views.specs.Laws.{StandingDependsOnSources}
use Rattle.cq_views_model.specs.Query.{IsTable}
use Rattle.cq_engine_answers.specs.AtHand.{IsAtHand}
use Rattle.cq_engine_queue.proofs.Later.{present-right}
use Rattle.cq_engine_queue.specs.Goal.{goal_of, sources_to}
use Rattle.cq_engine_queue.specs.declared.goal.Goal.TheVariants.{At}
use Rattle.cq_engine_tables.proofs.Images.{position-map}
use Rattle.cq_engine_tables.proofs.Places.{found_there, same_presence}
use Rattle.cq_engine_tables.specs.Views.{AreRight, IsRight, NamedView, view_of, views_of}
use Rattle.cq_engine.proofs.FoundByName.{mapped}
use Rattle.cq_engine.proofs.Selecting.{right-at}
use Rattle.cq_engine.specs.Reading.{named_to}
use Rattle.cq_engine.specs.Sources.{core_name}

-- the first view with the core stands where it stands among those that are kept
pub core_placed : (q : Query) (vs : List NamedView) → core_place q (views_of vs) ≡ position (λ v. has_core q v.kept.query) vs
core_placed q vs = position-map view_of (λ v. has_core q v.query) vs

-- and it is that one
pub core_told : (q : Query) (vs : List NamedView) → core_name q (views_of vs) ≡ option_map (λ v. v.name) (find (λ v. has_core q v.kept.query) vs)
core_told q [] = refl
core_told q (v ∷ vs) = by (has_core q v.kept.query) refl (core_told q vs)
  where
    by : (b : Bool) → has_core q v.kept.query ≡ b → core_name q (views_of vs) ≡ option_map (λ w. w.name) (find (λ w. has_core q w.kept.query) vs) → core_name q (views_of (v ∷ vs)) ≡ option_map (λ w. w.name) (find (λ w. has_core q w.kept.query) (v ∷ vs))
    by true k rest = rw k refl
    by false k rest = rw k rest

-- what holds anyway holds where an answer came
pub on_ok_always : {X E P : Type 0} (r : Result X E) → P → OnOk r P
on_ok_always (Ok x) p = p
on_ok_always (Err e) p = tt

-- ---- The first that passes a test
find_passes : {X : Type 0} (p : X → Bool) (xs : List X) (x : X) → find p xs ≡ Some x → p x ≡ true
find_passes p [] x e = absurd (cc e)
find_passes {X = X} p (y ∷ ys) x e = by (p y) refl e (find_passes p ys x)
  where
    by : (b : Bool) → p y ≡ b → cond b (Some y) (find p ys) ≡ Some x → (find p ys ≡ Some x → p x ≡ true) → p x ≡ true
    by true k h rest = subst (λ (z : X). p z ≡ true) (same_Some y x h) k
    by false k h rest = rest h

-- it is there, and passes
pub position_there : {X : Type 0} (p : X → Bool) (xs : List X) (i : ℕ) → position p xs ≡ Some i → (x : X) × (slice_get xs i ≡ Some x) × (p x ≡ true)
position_there {X = X} p xs i e = by (find p xs) refl (sym (same_presence p xs) ∙ ap is_some e)
  where
    there : slice_get xs i ≡ find p xs
    there = subst (λ (o : Option ℕ). IfSome o (λ j. slice_get xs j ≡ find p xs)) e (found_there p xs)

    by : (o : Option X) → find p xs ≡ o → is_some o ≡ true → (x : X) × (slice_get xs i ≡ Some x) × (p x ≡ true)
    by None k h = absurd (cc h)
    by (Some x) k h = (x, there ∙ k, find_passes p xs x k)

-- ---- Where views are to go
no-views : (place : ℕ) (sources : List Source) → AllByRecursion IsTable sources → list_any (is_view place) sources ≡ false
no-views place [] all = refl
no-views place (Table n ∷ sources) all = no-views place sources all.1
no-views place (View n ∷ sources) all = absurd all.0

or-nothing : (b : Bool) → (b || false) ≡ b
or-nothing true = refl
or-nothing false = refl

-- where no view has the core, the query names those in FROM
pub named-sources : (views : List ViewOf) (q : Query) (now : ℕ) → core_place q views ≡ None → sources_to q now ≡ named_to views q now
named-sources views q now none = λ i place v. if same place i then now else v.epoch
  where
    same : (place : ℕ) → list_any (is_view place) (sources_of q) ≡ is_named views q place
    same place = sym (ap (λ (o : Option ℕ). list_any (is_view place) (sources_of q) || option_eq nat_eq o (Some place)) none ∙ or-nothing (list_any (is_view place) (sources_of q)))

-- where one has, it names that one, since it reads tables alone
pub named-core : (views : List ViewOf) (q : Query) (now place : ℕ) → core_place q views ≡ Some place → AllByRecursion IsTable (sources_of q) → goal_of (At place) now ≡ named_to views q now
named-core views q now place at tables = λ i p v. if same p i then now else v.epoch
  where
    same : (p : ℕ) → (place == p) ≡ is_named views q p
    same p = sym (ap₂ (λ (b : Bool) (o : Option ℕ). b || option_eq nat_eq o (Some p)) (no-views p (sources_of q) tables) at)

-- ---- The view at that place
module _ (told : CoreIsTold) (s : State) (q : Query) (vs : List NamedView) (right : AreRight s vs) (place : ℕ) (at : core_place q (views_of vs) ≡ Some place) where
  found : (v : NamedView) × (slice_get vs place ≡ Some v) × (has_core q v.kept.query ≡ true)
  found = position_there (λ v. has_core q v.kept.query) vs place (sym (core_placed q vs) ∙ at)

  core_there : HasCoreOf q found.0.kept.query
  core_there = (told q found.0.kept.query).0 found.2

  right_there : IsRight s found.0
  right_there = right-at s vs place found.0 right found.1

  -- the query reads tables alone, as the view does
  pub core-tables : AllByRecursion IsTable (sources_of q)
  core-tables = subst (λ (sources : List Source). AllByRecursion IsTable sources) (sym same) right_there.fits.can.tables
    where
      same : sources_of q ≡ sources_of found.0.kept.query
      same = λ i. core_there.first i ∷ map (λ j. j.source) (core_there.joins i)

  -- where the views were taken on, it stands there at its epoch
  taken-there : (to : ℕ → ViewOf → ℕ) (from : ℕ) (olds : List ViewOf) (i : ℕ) (v : ViewOf) → slice_get olds i ≡ Some v → slice_get (taken_on to from olds) i ≡ Some (at_epoch (to (from + i) v) v)
  taken-there to from [] i v e = absurd (cc e)
  taken-there to from (u ∷ us) zero v e =
      let here : from ≡ from + 0 = omega arith in
      ap (λ (w : ViewOf). Some (at_epoch (to from w) w)) (same_Some u v e) ∙ ap (λ (p : ℕ). Some (at_epoch (to p v) v)) here
  taken-there to from (u ∷ us) (suc i) v e =
      let next : from + 1 + i ≡ from + suc i = omega arith in
      taken-there to (from + 1) us i v e ∙ ap (λ (p : ℕ). Some (at_epoch (to p v) v)) next

  module _ (law : StandingDependsOnSources) (whole : s.passed + length s.queue ≡ s.now) (now : ℕ) (is_now : s.now ≡ now) (news : List NamedView) (still : AreRight s news) (taken : views_of news ≡ taken_on (goal_of (At place) now) 0 (views_of vs)) where
    old_there : slice_get (views_of vs) place ≡ Some (view_of found.0)
    old_there = slice_get-map view_of vs place ∙ ap (option_map view_of) found.1

    new_there : option_map view_of (slice_get news place) ≡ Some (at_epoch (goal_of (At place) now (0 + place) (view_of found.0)) (view_of found.0))
    new_there =
        sym (slice_get-map view_of news place) ∙ ap (λ (us : List ViewOf). slice_get us place) taken
        ∙ taken-there (goal_of (At place) now) 0 (views_of vs) place (view_of found.0) old_there

    pub new_inside : place < length news
    new_inside = let w = mapped view_of (slice_get news place) _ new_there in slice_get_within news place w.0 w.1

    -- so it has the answer at hand
    pub at_hand : IsAtHand s.tables news q place
    at_hand =
        let w = mapped view_of (slice_get news place) _ new_there in
        let here : place ≡ 0 + place = omega arith in
        let epoch : w.0.kept.state.epoch ≡ now =
        ap (λ (u : ViewOf). u.epoch) w.2 ∙ ap (λ (b : Bool). if b then now else found.0.kept.state.epoch) (eq-eqb place (0 + place) here) in
        record {
          view = w.0;
          there = w.1;
          present = present-right law s whole w.0 (right-at s news place w.0 still w.1) (epoch ∙ sym is_now);
          core = subst (HasCoreOf q) (sym (ap (λ (u : ViewOf). u.query) w.2)) core_there;
        }
