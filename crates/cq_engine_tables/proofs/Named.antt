-- Views by their names and places.
use Rattle.std.proofs.Common.{◌≡◌, ℕ, ◌<◌, Bool, true, false, cond, List, [], ◌∷◌, length, get_or, Option, Some, None, refl, sym, ap, ◌∙◌, subst}
use Rattle.std.specs.Prelude.{◌||◌, position, nat_lt, option_map, slice_get, IfSome}
use Rattle.std.specs.List.{list_any, position_or_len, remove}
use Rattle.std.proofs.lemmas.Bool.{ltb-true}
use Rattle.std.proofs.lemmas.Option.{same_Some, slice_get-map, slice_get_read}
use Rattle.cq_values.specs.Texts.{is_text}
use Rattle.cq_binder_rules.specs.Refusal.{is_used}
use Rattle.cq_model_state.specs.State.{State, view_named, view_place}
use Rattle.cq_views_model.specs.Query.{reads}
use Rattle.cq_engine_tables.specs.Views.{NamedView, view_of, views_of, IsRight, AreRight}
use Rattle.cq_engine_tables.proofs.Images.{position-map}
use Rattle.cq_engine_tables.proofs.Places.{found_there}
use Rattle.cq_model_bags.proofs.Lists.{all-remove}

-- ---- Views under their names
-- the view of a name stands where it stands among those that are kept
pub place_named : (name : List ℕ) (vs : List NamedView) → view_place name (views_of vs) ≡ position (λ v. is_text v.name name) vs
place_named name vs = position-map view_of (λ v. is_text v.name name) vs

-- a table is used exactly if the query of a kept view reads it
pub used_by : (n : ℕ) (vs : List NamedView) → is_used n (views_of vs) ≡ list_any (λ v. reads n v.kept.query) vs
used_by n [] = refl
used_by n (v ∷ vs) = ap (λ b. reads n v.kept.query || b) (used_by n vs)

-- ---- A view that was found
module _ (name : List ℕ) (vs : List NamedView) (place : ℕ) (found : view_place name (views_of vs) ≡ Some place) where
  -- it stands among them
  abbrev first : ℕ
  first = position_or_len (λ v. is_text v.name name) vs

  among : (b : Bool) → nat_lt first (length vs) ≡ b → cond b (Some first) None ≡ Some place → place < length vs
  among true e h = subst (λ (n : ℕ). n < length vs) (same_Some first place h) (ltb-true first (length vs) e)
  among false e h = absurd (cc h)

  pub within : place < length vs
  within = among (nat_lt first (length vs)) refl (sym (place_named name vs) ∙ found)

  -- it is the view of the name
  pub view_there : (v : NamedView) → v ≡ get_or vs place v → view_named name (views_of vs) ≡ Some (view_of v)
  view_there v is =
      let at : slice_get (views_of vs) place ≡ view_named name (views_of vs) = subst (λ (o : Option ℕ). IfSome o (λ i. slice_get (views_of vs) i ≡ view_named name (views_of vs))) found (found_there (λ w. is_text w.name name) (views_of vs)) in
      sym at ∙ slice_get-map view_of vs place ∙ ap (option_map view_of) (slice_get_read vs (length vs) place v refl within is)

  -- and its epoch is the one that is told
  pub epoch_there : (v : NamedView) → v ≡ get_or vs place v → option_map (λ w. w.epoch) (view_named name (views_of vs)) ≡ Some v.kept.state.epoch
  epoch_there v is = ap (option_map (λ w. w.epoch)) (view_there v is)

-- without it the views are still right
pub right_without : (s : State) (vs : List NamedView) (place : ℕ) → AreRight s vs → AreRight s (remove vs place)
right_without s vs place right = all-remove (IsRight s) vs place right
