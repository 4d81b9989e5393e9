-- What is stored of views, under their names.
use Rattle.std.proofs.Common.{◌≡◌, ℕ, false, List, length, get_or, Option, Some, None, refl, sym, ap, ◌∙◌, subst}
use Rattle.std.specs.Prelude.{IfSome, is_some, slice_get}
use Rattle.std.proofs.lemmas.Option.{slice_get_read}
use Rattle.cq_values.specs.Texts.{is_text}
use Rattle.cq_model_state.specs.State.{view_place}
use Rattle.cq_engine_tables.specs.Views.{NamedView, views_of}
use Rattle.cq_engine_tables.proofs.Named.{place_named, within}
use Rattle.cq_engine_tables.proofs.Places.{found_there, same_presence}
use Rattle.cq_engine.specs.Views.{stored_named}

-- what is stored of the view of a name is what is read at the place of its name
pub stored_there : (name : List ℕ) (vs : List NamedView) (place : ℕ) → view_place name (views_of vs) ≡ Some place → (v : NamedView) → v ≡ get_or vs place v → stored_named name vs ≡ Some v
stored_there name vs place found v is =
    let at : slice_get vs place ≡ stored_named name vs = subst (λ (o : Option ℕ). IfSome o (λ i. slice_get vs i ≡ stored_named name vs)) (sym (place_named name vs) ∙ found) (found_there (λ w. is_text w.name name) vs) in
    sym at ∙ slice_get_read vs (length vs) place v refl (within name vs place found) is

-- and nothing is where the name has no place
pub stored_absent : (name : List ℕ) (vs : List NamedView) → view_place name (views_of vs) ≡ None → stored_named name vs ≡ None
stored_absent name vs missing = absent (stored_named name vs) (sym (same_presence (λ w. is_text w.name name) vs) ∙ ap is_some (sym (place_named name vs) ∙ missing))
  where
    absent : (o : Option NamedView) → is_some o ≡ false → o ≡ None
    absent (Some v) e = absurd (cc e)
    absent None e = refl
