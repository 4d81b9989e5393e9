-- What a catalog finds under a name.
use Rattle.std.proofs.Common.{◌≡◌, ℕ, Bool, true, false, cond, List, length, Option, Some, None, refl, sym, ap, ◌∙◌, inl, inr}
use Rattle.std.specs.Prelude.{slice_get, is_some, nat_lt, option_map}
use Rattle.std.specs.List.{position_or_len}
use Rattle.std.proofs.lemmas.Bool.{lt-ltb, le-ltb}
use Rattle.std.proofs.lemmas.Option.{slice_get_cases}
use Rattle.std.proofs.lemmas.List.Folds.{find_at}
use Rattle.cq_values.specs.Texts.{is_text}
use Rattle.cq_model_state.specs.State.{TableOf, ViewOf, view_named, view_place}
use Rattle.cq_binder_queries.specs.Catalog.{heading, shown_heading}
use Rattle.cq_binder_queries.specs.declared.catalog.TableEntry.{TableEntry}

-- whether something is read at a place is whether the place is within the list
pub is_there : {X : Type 0} (xs : List X) (n : ℕ) → is_some {T = ℕ} (cond (nat_lt n (length xs)) (Some n) None) ≡ is_some (slice_get xs n)
is_there xs n =
    elim (slice_get_cases xs n).1 [
      | inl h ↦ let lt : nat_lt n (length xs) ≡ true = lt-ltb _ _ h.1 in rw (lt, h.2) refl
      | inr h ↦ let le : nat_lt n (length xs) ≡ false = le-ltb _ _ h.0 in rw (le, h.1) refl
    ]

-- a view has a place exactly if it is there
pub has_place : (name : List ℕ) (views : List ViewOf) → is_some (view_place name views) ≡ is_some (view_named name views)
has_place name views =
    let named : ViewOf → Bool = λ v. is_text v.name name in
    is_there views (position_or_len named views) ∙ ap is_some (sym (find_at named views))

-- the table that was found
pub table_there : (e : TableEntry) (o : Option TableOf) → Some (shown_heading e) ≡ option_map heading o → (t : TableOf) × (o ≡ Some t) × (shown_heading e ≡ heading t)
table_there e (Some t) same = (t, refl, cc same)
table_there e None same = absurd (cc same)

-- no table was found
pub table_absent : (o : Option TableOf) → None ≡ option_map heading o → o ≡ None
table_absent (Some t) same = absurd (cc same)
table_absent None same = refl
