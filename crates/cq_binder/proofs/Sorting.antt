-- The names behind SORT BY, one after the other.
use Rattle.std.proofs.Common.{◌≡◌, ℕ, ◌+◌, ◌<◌, Bool, List, [], ◌∷◌, ◌++◌, map, length, get_or, take, drop, Option, Some, sym, ap, ◌∙◌}
use Rattle.std.specs.Prelude.{unwrap_or}
use Rattle.std.specs.List.{list_any}
use Rattle.std.specs.Option.{option_or}
use Rattle.std.proofs.lemmas.List.{at_drop_more, map-append, take_more}
use Rattle.cq_values.specs.Texts.{is_text}
use Rattle.cq_values.specs.declared.column.ColumnDef.{ColumnDef}
use Rattle.cq_binder_rules.specs.declared.fault.Fault.{Fault}
use Rattle.cq_binder_rules.specs.declared.fault.Fault.TheVariants.{NameTaken}
use Rattle.cq_binder_rules.specs.Scopes.{column_place, place_in}
use Rattle.cq_binder_rules.specs.Checks.{first_fault, fault_if}
use Rattle.cq_binder_rules.specs.SourceChecks.{name_check}
use Rattle.cq_binder_rules.specs.Refusal.{sort_checks}
use Rattle.cq_binder_queries.proofs.Faults.{first_fault_append, single}

module _ (columns : List ColumnDef) where
  -- the places of a name behind others
  abbrev name_walk : List (List ℕ) → List ℕ → List (Option Fault)
  name_walk before name = name_check columns name ∷ fault_if (list_any (λ b. is_text b name) before) NameTaken ∷ []

  -- of a column that is there it decides whether it was named before
  pub repeat_decides : (before : List (List ℕ)) (name : List ℕ) (place : ℕ) (b : Bool) → column_place columns name ≡ Some place → list_any (λ n. is_text n name) before ≡ b → first_fault (name_walk before name) ≡ fault_if b NameTaken
  repeat_decides before name place b there is = rw (there, is) (single b NameTaken)

  module _ (names : List (List ℕ)) (i : ℕ) (name : List ℕ) (lt : i < length names) (is : name ≡ get_or names i name) where
    -- the names up to this one
    so_far : take i names ++ name ∷ [] ≡ take (i + 1) names
    so_far = ap (λ (n : List ℕ). take i names ++ n ∷ []) is ∙ sym (take_more names i name lt)

    -- the first fault of the names from one on: its own, or else that of the names behind it
    pub names_more : first_fault (sort_checks columns (take i names) (drop i names)) ≡ option_or (first_fault (name_walk (take i names) name)) (first_fault (sort_checks columns (take (i + 1) names) (drop (i + 1) names)))
    names_more =
        at_drop_more (λ xs. first_fault (sort_checks columns (take i names) xs)) names i name lt
        ∙ ap (λ (n : List ℕ). first_fault (sort_checks columns (take i names) (n ∷ drop (i + 1) names))) (sym is)
        ∙ first_fault_append (name_walk (take i names) name) (sort_checks columns (take i names ++ name ∷ []) (drop (i + 1) names))
        ∙ ap (λ (before : List (List ℕ)). option_or (first_fault (name_walk (take i names) name)) (first_fault (sort_checks columns before (drop (i + 1) names)))) so_far

    -- one place more behind those of the names before
    pub places_more : (place : ℕ) (old new : List ℕ) → column_place columns name ≡ Some place → old ≡ map (place_in columns) (take i names) → new ≡ old ++ place ∷ [] → new ≡ map (place_in columns) (take (i + 1) names)
    places_more place old new there before added =
        added
        ∙ ap (λ (ps : List ℕ). ps ++ place ∷ []) before
        ∙ ap (λ (o : Option ℕ). map (place_in columns) (take i names) ++ unwrap_or o 0 ∷ []) (sym there)
        ∙ sym (map-append (place_in columns) (take i names) (name ∷ []))
        ∙ ap (λ (ns : List (List ℕ)). map (place_in columns) ns) so_far
