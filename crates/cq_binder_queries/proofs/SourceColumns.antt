-- The columns of a source, put one behind the other.
use Rattle.std.proofs.Common.{◌≡◌, ◌⊎◌, inl, inr, ℕ, List, [], ◌∷◌, ◌++◌, map, refl, sym, ap, ◌∙◌}
use Rattle.std.specs.List.{zip}
use Rattle.std.proofs.lemmas.List.{append-nil}
use Rattle.cq_values.specs.declared.column.ColumnDef.{ColumnDef}
use Rattle.cq_model.specs.Sizes.{stored_size, stored_sizes}
use Rattle.cq_binder_rules.specs.Scopes.{scope_column}
use Rattle.cq_binder_rules.specs.Typing.{ScopeColumn}

module _ (known : List ℕ) where
  -- a column of a table
  abbrev pub stored_column : ColumnDef → ScopeColumn
  stored_column c = scope_column known (c, stored_size)

  -- columns beside their sizes
  abbrev pub sized_columns : List ColumnDef → List ℕ → List ScopeColumn
  sized_columns columns sizes = map (scope_column known) (zip columns sizes)

  -- all numbers of a table are of one size
  pub all_stored : (columns : List ColumnDef) → map stored_column columns ≡ sized_columns columns (stored_sizes columns)
  all_stored [] = refl
  all_stored (c ∷ columns) = ap (λ (cs : List ScopeColumn). stored_column c ∷ cs) (all_stored columns)

  -- no column is left where its list or that of the sizes has ended
  none_left : (columns : List ColumnDef) (sizes : List ℕ) → (columns ≡ []) ⊎ (sizes ≡ []) → sized_columns columns sizes ≡ []
  none_left columns sizes (inl e) = ap (λ (cs : List ColumnDef). sized_columns cs sizes) e
  none_left columns sizes (inr e) = ap (sized_columns columns) e ∙ without columns
    where
      without : (cs : List ColumnDef) → sized_columns cs [] ≡ []
      without [] = refl
      without (c ∷ cs) = refl

  -- then those that were made are all
  pub all_made : (made whole : List ScopeColumn) (columns : List ColumnDef) (sizes : List ℕ) → (columns ≡ []) ⊎ (sizes ≡ [])
      → made ++ sized_columns columns sizes ≡ whole → made ≡ whole
  all_made made whole columns sizes ends so_far =
      sym (append-nil made) ∙ ap (λ (cs : List ScopeColumn). made ++ cs) (sym (none_left columns sizes ends)) ∙ so_far
