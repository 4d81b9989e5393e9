use Rattle.std.proofs.Common.{◌≡◌, ◌∙◌, ◌<◌, ◌^◌, ℕ, IfOk, map, sym, subst}
use Rattle.std.specs.List.{AllByRecursion}
use Rattle.cq_model.specs.Sizes.{row_size}
use Rattle.cq_model.specs.Width.{limits_of, widest, width}
use Rattle.cq_model.specs.declared.query.Shape.{Shape}
use Rattle.cq_views_state.proofs.Widths.{group-columns}
use Rattle.cq_views_model.specs.Query.{group_sizes}
use Rattle.cq_views_state.proofs.columns.column_sizes.Goals as goal

pub sizes_over_rows-requires : goal.sizes_over_rows-requires
sizes_over_rows-requires c =
    let query = c.args.query.now in
    rw c.as_slice.ensures
    (subst (λ (s : Shape). AllByRecursion (λ e. widest (row_size s) e < 2 ^ 127) query.items) c.in-Plain.is c.requires.items)

pub returns-in-Plain : goal.returns-in-Plain
returns-in-Plain c =
    let query = c.args.query.now in
    subst (λ (s : Shape). IfOk c.sizes_over_rows.result (λ v. v.items ≡ map (λ e. (width e (row_size s)).size) query.items))
    (sym c.in-Plain.is) (rw c.as_slice.ensures at c.sizes_over_rows.ensures)

pub sizes_over_group-requires : goal.sizes_over_group-requires
sizes_over_group-requires c =
    let query = c.args.query.now in
    let columns : row_size query.shape ≡ limits_of (group_sizes query) = group-columns query _ _ _ c.in-Grouped.is in
    let sizes : c.deref.result.now ≡ group_sizes query = c.deref.ensures.value ∙ c.in_ok-group-in-Grouped.ensures in
    rw (sizes, c.as_slice-in-Grouped.ensures)
    (subst (λ (f : ℕ → ℕ). AllByRecursion (λ e. widest f e < 2 ^ 127) query.items) columns c.requires.items)

pub returns-in_ok-group-in-Grouped : goal.returns-in_ok-group-in-Grouped
returns-in_ok-group-in-Grouped c =
    let query = c.args.query.now in
    let columns : row_size query.shape ≡ limits_of (group_sizes query) = group-columns query _ _ _ c.in-Grouped.is in
    let sizes : c.deref.result.now ≡ group_sizes query = c.deref.ensures.value ∙ c.in_ok-group-in-Grouped.ensures in
    subst (λ (f : ℕ → ℕ). IfOk c.sizes_over_group.result (λ v. v.items ≡ map (λ e. (width e f).size) query.items)) (sym columns)
    (rw (sizes, c.as_slice-in-Grouped.ensures) at c.sizes_over_group.ensures)
