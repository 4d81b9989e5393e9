use Rattle.std.proofs.Common.{◌∙◌, ◌++◌, ap, rules, subst}
use Rattle.std.specs.List.Sorted.{IsPermutation, IsStable}
use Rattle.std.specs.Ordering.{is_lt}
use Rattle.std.proofs.lemmas.List.MinMax.{ranks_by}
use Rattle.std.proofs.lemmas.Fn.{always_returns_same}
use Rattle.std.proofs.lemmas.List.Sorted.{IsPermutation-map}
use Rattle.cq_segments_pieces.specs.Rows.{row_of, stored_rows}
use Rattle.cq_segments.specs.Sorted.{columns_cmp}
use Rattle.cq_segments.proofs.SortedRows.{columns_cmp_total, sorted-stored, stable-stored, stored_lt}
use Rattle.cq_segments.proofs.sorting.sorted.Goals as goal

pub returns-clause-same : goal.returns-clause-same
returns-clause-same c =
    let given = c.args.rows.now in
    let items = c.sort_by.new.self.items in
    let all = c.in_ok-extend_from_slice.ensures.items ∙ ap (λ l. l ++ given) c.new-sorted.ensures.items in
    IsPermutation-map row_of given items (subst (λ xs. IsPermutation xs items) all c.in_ok-sort_by.ensures.permutation)

pub returns-clause-sorted : goal.returns-clause-sorted
returns-clause-sorted c =
    let sort = c.args.sort.now in
    sorted-stored sort c.sort_by.new.self.items
    (c.in_ok-sort_by.ensures.sorted (stored_lt sort) (ranks_by (columns_cmp_total sort) row_of) (always_returns_same _ _ _ (λ a r g q. (ap is_lt (search rules), search rules))))

pub returns-clause-ties : goal.returns-clause-ties
returns-clause-ties c =
    let sort = c.args.sort.now in
    let items = c.sort_by.new.self.items in
    let all = c.in_ok-extend_from_slice.ensures.items ∙ ap (λ l. l ++ c.args.rows.now) c.new-sorted.ensures.items in
    subst (λ xs. IsStable (columns_cmp sort) (stored_rows xs) (stored_rows items)) all
    (stable-stored sort _ items
    (c.in_ok-sort_by.ensures.stable (stored_lt sort) (ranks_by (columns_cmp_total sort) row_of) (always_returns_same _ _ _ (λ a r g q. (ap is_lt (search rules), search rules)))))
