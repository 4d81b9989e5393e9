use Rattle.std.proofs.Common.{◌++◌, ◌≡◌, ◌∙◌, List, ap, length, subst, sym}
use Rattle.cq_model_bags.proofs.Lists.{all-append}
use Rattle.cq_values.specs.Value.{Row}
use Rattle.cq_segments_pieces.specs.Columns.{AreWide}
use Rattle.cq_segments_pieces.specs.Marked.{rows_of, unmarked}
use Rattle.cq_segments_pieces.proofs.Marks.{rows_of-append, rows_of-unmarked}
use Rattle.cq_writestore.proofs.tests.add.Goals as goal

-- the rows behind the others are as wide as these
pub returns-in_ok-append : goal.returns-in_ok-append
returns-in_ok-append c =
    let old = c.args.store.now.rows in
    let rows = c.args.rows in
    let read = ap rows_of c.in_ok-append.ensures.ok ∙ rows_of-append old (unmarked rows) ∙ ap (λ (l : List Row). rows_of old ++ l) (rows_of-unmarked rows) in
    let wide = subst (λ (l : List Row). AreWide 1 l) (c.as_slice.ensures.value ∙ c.in_ok-copies.ensures) c.if-are_wide.ensures in
    subst (λ (l : List Row). AreWide 1 l) (sym read) (all-append (λ (row : Row). length row ≡ 1) (rows_of old) rows c.requires wide)
