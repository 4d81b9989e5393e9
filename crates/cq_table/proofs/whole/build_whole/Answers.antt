use Rattle.std.proofs.Common.{◌∙◌, ◌*◌, ℕ, List, [], ◌∷◌, ◌++◌, arith, length, subst, sym}
use Rattle.std.proofs.lemmas.List.{length-map}
use Rattle.cq_segments_pieces.specs.Marked.{MarkedRow, rows_of}
use Rattle.cq_segments_pieces.specs.Pieces.{joined}
use Rattle.cq_segments.specs.Sorted.{IsBuilt}
use Rattle.cq_values.specs.Value.{Row}
use Rattle.cq_table.specs.Whole.{BuiltBefore, first_rows}
use Rattle.cq_table.proofs.WholePieces.{before-more, lent-part, part, part-rows, part-wide, rows-more}
use Rattle.cq_table.proofs.whole.build_whole.Goals as goal

pub of_pieces-requires-clause-some : goal.of_pieces-requires-clause-some
of_pieces-requires-clause-some c =
    let pieces = c.args.pieces.now in
    let k = c.loop-k.k in
    rw (lent-part pieces c.args.count k c.requires.whole c.loop-k-test.true) (omega (arith, part-rows pieces c.args.count k c.requires.whole c.loop-k-test.true))

pub of_pieces-requires-clause-few : goal.of_pieces-requires-clause-few
of_pieces-requires-clause-few c =
    let pieces = c.args.pieces.now in
    let k = c.loop-k.k in
    rw (lent-part pieces c.args.count k c.requires.whole c.loop-k-test.true) (omega (arith, part-rows pieces c.args.count k c.requires.whole c.loop-k-test.true))

pub of_pieces-requires-clause-wide : goal.of_pieces-requires-clause-wide
of_pieces-requires-clause-wide c =
    let pieces = c.args.pieces.now in
    let k = c.loop-k.k in
    rw (c.len-width.ensures, lent-part pieces c.args.count k c.requires.whole c.loop-k-test.true)
    (part-wide pieces c.args.count k c.requires.whole c.loop-k-test.true (length c.args.layout.now.columns) c.requires.wide)

pub loop-k-preserved : goal.loop-k-preserved
loop-k-preserved c =
    let pieces = c.args.pieces.now in
    let k = c.loop-k.k in
    let lt = c.loop-k-test.true in
    let sort = c.args.layout.now.sort in
    let whole = c.requires.whole in
    let next = rows_of (joined (part pieces c.args.count k whole lt)) in
    let long = length-map (joined (part pieces c.args.count k whole lt)) (λ (m : MarkedRow). m.row) ∙ part-rows pieces c.args.count k whole lt in
    let made = rw (lent-part pieces c.args.count k whole lt) at c.in_ok-of_pieces.ensures in
    let one = subst (λ (by : List ℕ). IsBuilt next by c.in_ok-of_pieces.field-0) (sym (c.requires.unsorted (omega (arith, lt)))) made in
    rw c.in_ok-push.ensures.items
    (subst (λ (rows : List Row). BuiltBefore sort rows (c.loop-k.made.items ++ c.in_ok-of_pieces.field-0 ∷ [])) (sym (rows-more pieces c.args.count k whole lt))
    (before-more sort (first_rows (64 * k) pieces) next c.loop-k.made.items c.in_ok-of_pieces.field-0 long c.loop-k.invariant one))
