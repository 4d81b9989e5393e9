use Rattle.std.proofs.Common.{◌≡◌, ◌+◌, ◌-◌, ◌<◌, [], ap, arith, drop, length, subst, sym, take}
use Rattle.std.proofs.lemmas.List.{append-nil, drop-map, drop_all, length-drop, length-map}
use Rattle.cq_model_bags.proofs.Lists.{all-drop, all-take}
use Rattle.cq_segments_pieces.specs.Columns.{AreWide}
use Rattle.cq_segments.specs.Sorted.{IsBuilt}
use Rattle.cq_segments_pieces.specs.Rows.{row_of, stored_rows}
use Rattle.cq_table.specs.Changes.{AreBuilt}
use Rattle.cq_table.proofs.Built.{built-more, next-part, next-rest}
use Rattle.cq_table.proofs.building.build_all.Goals as goal

pub build-requires-clause-wide : goal.build-requires-clause-wide
build-requires-clause-wide c =
    let from = c.loop-from.from in
    let rows = c.args.rows.now in
    let width = length c.args.layout.now.columns in
    let left = subst (AreWide width) (drop-map row_of from rows) (all-drop (λ row. length row ≡ width) from (stored_rows rows) c.requires) in
    rw c.len-width.ensures
    (subst (AreWide width) (sym (next-part row_of rows from c.min.result c.min.ensures)) (all-take (λ row. length row ≡ width) 65536 (stored_rows (drop from rows)) left))

pub loop-from-preserved : goal.loop-from-preserved
loop-from-preserved c =
    let from = c.loop-from.from in
    let rows = c.args.rows.now in
    let sort = c.args.layout.now.sort in
    let left = stored_rows (drop from rows) in
    let next = stored_rows (take (from + c.min.result - from) (drop from rows)) in
    let one : IsBuilt next sort c.in_ok-build.field-0 = rw c.as_slice-sort.ensures at c.in_ok-build.ensures in
    let some : 0 < length left = omega (arith, c.loop-from-test.true, length-map (drop from rows) row_of, length-drop from rows) in
    record {
      within = omega (arith, c.loop-from-test.true, c.min.ensures);
      built = rw c.in_ok-push.ensures.items
          (built-more sort (stored_rows rows) left next (stored_rows (drop (from + c.min.result) rows)) c.loop-from.made.items c.in_ok-build.field-0 some
          (next-part row_of rows from c.min.result c.min.ensures) (next-rest row_of rows from c.min.result c.min.ensures) one c.loop-from.invariant.built);
    }

pub returns : goal.returns
returns c =
    let l = c.loop-from in
    let none = drop_all l.from c.args.rows.now (omega (arith, c.loop-from-test.false)) in
    subst (AreBuilt c.args.layout.now.sort (stored_rows c.args.rows.now)) (append-nil l.made.items) (l.invariant.built [] (ap stored_rows none))
