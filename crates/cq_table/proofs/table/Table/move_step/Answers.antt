use Rattle.std.proofs.Common.{◌≡◌, ap, arith, length}
use Rattle.std.specs.Prelude.{min}
use Rattle.cq_segments_pieces.specs.Marked.{live}
use Rattle.cq_segments_pieces.proofs.Marks.{length-live}
use Rattle.cq_table.specs.Table.{table_of}
use Rattle.cq_table.proofs.Tables.{moved, moves-bag, moves-counts, moves-kept}
use Rattle.cq_table.proofs.table.Table.move_step.Goals as goal

pub build_written-requires-clause-wide : goal.build_written-requires-clause-wide
build_written-requires-clause-wide c = rw c.rows.ensures c.self.invariant.wide

pub build_written-requires-clause-live : goal.build_written-requires-clause-live
build_written-requires-clause-live c =
    omega (arith, c.len-2.ensures.len, c.marked_len.ensures.len, ap (λ rs. length (live rs)) c.rows.ensures, length-live c.self.inside.written.rows)

pub build_written-requires-clause-count : goal.build_written-requires-clause-count
build_written-requires-clause-count c = omega (arith, c.at_most-count.ensures, c.len.ensures.len, ap length c.rows.ensures)

pub invariant_of-self-2 : goal.invariant_of-self-2
invariant_of-self-2 c =
    let t = table_of c.self.inside.layout c.self.inside.max_rows c.self.inside.segments.items c.self.inside.written.rows in
    let least : c.at_most-count.result ≡ min (length t.written) c.args.count = omega (arith, c.at_most-count.ensures, c.len.ensures.len) in
    let moves = moved t c.args.count c.at_most-count.result least c.in_ok-made.made.items (rw c.rows.ensures at c.in_ok-made.ensures)
    c.append.new.self.items c.in_ok-append.ensures.items c.take_front.new.self.rows c.take_front.ensures.rows in
    moves-kept c.args.count t _ moves c.self.inside.live c.at_most-count.result c.self.invariant least (rw c.as_slice.ensures.value at c.in_ok-counted_places.ensures.counted)

pub returns-clause-ok : goal.returns-clause-ok
returns-clause-ok c =
    let t = table_of c.self.inside.layout c.self.inside.max_rows c.self.inside.segments.items c.self.inside.written.rows in
    let least : c.at_most-count.result ≡ min (length t.written) c.args.count = omega (arith, c.at_most-count.ensures, c.len.ensures.len) in
    let moves = moved t c.args.count c.at_most-count.result least c.in_ok-made.made.items (rw c.rows.ensures at c.in_ok-made.ensures)
    c.append.new.self.items c.in_ok-append.ensures.items c.take_front.new.self.rows c.take_front.ensures.rows in
    rw (← c.self.view_is) moves

pub returns-clause-counts : goal.returns-clause-counts
returns-clause-counts c = moves-counts _ _ _ (returns-clause-ok c)

pub returns-clause-bag : goal.returns-clause-bag
returns-clause-bag c = moves-bag _ _ _ (returns-clause-ok c)
