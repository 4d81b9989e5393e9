use Rattle.std.proofs.Common.{◌≡◌, ◌∙◌, ◌+◌, ◌++◌, List, ap, arith, length}
use Rattle.cq_model_bags.specs.Canonical.{bag_of}
use Rattle.cq_model_bags.proofs.Canonicals.{length-bag_of}
use Rattle.cq_segments_pieces.specs.Marked.{MarkedRow, live}
use Rattle.cq_segments_pieces.specs.Pieces.{joined}
use Rattle.cq_table.specs.Table.{live_rows, table_of}
use Rattle.cq_table.proofs.Tables.{bag-more, kept-more, wide-with}
use Rattle.cq_table.proofs.table.Table.append.Goals as goal

pub append-requires : goal.append-requires
append-requires c =
    let t = table_of c.self.inside.layout c.self.inside.max_rows c.self.inside.segments.items c.self.inside.written.rows in
    record { wide = rw c.as_slice-columns.ensures (wide-with t c.self.inside.live c.self.invariant c.args.rows (rw (← c.self.view_is) at c.requires.fitting)) }

pub overflow_add-self : goal.overflow_add-self
overflow_add-self c =
    let t = table_of c.self.inside.layout c.self.inside.max_rows c.self.inside.segments.items c.self.inside.written.rows in
    omega (arith, c.self.ranges, c.self.invariant.counted, c.len-count.ensures.len, length-bag_of (live_rows t), rw (← c.self.view_is) at c.requires.room)

pub invariant_of-self-2 : goal.invariant_of-self-2
invariant_of-self-2 c =
    let t = table_of c.self.inside.layout c.self.inside.max_rows c.self.inside.segments.items c.self.inside.written.rows in
    let rows = c.args.rows in
    let count : c.self.inside.live + c.len-count.result ≡ c.self.inside.live + length rows = omega (arith, c.len-count.ensures.len) in
    rw (c.in_ok-append.ensures.ok, count) (kept-more t c.self.inside.live c.self.invariant rows (rw (← c.self.view_is) at c.requires.fitting) (rw (← c.self.view_is) at c.requires.room))

pub returns-clause-bag : goal.returns-clause-bag
returns-clause-bag c =
    let t = table_of c.self.inside.layout c.self.inside.max_rows c.self.inside.segments.items c.self.inside.written.rows in
    rw (← c.self.view_is) (ap (λ (rs : List MarkedRow). bag_of (live (joined t.segments ++ rs))) c.in_ok-append.ensures.ok ∙ bag-more t c.self.inside.live c.self.invariant c.args.rows)
