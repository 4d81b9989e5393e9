use Rattle.std.proofs.Common.{◌∙◌, ◌++◌, ap, arith, length, refl}
use Rattle.std.proofs.lemmas.List.{length-append}
use Rattle.cq_segments_pieces.specs.Marked.{unmarked}
use Rattle.cq_segments_pieces.specs.Pieces.{joined}
use Rattle.cq_table.specs.Table.{table_of}
use Rattle.cq_table.proofs.Marking.{length-unmarked}
use Rattle.cq_table.proofs.Tables.{kept-exchanged, leaves, marks_with, still_there, wide-with}
use Rattle.cq_table.proofs.table.Table.replace.Goals as goal

pub append-requires : goal.append-requires
append-requires c = record { wide = rw (c.as_slice-columns.ensures, c.of.ensures) (wide-with _ c.self.inside.live c.self.invariant c.args.images.items (rw (← c.self.view_is) at c.requires.fitting)) }

pub mark_all-requires : goal.mark_all-requires
mark_all-requires c =
    let t = table_of c.self.inside.layout c.self.inside.max_rows c.self.inside.segments.items c.self.inside.written.rows in
    rw c.places.ensures (still_there t c.args.found.now (rw (← c.self.view_is) at c.requires.live) c.args.images.items c.append.new.self.rows (rw c.of.ensures at c.in_ok-append.ensures.ok))

pub invariant_of-self-2 : goal.invariant_of-self-2
invariant_of-self-2 c =
    let t = table_of c.self.inside.layout c.self.inside.max_rows c.self.inside.segments.items c.self.inside.written.rows in
    let are = rw (← c.self.view_is) at c.requires.live in
    let is = rw c.places.ensures at c.mark_all.ensures.stored ∙ marks_with t c.args.found.now are c.args.images.items c.append.new.self.rows (rw c.of.ensures at c.in_ok-append.ensures.ok) in
    kept-exchanged _ c.self.inside.live c.self.invariant c.mark_all.new.segments.items c.mark_all.new.written.rows c.args.found.now are c.args.images.items (rw (← c.self.view_is) at c.requires.fitting) is c.mark_all.ensures.segments
    c.self.inside.live (omega (arith, c.requires.count)) (omega (arith, c.requires.count))

pub returns-clause-ok : goal.returns-clause-ok
returns-clause-ok c =
    let t = table_of c.self.inside.layout c.self.inside.max_rows c.self.inside.segments.items c.self.inside.written.rows in
    let images = c.args.images.items in
    let is = rw c.places.ensures at c.mark_all.ensures.stored ∙ marks_with t c.args.found.now (rw (← c.self.view_is) at c.requires.live) images c.append.new.self.rows (rw c.of.ensures at c.in_ok-append.ensures.ok) in
    rw (← c.self.view_is) record {
      is = refl;
      stored = is;
      segments = c.mark_all.ensures.segments;
      write_len = omega (arith, c.mark_all.ensures.written, ap length (rw c.of.ensures at c.in_ok-append.ensures.ok), length-append t.written (unmarked images), length-unmarked images);
    }

pub returns-clause-left : goal.returns-clause-left
returns-clause-left c =
    let t = table_of c.self.inside.layout c.self.inside.max_rows c.self.inside.segments.items c.self.inside.written.rows in
    let is = rw c.places.ensures at c.mark_all.ensures.stored ∙ marks_with t c.args.found.now (rw (← c.self.view_is) at c.requires.live) c.args.images.items c.append.new.self.rows (rw c.of.ensures at c.in_ok-append.ensures.ok) in
    rw (← c.self.view_is) (λ condition found. leaves t condition c.args.found.now found (joined c.mark_all.new.segments.items ++ c.mark_all.new.written.rows) c.args.images.items is)
