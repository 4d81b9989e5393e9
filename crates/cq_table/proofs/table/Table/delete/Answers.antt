use Rattle.std.proofs.Common.{◌∙◌, ◌-◌, ◌++◌, [], List, ℕ, ap, arith, sym}
use Rattle.std.proofs.lemmas.List.{append-nil}
use Rattle.cq_segments_pieces.specs.Marked.{with_marks}
use Rattle.cq_segments_pieces.specs.Pieces.{joined}
use Rattle.cq_table.specs.Table.{stored_in, table_of}
use Rattle.cq_table.proofs.Founds.{live_there}
use Rattle.cq_table.proofs.Marking.{live_fewer}
use Rattle.cq_table.proofs.Tables.{kept-exchanged, leaves}
use Rattle.cq_table.proofs.table.Table.delete.Goals as goal

pub mark_all-requires : goal.mark_all-requires
mark_all-requires c =
    let t = table_of c.self.inside.layout c.self.inside.max_rows c.self.inside.segments.items c.self.inside.written.rows in
    rw c.places.ensures (live_there c.args.found.now (stored_in t) (rw (← c.self.view_is) at c.requires))

pub overflow_sub-self : goal.overflow_sub-self
overflow_sub-self c =
    let t = table_of c.self.inside.layout c.self.inside.max_rows c.self.inside.segments.items c.self.inside.written.rows in
    omega (arith, c.self.invariant.counted, c.len.ensures, live_fewer c.args.found.now (stored_in t) (rw (← c.self.view_is) at c.requires))

pub invariant_of-self : goal.invariant_of-self
invariant_of-self c =
    let t = table_of c.self.inside.layout c.self.inside.max_rows c.self.inside.segments.items c.self.inside.written.rows in
    let places = c.args.found.now in
    let are = rw (← c.self.view_is) at c.requires in
    let is = c.mark_all.ensures.stored ∙ ap (λ (ps : List ℕ). with_marks ps (stored_in t)) c.places.ensures ∙ sym (append-nil (with_marks places (stored_in t))) in
    kept-exchanged t c.self.inside.live c.self.invariant c.mark_all.new.segments.items c.mark_all.new.written.rows places are [] tt is c.mark_all.ensures.segments
    (c.self.inside.live - c.len.result) (omega (arith, c.self.invariant.counted, c.len.ensures, live_fewer places (stored_in t) are)) (omega arith)

pub returns-clause-left : goal.returns-clause-left
returns-clause-left c =
    let t = table_of c.self.inside.layout c.self.inside.max_rows c.self.inside.segments.items c.self.inside.written.rows in
    let places = c.args.found.now in
    let is = c.mark_all.ensures.stored ∙ ap (λ (ps : List ℕ). with_marks ps (stored_in t)) c.places.ensures ∙ sym (append-nil (with_marks places (stored_in t))) in
    rw (← c.self.view_is) (λ condition found. leaves t condition places found (joined c.mark_all.new.segments.items ++ c.mark_all.new.written.rows) [] is)
