use Rattle.std.proofs.Common.{◌∙◌, ◌<◌, ◌≡◌, ℕ, List, IfOk, ap, arith, get_or, length, subst, sym}
use Rattle.std.specs.Global.{Vec}
use Rattle.cq_encodings.specs.declared.any_encoded.AnyEncoded.{AnyEncoded}
use Rattle.cq_encodings_vectors.specs.Places.{AreBelow}
use Rattle.cq_segments_pieces.specs.Columns.{AreWide, columns_of}
use Rattle.cq_segments_pieces.specs.Marked.{MarkedRow, rows_of}
use Rattle.cq_segments_pieces.specs.Pieces.{joined}
use Rattle.cq_segments_pieces.proofs.Marks.{length-rows_of}
use Rattle.cq_segments.proofs.SegmentColumns.{as_many, column-below, column-read, nulls-at}
use Rattle.cq_segments.proofs.segment.Segment.gather_at.Goals as goal

pub column_at-requires-clause-there : goal.column_at-requires-clause-there
column_at-requires-clause-there c =
    let width = length c.self.inside.bounds.items in
    let same = c.deref.ensures.value ∙ ap (λ (v : Vec AnyEncoded). v.items) c.as_ref.ensures in
    let item = c.in-Some.ensures.lookup in
    let columns = c.self.invariant.columns ∙ ap (λ stored. columns_of (rows_of stored) width) c.self.view_is in
    column-below c.self.inside.encoded.value.items (rows_of c.args.self.now) width columns c.args.column c.in-Some.encoded.now
    (subst (λ l. c.args.column < length l) same item.3.0) (item.1 ∙ ap (λ l. get_or l c.args.column c.in-Some.encoded.now) same)
    c.args.places.now (subst (λ (n : ℕ). AreBelow n c.args.places.now) (sym (length-rows_of c.args.self.now)) c.requires.there)

pub returns-in-Some : goal.returns-in-Some
returns-in-Some c =
    let width = length c.self.inside.bounds.items in
    let same = c.deref.ensures.value ∙ ap (λ (v : Vec AnyEncoded). v.items) c.as_ref.ensures in
    let item = c.in-Some.ensures.lookup in
    let columns = c.self.invariant.columns ∙ ap (λ stored. columns_of (rows_of stored) width) c.self.view_is in
    let read = column-read c.self.inside.encoded.value.items (rows_of c.args.self.now) width columns c.args.column c.in-Some.encoded.now
    (subst (λ l. c.args.column < length l) same item.3.0) (item.1 ∙ ap (λ l. get_or l c.args.column c.in-Some.encoded.now) same)
    c.args.places.now (subst (λ (n : ℕ). AreBelow n c.args.places.now) (sym (length-rows_of c.args.self.now)) c.requires.there) in
    subst (λ l. IfOk c.column_at.result (λ v. v ≡ l)) read c.column_at.ensures

pub returns-in-None : goal.returns-in-None
returns-in-None c =
    let width = length c.self.inside.bounds.items in
    let same = c.deref.ensures.value ∙ ap (λ (v : Vec AnyEncoded). v.items) c.as_ref.ensures in
    let wide = subst (λ (stored : List MarkedRow). AreWide width (rows_of stored)) c.self.view_is c.self.invariant.wide in
    let many = as_many c.self.inside.encoded.value.items (rows_of (joined c.self.inside.pieces.items)) width c.self.invariant.columns in
    c.new.ensures
    ∙ nulls-at (rows_of c.args.self.now) width c.args.column c.args.places.now wide (omega (arith, c.in-None.ensures.lookup.3, ap length same, many))
    (subst (λ (n : ℕ). AreBelow n c.args.places.now) (sym (length-rows_of c.args.self.now)) c.requires.there)
