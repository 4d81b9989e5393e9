use Rattle.std.proofs.Common.{◌∙◌, ap, subst, sym}
use Rattle.std.specs.Global.{Vec}
use Rattle.cq_encodings.specs.declared.any_encoded.AnyEncoded.{AnyEncoded}
use Rattle.cq_segments_pieces.specs.Columns.{AreColumns, parts_of, rows_of_columns}
use Rattle.cq_segments_pieces.specs.Marked.{unmarked}
use Rattle.cq_segments_pieces.proofs.Parts.{few_are, few_rows}
use Rattle.cq_segments_pieces.proofs.piece.Piece.of_columns.Goals as goal

pub of-columns-requires-clause-long : goal.of-columns-requires-clause-long
of-columns-requires-clause-long c =
    subst (λ (v : Vec AnyEncoded). AreColumns (parts_of 0 v.items) c.args.len) (sym c.in_ok-new.ensures.ok)
    (few_are c.args.encoded.items c.args.len c.requires)

pub returns : goal.returns
returns c =
    c.of.ensures
    ∙ ap unmarked (c.of-columns.ensures ∙ ap (λ (v : Vec AnyEncoded). rows_of_columns (parts_of 0 v.items) c.args.len) c.in_ok-new.ensures.ok ∙ few_rows c.args.encoded.items c.args.len c.requires)
