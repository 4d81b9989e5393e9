use Rattle.std.proofs.Common.{◌∙◌, ap, false, length, replicate, sym}
use Rattle.std.proofs.lemmas.List.{length-replicate}
use Rattle.cq_segments_pieces.specs.Marked.{marked_count, with_flags}
use Rattle.cq_segments_pieces.proofs.Marks.{clear-flags, count-unmarked}
use Rattle.cq_segments_pieces.proofs.piece.Piece.of.Goals as goal

pub invariant_of-result : goal.invariant_of-result
invariant_of-result c =
    let rows = c.args.columns in
    let n = c.len.ensures.len in
    let clear = ap (with_flags rows) (c.set_all.ensures ∙ ap (λ k. replicate k false) n) ∙ clear-flags rows in
    record {
      long = ap length c.set_all.ensures ∙ length-replicate c.len.result false ∙ n;
      count = sym (ap marked_count clear ∙ count-unmarked rows);
    }

pub returns : goal.returns
returns c =
    let rows = c.args.columns in
    ap (with_flags rows) (c.set_all.ensures ∙ ap (λ k. replicate k false) c.len.ensures.len) ∙ clear-flags rows
