use Rattle.std.proofs.Common.{◌∙◌, arith, sym}
use Rattle.std.proofs.lemmas.List.{length-map}
use Rattle.cq_vectors_stored.specs.Columns.{texts_of}
use Rattle.cq_vectors_stored.proofs.ColumnLemmas.{keeps_texts}
use Rattle.cq_vectors.proofs.texts.Texts.new.Goals as goal

pub invariant_of-result : goal.invariant_of-result
invariant_of-result c =
    let long = length-map c.args.values.items (λ text. text.now) in
    keeps_texts (texts_of c.args.values.items) c.args.nulls (c.requires.same ∙ sym long) (omega (arith, long, c.requires.few)) c.requires.empty
