use Rattle.std.proofs.Common.{◌∙◌, ◌≡◌, ◌<◌, ap, arith, length, sym}
use Rattle.std.proofs.lemmas.List.{length-map}
use Rattle.cq_values.specs.Order.{bytes}
use Rattle.cq_model.specs.Condition.{is_null}
use Rattle.cq_vectors_stored.specs.Columns.{text_unless, texts_of}
use Rattle.cq_vectors_stored.proofs.ColumnLemmas.{text_at}
use Rattle.cq_vectors.proofs.texts.Texts.lend.Goals as goal
use lib.Lanes.{zip2}

pub returns-then-not-get : goal.returns-then-not-get
returns-then-not-get c =
    let texts = c.self.inside.values.items in
    let nulls = c.self.inside.nulls in
    let values = zip2 text_unless (texts_of texts) nulls in
    let kept = c.self.invariant in
    let same : length nulls ≡ length texts = ap length kept.nulls ∙ length-map values is_null ∙ sym (ap length kept.texts ∙ length-map values bytes) ∙ length-map texts (λ text. text.now) in
    let there : c.args.place < length texts = omega (arith, c.if-place-values.true, ap length c.as_slice-values.ensures.value) in
    rw (c.as_slice-values.ensures.value, ← c.self.view_is) (text_at texts nulls c.args.place _ there same (sym c.get.ensures ∙ c.if-not-get.true))
