use Rattle.std.proofs.Common.{◌∙◌, ap, ℕ, replicate, false}
use Rattle.std.specs.Simd.Lanes.{zip2}
use Rattle.cq_encodings.specs.Texts.{text_values}
use Rattle.cq_vectors_stored.specs.Columns.{text_unless}
use Rattle.cq_encodings.proofs.TextCodes.{texts_clear}
use Rattle.cq_encodings.proofs.texts.plain_of_texts.Goals as goal

pub returns : goal.returns
returns c =
    let run = c.in-Some.run' in
    c.of_parts.ensures ∙ ap (zip2 text_unless run) (c.in_ok-nulls.ensures ∙ ap (λ (n : ℕ). replicate n false) c.len.ensures.len)
    ∙ texts_clear run ∙ ap text_values (rw c.in-Some.is at c.in_ok-run.ensures)
