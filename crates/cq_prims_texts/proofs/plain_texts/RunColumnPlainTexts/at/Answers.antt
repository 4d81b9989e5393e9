use Rattle.std.proofs.Common.{◌∙◌, ◌+◌, ◌<◌, ap, arith, get_or, length, sym, Bool, []}
use Rattle.cq_values.specs.Order.{bytes}
use Rattle.cq_vectors_stored.specs.Columns.{text_unless}
use Rattle.cq_prims_texts.proofs.Bytes.{length-run_bytes, run_bytes-at}
use Rattle.cq_prims_texts.proofs.plain_texts.RunColumnPlainTexts.at.Goals as goal

pub get-requires : goal.get-requires
get-requires c =
    let t = c.args.self.now in
    omega (arith, c.requires, length-run_bytes t.texts.now t.start t.nulls.now t.part.there, t.few)

pub overflow_add-self : goal.overflow_add-self
overflow_add-self c =
    let t = c.args.self.now in
    omega (arith, c.requires, length-run_bytes t.texts.now t.start t.nulls.now t.part.there, t.part.there, t.part.few)

pub get-requires-else-get : goal.get-requires-else-get
get-requires-else-get c =
    let t = c.args.self.now in
    omega (arith, c.requires, length-run_bytes t.texts.now t.start t.nulls.now t.part.there, t.part.there)

pub returns-then-get : goal.returns-then-get
returns-then-get c =
    let t = c.args.self.now in
    let i = c.args.i in
    let below : i < length t.nulls.now = omega (arith, c.requires, length-run_bytes t.texts.now t.start t.nulls.now t.part.there) in
    sym (run_bytes-at t.texts.now t.start t.nulls.now t.part.there i below ∙ ap (λ (b : Bool). bytes (text_unless (get_or t.texts.now (t.start + i) []) b)) (sym c.get.ensures ∙ c.if-get.true))

pub returns-else-get : goal.returns-else-get
returns-else-get c =
    let t = c.args.self.now in
    let i = c.args.i in
    let below : i < length t.nulls.now = omega (arith, c.requires, length-run_bytes t.texts.now t.start t.nulls.now t.part.there) in
    c.get-else-get.ensures
    ∙ sym (run_bytes-at t.texts.now t.start t.nulls.now t.part.there i below ∙ ap (λ (b : Bool). bytes (text_unless (get_or t.texts.now (t.start + i) []) b)) (sym c.get.ensures ∙ c.if-get.false))
