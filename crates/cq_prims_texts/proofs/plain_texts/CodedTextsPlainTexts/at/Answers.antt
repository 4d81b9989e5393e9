use Rattle.std.proofs.Common.{◌∙◌, ◌<◌, ap, arith, get_or, length, subst, sym, [], ℕ}
use Rattle.cq_vectors_stored.specs.Offsets.{offsets_in}
use Rattle.cq_prims_texts.proofs.Bytes.{code_there, flagged-at, length-entry_bytes}
use Rattle.cq_prims_texts.proofs.plain_texts.CodedTextsPlainTexts.at.Goals as goal

pub get-requires : goal.get-requires
get-requires c =
    let t = c.args.self.now in
    omega (arith, c.requires, length-entry_bytes t.entries.now (offsets_in t.codes) t.nulls.now t.same, t.same, t.few)

pub at-requires : goal.at-requires
at-requires c =
    let t = c.args.self.now in
    omega (arith, c.requires, length-entry_bytes t.entries.now (offsets_in t.codes) t.nulls.now t.same)

pub get-requires-else-get : goal.get-requires-else-get
get-requires-else-get c =
    let t = c.args.self.now in
    subst (λ (n : ℕ). n < length t.entries.now) (sym c.at.ensures) (t.known c.args.i 0 (code_there t.entries.now (offsets_in t.codes) t.nulls.now t.same c.args.i c.requires))

pub returns-then-get : goal.returns-then-get
returns-then-get c =
    let t = c.args.self.now in
    flagged-at t.entries.now (offsets_in t.codes) t.nulls.now t.same c.args.i c.requires _ (sym c.if-get.true ∙ c.get.ensures)

pub returns-else-get : goal.returns-else-get
returns-else-get c =
    let t = c.args.self.now in
    c.get-else-get.ensures ∙ ap (λ (n : ℕ). get_or t.entries.now n []) c.at.ensures
    ∙ flagged-at t.entries.now (offsets_in t.codes) t.nulls.now t.same c.args.i c.requires _ (sym c.if-get.false ∙ c.get.ensures)
