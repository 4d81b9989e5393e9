use Rattle.std.proofs.Common.{◌∙◌, ◌≡◌, ◌-◌, ap, arith, get_or, length, take, drop, subst, sym, List, [], ℕ}
use Rattle.std.specs.Prelude.{string_bytes}
use Rattle.std.specs.Str.{IsCharBoundary}
use Rattle.cq_vectors_stored.proofs.TextRunLemmas.{end_at, ends_long, ends_well, laid_seen, starts_well, text_between}
use Rattle.cq_vectors_stored.proofs.text_run.TextRun.get.Goals as goal

pub index-requires : goal.index-requires
index-requires c = omega (arith, c.requires, ends_long c.self.invariant, ap length c.self.view_is)

pub range-requires-clause-start_le_end : goal.range-requires-clause-start_le_end
range-requires-clause-start_le_end c =
    let laid = laid_seen c.self.view_is c.self.invariant in
    omega (arith, c.start-start.ensures, c.index.ensures, end_at laid c.args.i c.requires c.index.result.now)

pub range-requires-clause-start_boundary : goal.range-requires-clause-start_boundary
range-requires-clause-start_boundary c some =
    let laid = laid_seen c.self.view_is c.self.invariant in
    subst (λ (bs : List ℕ). IsCharBoundary bs c.start-start.result) (sym c.as_str.ensures.value)
    (subst (IsCharBoundary (string_bytes c.self.inside.string)) (sym c.start-start.ensures) (starts_well laid c.args.i c.requires))

pub range-requires-clause-end_boundary : goal.range-requires-clause-end_boundary
range-requires-clause-end_boundary c =
    let laid = laid_seen c.self.view_is c.self.invariant in
    subst (λ (bs : List ℕ). IsCharBoundary bs c.index.result.now) (sym c.as_str.ensures.value)
    (subst (IsCharBoundary (string_bytes c.self.inside.string)) (sym (end_at laid c.args.i c.requires _) ∙ sym c.index.ensures) (ends_well laid c.args.i c.requires))

pub returns : goal.returns
returns c =
    let laid = laid_seen c.self.view_is c.self.invariant in
    let start = c.start-start.ensures in
    let long : c.index.result.now - c.start-start.result ≡ length (get_or c.args.self.now c.args.i []) = omega (arith, start, c.index.ensures, end_at laid c.args.i c.requires c.index.result.now) in
    c.range.ensures.value
    ∙ ap (λ (bs : List ℕ). take (c.index.result.now - c.start-start.result) (drop c.start-start.result bs)) c.as_str.ensures.value
    ∙ ap (λ (n : ℕ). take (c.index.result.now - c.start-start.result) (drop n (string_bytes c.self.inside.string))) start
    ∙ text_between laid c.args.i c.requires _ long
