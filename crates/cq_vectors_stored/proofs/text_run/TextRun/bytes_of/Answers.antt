use Rattle.std.proofs.Common.{◌∙◌, ◌≡◌, ◌-◌, ap, arith, drop, length, take, List, ℕ}
use Rattle.std.specs.Prelude.{string_bytes}
use Rattle.cq_vectors_stored.specs.LentColumns.{part_of}
use Rattle.std.specs.List.{concat}
use Rattle.cq_vectors_stored.proofs.TextRunLemmas.{laid_seen, part_between, part_long, part_within}
use Rattle.cq_vectors_stored.proofs.text_run.TextRun.bytes_of.Goals as goal

pub slice_bounds-result-count : goal.slice_bounds-result-count
slice_bounds-result-count c =
    let laid = laid_seen c.self.view_is c.self.invariant in
    omega (arith, c.start-from.ensures, c.start-to.ensures, part_long laid c.args.start c.args.len)

pub slice_bounds-result-start : goal.slice_bounds-result-start
slice_bounds-result-start c =
    let laid = laid_seen c.self.view_is c.self.invariant in
    omega (arith, c.start-from.ensures, c.start-to.ensures, part_long laid c.args.start c.args.len)

pub slice_bounds-result-end : goal.slice_bounds-result-end
slice_bounds-result-end c =
    let laid = laid_seen c.self.view_is c.self.invariant in
    omega (arith, c.start-to.ensures, ap {B = ℕ} length c.as_bytes-bytes.ensures.value, part_long laid c.args.start c.args.len, part_within laid c.args.start c.args.len)

pub returns-clause-bytes : goal.returns-clause-bytes
returns-clause-bytes c =
    let laid = laid_seen c.self.view_is c.self.invariant in
    let many : c.start-to.result - c.start-from.result ≡ length (concat (part_of c.args.self.now c.args.start c.args.len)) =
    omega (arith, c.start-from.ensures, c.start-to.ensures, part_long laid c.args.start c.args.len) in
    ap (λ (bs : List ℕ). take (c.start-to.result - c.start-from.result) (drop c.start-from.result bs)) c.as_bytes-bytes.ensures.value
    ∙ ap (λ (n : ℕ). take (c.start-to.result - c.start-from.result) (drop n (string_bytes c.self.inside.string))) c.start-from.ensures
    ∙ part_between laid c.args.start c.args.len _ many

pub returns-clause-utf8 : goal.returns-clause-utf8
returns-clause-utf8 c = (laid_seen c.self.view_is c.self.invariant).utf8
