use Rattle.std.proofs.Common.{ap, arith, length, List, ℕ}
use Rattle.std.specs.List.{concat}
use Rattle.std.proofs.lemmas.Bool.{le-leb, leb-true, lt-ltb, ltb-true}
use Rattle.cq_vectors_stored.proofs.TextRunLemmas.{bytes_long, ends_long}
use Rattle.cq_vectors_stored.proofs.text_run.TextRun.has_room.Goals as goal

pub returns-then-len-lt-MOST_TEXTS : goal.returns-then-len-lt-MOST_TEXTS
returns-then-len-lt-MOST_TEXTS c =
    let count = ends_long c.self.invariant in
    let joined = bytes_long c.self.invariant in
    let texts = ap length c.self.view_is in
    let bytes = ap (λ (ts : List (List ℕ)). length (concat ts)) c.self.view_is in (
      λ yes. record {
        few = omega (arith, c.if-len-lt-MOST_TEXTS.true, c.len-2.ensures, count, texts);
        short = omega (arith, leb-true _ _ yes, c.len.ensures, c.self.invariant.short, joined, bytes);
      },
      λ room. le-leb _ _ (omega (arith, room.short, c.len.ensures, joined, bytes)),
    )

pub returns-else-len-lt-MOST_TEXTS : goal.returns-else-len-lt-MOST_TEXTS
returns-else-len-lt-MOST_TEXTS c =
    let count = ends_long c.self.invariant in
    let texts = ap length c.self.view_is in
    (λ yes. absurd (omega (arith, c.if-len-lt-MOST_TEXTS.false, ltb-true _ _ yes)), λ room. lt-ltb _ _ (omega (arith, room.few, c.len-2.ensures, count, texts)))
