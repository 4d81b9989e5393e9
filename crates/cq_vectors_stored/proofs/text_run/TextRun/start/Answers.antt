use Rattle.std.proofs.Common.{◌∙◌, ◌≤◌, ap, arith, length, take, List, ℕ}
use Rattle.std.specs.List.{concat}
use Rattle.std.specs.Prelude.{string_bytes}
use Rattle.cq_vectors_stored.specs.TextRun.{cut}
use Rattle.cq_vectors_stored.proofs.TextRunLemmas.{ends_long, start_at}
use Rattle.cq_vectors_stored.proofs.text_run.TextRun.start.Goals as goal

pub index-requires : goal.index-requires
index-requires c = omega (arith, c.requires, c.if-i-eq0.false, ends_long c.self.invariant, ap length c.self.view_is)

pub returns-else-i-eq0 : goal.returns-else-i-eq0
returns-else-i-eq0 c =
    let texts = cut (string_bytes c.self.inside.string) 0 c.self.inside.ends.items in
    let le : c.args.i ≤ length texts = omega (arith, c.requires, ap length c.self.view_is) in
    c.index.ensures ∙ start_at c.self.invariant c.args.i _ (omega (arith, c.if-i-eq0.false)) le
    ∙ ap (λ (ts : List (List ℕ)). length (concat (take c.args.i ts))) c.self.view_is
