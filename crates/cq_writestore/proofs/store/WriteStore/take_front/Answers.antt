use Rattle.std.proofs.Common.{◌∙◌, ◌-◌, ◌++◌, ℕ, ap, ap₂, drop, sym}
use Rattle.cq_writestore.proofs.MarkedLists.{drop-both}
use Rattle.cq_writestore.proofs.store.WriteStore.take_front.Goals as goal

pub returns-clause-rows : goal.returns-clause-rows
returns-clause-rows c =
    let pieces = c.self.inside.pieces in
    let rows = c.self.inside.tail.rows in
    let count = c.args.count in
    let left = c.saturating_sub.ensures ∙ ap (λ (n : ℕ). count - n) c.len-held.ensures in
    ap₂ (λ a b. a ++ b) c.take_front.ensures c.take_front-2.ensures.rows ∙ ap (λ (n : ℕ). drop count pieces ++ drop n rows) left
    ∙ sym (drop-both count pieces rows) ∙ ap (λ w. drop count w.rows) c.self.view_is
