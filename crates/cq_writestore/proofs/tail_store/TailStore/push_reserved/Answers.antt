use Rattle.std.proofs.Common.{◌∙◌, ◌∷◌, ◌++◌, [], ap, ap₂, arith, false, length, length-append}
use Rattle.cq_segments_pieces.specs.Marked.{marked_count, unmarked, with_flags}
use Rattle.cq_segments_pieces.proofs.Marks.{count-append, count-unmarked}
use Rattle.cq_writestore.proofs.MarkedLists.{push-flag}
use Rattle.cq_writestore.proofs.tail_store.TailStore.push_reserved.Goals as goal

pub invariant_of-self : goal.invariant_of-self
invariant_of-self c =
    let rows = c.self.inside.rows.items in
    let flags = c.self.inside.marks.items in
    let row = c.args.row in
    let items = ap₂ with_flags c.push_reserved.ensures.items c.push_reserved-2.ensures.items ∙ push-flag rows flags row c.self.invariant.long in
    record {
      long = omega (arith, ap length c.push_reserved-2.ensures.items, ap length c.push_reserved.ensures.items, length-append flags (false ∷ []), length-append rows (row ∷ []), c.self.invariant.long);
      count = omega (arith, c.self.invariant.count, ap marked_count items, count-append (with_flags rows flags) (unmarked (row ∷ [])), count-unmarked (row ∷ []));
    }

pub returns-clause-rows : goal.returns-clause-rows
returns-clause-rows c =
    ap₂ with_flags c.push_reserved.ensures.items c.push_reserved-2.ensures.items
    ∙ push-flag c.self.inside.rows.items c.self.inside.marks.items c.args.row c.self.invariant.long
    ∙ ap (λ w. w.rows ++ unmarked (c.args.row ∷ [])) c.self.view_is
