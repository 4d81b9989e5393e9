use Rattle.std.proofs.Common.{◌∙◌, ◌<◌, ◌+◌, ap, arith, false, get_or, length, sym, true}
use Rattle.std.proofs.lemmas.List.{get_or_default, length-set}
use Rattle.cq_segments_pieces.specs.Marked.{marked_count, marks_of, with_flags, with_mark}
use Rattle.cq_segments_pieces.proofs.Marks.{count-mark, length-flags, length-live, length-mark, mark-again, marks_of-flags, set-flag}
use Rattle.cq_writestore.proofs.tail_store.TailStore.mark.Goals as goal

pub index-requires : goal.index-requires
index-requires c = omega (arith, c.requires, c.self.invariant.long, c.self.inside.marks.ok, length-flags c.self.inside.rows.items c.self.inside.marks.items, ap (λ w. length w.rows) c.self.view_is)

pub index_mut-requires : goal.index_mut-requires
index_mut-requires c = omega (arith, c.requires, c.self.invariant.long, c.self.inside.marks.ok, length-flags c.self.inside.rows.items c.self.inside.marks.items, ap (λ w. length w.rows) c.self.view_is)

pub overflow_add-self : goal.overflow_add-self
overflow_add-self c =
    let rows = c.self.inside.rows.items in
    let flags = c.self.inside.marks.items in
    let place = c.args.place in
    let stored = with_flags rows flags in
    let there : place < length stored = omega (arith, c.requires, ap (λ w. length w.rows) c.self.view_is) in
    let flag : place < length flags = omega (arith, there, length-flags rows flags, c.self.invariant.long) in
    let free = ap (λ l. get_or l place false) (marks_of-flags rows flags c.self.invariant.long) ∙ get_or_default flags place false c.index.result.now flag ∙ sym c.index.ensures ∙ c.if-not-index.true in
    omega (arith, count-mark stored place there free, c.self.invariant.count, length-live (with_mark place stored), length-mark stored place, length-flags rows flags, c.self.invariant.long, c.self.inside.marks.ok, c.self.inside.marks.small)

pub invariant_of-self : goal.invariant_of-self
invariant_of-self c =
    let rows = c.self.inside.rows.items in
    let flags = c.self.inside.marks.items in
    let place = c.args.place in
    let stored = with_flags rows flags in
    let there : place < length stored = omega (arith, c.requires, ap (λ w. length w.rows) c.self.view_is) in
    let flag : place < length flags = omega (arith, there, length-flags rows flags, c.self.invariant.long) in
    let free = ap (λ l. get_or l place false) (marks_of-flags rows flags c.self.invariant.long) ∙ get_or_default flags place false c.index.result.now flag ∙ sym c.index.ensures ∙ c.if-not-index.true in
    record {
      long = length-set flags place true ∙ c.self.invariant.long;
      count = ap (λ n. n + 1) c.self.invariant.count ∙ sym (count-mark stored place there free) ∙ ap marked_count (sym (set-flag rows flags place c.self.invariant.long));
    }

pub returns-then-not-index-clause-rows : goal.returns-then-not-index-clause-rows
returns-then-not-index-clause-rows c = set-flag c.self.inside.rows.items c.self.inside.marks.items c.args.place c.self.invariant.long ∙ ap (λ w. with_mark c.args.place w.rows) c.self.view_is

pub returns-else-not-index-clause-rows : goal.returns-else-not-index-clause-rows
returns-else-not-index-clause-rows c =
    let rows = c.self.inside.rows.items in
    let flags = c.self.inside.marks.items in
    let place = c.args.place in
    let flag : place < length flags = omega (arith, c.requires, ap (λ w. length w.rows) c.self.view_is, length-flags rows flags, c.self.invariant.long) in
    let set = ap (λ w. get_or (marks_of w.rows) place false) (sym c.self.view_is) ∙ ap (λ l. get_or l place false) (marks_of-flags rows flags c.self.invariant.long) ∙ get_or_default flags place false c.index.result.now flag ∙ sym c.index.ensures ∙ c.if-not-index.false in
    sym (mark-again c.args.self.now.rows place set)
