use Rattle.std.proofs.Common.{◌∙◌, ◌<◌, ◌+◌, ap, arith, false, get_or, length, sym, true}
use Rattle.std.proofs.lemmas.List.{length-set}
use Rattle.cq_segments_pieces.specs.Marked.{marked_count, marks_of, with_flags, with_mark}
use Rattle.cq_segments_pieces.proofs.Marks.{count-mark, length-flags, length-live, mark-again, marks_of-flags, set-flag}
use Rattle.cq_segments_pieces.proofs.piece.Piece.mark.Goals as goal

pub get-requires : goal.get-requires
get-requires c = omega (arith, c.requires, ap length c.self.view_is, length-flags c.self.inside.columns c.self.inside.marks, c.len-count.ensures.len, c.len-count.ensures.few)

pub set_flag-requires : goal.set_flag-requires
set_flag-requires c = omega (arith, c.requires, ap length c.self.view_is, length-flags c.self.inside.columns c.self.inside.marks, c.self.invariant.long)

pub overflow_add-self : goal.overflow_add-self
overflow_add-self c =
    let rows = c.self.inside.columns in
    let flags = c.self.inside.marks in
    omega (arith, c.self.invariant.count, length-live (with_flags rows flags), length-flags rows flags, c.len-count.ensures.len, c.len-count.ensures.few)

pub invariant_of-self : goal.invariant_of-self
invariant_of-self c =
    let rows = c.self.inside.columns in
    let flags = c.self.inside.marks in
    let stored = with_flags rows flags in
    let there : c.args.place < length stored = omega (arith, c.requires, ap length c.self.view_is) in
    let free = ap (λ l. get_or l c.args.place false) (marks_of-flags rows flags c.self.invariant.long) ∙ sym c.get.ensures ∙ c.if-not-get.true in
    record {
      long = ap length c.set_flag.ensures ∙ length-set flags c.args.place true ∙ c.self.invariant.long;
      count = ap (λ n. n + 1) c.self.invariant.count ∙ sym (count-mark stored c.args.place there free)
          ∙ ap marked_count (sym (set-flag rows flags c.args.place c.self.invariant.long) ∙ ap (with_flags rows) (sym c.set_flag.ensures));
    }

pub returns-then-not-get : goal.returns-then-not-get
returns-then-not-get c =
    let rows = c.self.inside.columns in
    ap (with_flags rows) c.set_flag.ensures ∙ set-flag rows c.self.inside.marks c.args.place c.self.invariant.long ∙ ap (with_mark c.args.place) c.self.view_is

pub returns-else-not-get : goal.returns-else-not-get
returns-else-not-get c =
    let rows = c.self.inside.columns in
    let flags = c.self.inside.marks in
    let set = ap (λ l. get_or l c.args.place false) (ap marks_of (sym c.self.view_is) ∙ marks_of-flags rows flags c.self.invariant.long) ∙ sym c.get.ensures ∙ c.if-not-get.false in
    sym (mark-again c.args.self.now c.args.place set)
