use Rattle.std.proofs.Common.{◌≡◌, ◌≤◌, ◌-◌, ◌∙◌, ap, ap₂, arith, drop, length, min, sym, take}
use Rattle.std.proofs.lemmas.List.{length-drop}
use Rattle.cq_segments_pieces.specs.Marked.{live, marked_count, with_flags}
use Rattle.cq_segments_pieces.proofs.Marks.{count-parts, drop-flags, length-flags}
use Rattle.cq_writestore.specs.Writes.{tail_rows}
use Rattle.cq_writestore.proofs.MarkedLists.{count-front, drop-min, turned}
use Rattle.cq_writestore.proofs.tail_store.TailStore.take_front.Goals as goal

pub split_at-requires : goal.split_at-requires
split_at-requires c =
    let rows = c.self.inside.rows in
    omega (arith, c.min-count.ensures, c.len.ensures, rows.ok, length-flags rows.items c.self.inside.marks.items, ap (λ w. length w.rows) c.self.view_is, ap length c.tail.ensures.rows)

pub overflow_sub-gone : goal.overflow_sub-gone
overflow_sub-gone c =
    let rows = c.self.inside.rows in
    let stored = tail_rows c.tail.result in
    let n = c.min-count.result in
    let there : n ≤ length stored = omega (arith, c.min-count.ensures, c.len.ensures, rows.ok, length-flags rows.items c.self.inside.marks.items, ap (λ w. length w.rows) c.self.view_is, ap length c.tail.ensures.rows) in
    omega (arith, c.live_len.ensures, ap (λ l. length (live l)) c.split_at.ensures.front, count-front stored n there)

pub overflow_sub-self : goal.overflow_sub-self
overflow_sub-self c =
    let rows = c.self.inside.rows in
    let stored = tail_rows c.tail.result in
    let n = c.min-count.result in
    let there : n ≤ length stored = omega (arith, c.min-count.ensures, c.len.ensures, rows.ok, length-flags rows.items c.self.inside.marks.items, ap (λ w. length w.rows) c.self.view_is, ap length c.tail.ensures.rows) in
    let all = ap marked_count c.tail.ensures.rows ∙ sym (ap (λ w. marked_count w.rows) c.self.view_is) in
    omega (arith, c.live_len.ensures, ap (λ l. length (live l)) c.split_at.ensures.front, count-front stored n there, count-parts n stored, all, c.self.invariant.count)

pub invariant_of-self : goal.invariant_of-self
invariant_of-self c =
    let rows = c.self.inside.rows in
    let marks = c.self.inside.marks in
    let stored = tail_rows c.tail.result in
    let n = c.min-count.result in
    let left = c.len-2.result - n in
    let there : n ≤ length stored = omega (arith, c.min-count.ensures, c.len.ensures, rows.ok, length-flags rows.items marks.items, ap (λ w. length w.rows) c.self.view_is, ap length c.tail.ensures.rows) in
    let low : n ≤ length rows.items = omega (arith, c.min-count.ensures, c.len.ensures, rows.ok) in
    let rest : left ≡ length rows.items - n = omega (arith, c.len-2.ensures, rows.ok) in
    let of_rows = c.truncate.ensures.items ∙ ap (take left) c.rotate_left.ensures.items ∙ turned n left rows.items low rest in
    let of_marks = c.truncate-2.ensures.items ∙ ap (take left) c.rotate_left-2.ensures.items ∙ turned n left marks.items (omega (arith, low, c.self.invariant.long)) (omega (arith, rest, c.self.invariant.long)) in
    let same = ap (λ w. w.rows) c.self.view_is ∙ sym c.tail.ensures.rows in
    let whole = ap₂ with_flags of_rows of_marks ∙ drop-flags rows.items marks.items n ∙ ap (drop n) same in
    record {
      long = omega (arith, ap length of_rows, ap length of_marks, length-drop n rows.items, length-drop n marks.items, c.self.invariant.long);
      count = omega (arith, ap marked_count whole, ap marked_count same, c.live_len.ensures, ap (λ l. length (live l)) c.split_at.ensures.front, count-front stored n there, count-parts n stored, c.self.invariant.count);
    }

pub returns-clause-rows : goal.returns-clause-rows
returns-clause-rows c =
    let rows = c.self.inside.rows in
    let marks = c.self.inside.marks in
    let stored = c.args.self.now.rows in
    let n = c.min-count.result in
    let left = c.len-2.result - n in
    let low : n ≤ length rows.items = omega (arith, c.min-count.ensures, c.len.ensures, rows.ok) in
    let rest : left ≡ length rows.items - n = omega (arith, c.len-2.ensures, rows.ok) in
    let of_rows = c.truncate.ensures.items ∙ ap (take left) c.rotate_left.ensures.items ∙ turned n left rows.items low rest in
    let of_marks = c.truncate-2.ensures.items ∙ ap (take left) c.rotate_left-2.ensures.items ∙ turned n left marks.items (omega (arith, low, c.self.invariant.long)) (omega (arith, rest, c.self.invariant.long)) in
    let same = ap (λ w. w.rows) c.self.view_is in
    let least : n ≡ min c.args.count (length stored) = omega (arith, c.min-count.ensures, c.len.ensures, rows.ok, length-flags rows.items marks.items, ap length same) in
    ap₂ with_flags of_rows of_marks ∙ drop-flags rows.items marks.items n ∙ ap (drop n) same ∙ ap (λ k. drop k stored) least ∙ drop-min c.args.count stored
