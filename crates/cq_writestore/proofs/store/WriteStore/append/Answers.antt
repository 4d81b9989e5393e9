use Rattle.std.proofs.Common.{◌≡◌, ◌∙◌, ◌++◌, List, ap, ap₂, arith, false, length, length-append, subst, sym}
use Rattle.std.proofs.lemmas.List.{append_assoc, length-map}
use Rattle.cq_model_bags.proofs.Lists.{all-back}
use Rattle.cq_values.specs.Value.{Row}
use Rattle.cq_segments_pieces.specs.Columns.{AreWide}
use Rattle.cq_segments_pieces.specs.Marked.{rows_of, unmarked}
use Rattle.cq_segments_pieces.specs.Pieces.{joined}
use Rattle.cq_segments_pieces.proofs.Marks.{rows_of-append, rows_of-flags}
use Rattle.cq_writestore.specs.Writes.{with_flags_behind}
use Rattle.cq_writestore.proofs.Flagged.{flags_within, marks_kept, none_behind, stored_as, stored_count}
use Rattle.cq_writestore.proofs.store.WriteStore.append.Goals as goal

pub refilled-requires : goal.refilled-requires
refilled-requires c =
    let held = c.self.inside.pieces in
    let tail = c.self.inside.tail.rows in
    let rows = c.args.rows in
    let n = length c.args.columns.now in
    let all = ap (λ w. rows_of w.rows ++ rows) (sym c.self.view_is) ∙ ap (λ l. l ++ rows) (rows_of-append held tail) ∙ append_assoc (rows_of held) (rows_of tail) rows in
    subst (λ (l : List Row). AreWide n (l ++ rows)) (sym (ap rows_of c.tail.ensures.rows) ∙ rows_of-flags _ _)
    (all-back (λ (row : Row). length row ≡ n) (rows_of held) (rows_of tail ++ rows) (subst (AreWide n) all c.requires.wide))

pub append-requires-clause-small : goal.append-requires-clause-small
append-requires-clause-small c =
    let tail = c.self.inside.tail.rows in
    let made = joined c.into_parts-made.result.0.items in
    let behind = c.into_parts-made.result.1.items in
    let front = sym (rows_of-flags _ _) ∙ ap rows_of c.tail.ensures.rows in
    let are = c.into_parts-made.ensures.rows ∙ c.in_ok-all.ensures ∙ ap (λ (l : List Row). l ++ c.args.rows) front in
    omega (arith, stored_count c.self.inside.pieces made tail behind c.args.rows are, c.in_ok-count_more.ensures.ok, c.len.ensures.len, ap (λ w. length w.rows) c.self.view_is)

pub invariant_of-self-2 : goal.invariant_of-self-2
invariant_of-self-2 c =
    let held = c.self.inside.pieces in
    let tail = c.self.inside.tail.rows in
    let made = joined c.into_parts-made.result.0.items in
    let behind = c.into_parts-made.result.1.items in
    let front = sym (rows_of-flags _ _) ∙ ap rows_of c.tail.ensures.rows in
    let are = c.into_parts-made.ensures.rows ∙ c.in_ok-all.ensures ∙ ap (λ (l : List Row). l ++ c.args.rows) front in
    let count = stored_count held made tail behind c.args.rows are in
    let put = ap length c.in_ok-append.ensures.ok ∙ length-append held made in
    let last = ap (λ w. length w.rows) c.replace-older.ensures.after ∙ ap length c.in_ok-tail.ensures ∙ length-map behind (λ (row : Row). record { row = row; marked = false }) in
    record {
      fits = omega arith;
      small = omega (arith, put, last, count, c.in_ok-count_more.ensures.ok, c.len.ensures.len, ap (λ w. length w.rows) c.self.view_is);
    }

pub mark_behind-requires-clause-there : goal.mark_behind-requires-clause-there
mark_behind-requires-clause-there c =
    let held = c.self.inside.pieces in
    let tail = c.self.inside.tail.rows in
    let made = joined c.into_parts-made.result.0.items in
    let behind = c.into_parts-made.result.1.items in
    let front = sym (rows_of-flags _ _) ∙ ap rows_of c.tail.ensures.rows in
    let are = c.into_parts-made.ensures.rows ∙ c.in_ok-all.ensures ∙ ap (λ (l : List Row). l ++ c.args.rows) front in
    let last = ap (λ w. w.rows) c.replace-older.ensures.after ∙ c.in_ok-tail.ensures in
    let is = ap₂ (λ a b. a ++ b) c.in_ok-append.ensures.ok last ∙ stored_as held made behind (rows_of tail ++ c.args.rows) c.into_parts-made.ensures.fresh are in
    let own = c.tail-3.ensures.rows ∙ ap (λ w. w.rows) c.replace-older.ensures.value in
    let long = c.tail-3.ensures.marks ∙ ap (λ w. length w.rows) c.replace-older.ensures.value in
    omega (arith, c.len-held.ensures, flags_within held tail _ c.args.rows is _ _ own long)

pub mark_behind-requires-clause-fresh : goal.mark_behind-requires-clause-fresh
mark_behind-requires-clause-fresh c =
    let held = c.self.inside.pieces in
    let tail = c.self.inside.tail.rows in
    let made = joined c.into_parts-made.result.0.items in
    let behind = c.into_parts-made.result.1.items in
    let front = sym (rows_of-flags _ _) ∙ ap rows_of c.tail.ensures.rows in
    let are = c.into_parts-made.ensures.rows ∙ c.in_ok-all.ensures ∙ ap (λ (l : List Row). l ++ c.args.rows) front in
    let last = ap (λ w. w.rows) c.replace-older.ensures.after ∙ c.in_ok-tail.ensures in
    let is = ap₂ (λ a b. a ++ b) c.in_ok-append.ensures.ok last ∙ stored_as held made behind (rows_of tail ++ c.args.rows) c.into_parts-made.ensures.fresh are in
    rw c.len-held.ensures (none_behind held tail _ c.args.rows is)

pub returns-clause-ok : goal.returns-clause-ok
returns-clause-ok c =
    let held = c.self.inside.pieces in
    let tail = c.self.inside.tail.rows in
    let made = joined c.into_parts-made.result.0.items in
    let behind = c.into_parts-made.result.1.items in
    let front = sym (rows_of-flags _ _) ∙ ap rows_of c.tail.ensures.rows in
    let are = c.into_parts-made.ensures.rows ∙ c.in_ok-all.ensures ∙ ap (λ (l : List Row). l ++ c.args.rows) front in
    let last = ap (λ w. w.rows) c.replace-older.ensures.after ∙ c.in_ok-tail.ensures in
    let stored = c.append.new.self ++ c.replace-older.new.dest.rows in
    let is = ap₂ (λ a b. a ++ b) c.in_ok-append.ensures.ok last ∙ stored_as held made behind (rows_of tail ++ c.args.rows) c.into_parts-made.ensures.fresh are in
    let own = c.tail-3.ensures.rows ∙ ap (λ w. w.rows) c.replace-older.ensures.value in
    let long = c.tail-3.ensures.marks ∙ ap (λ w. length w.rows) c.replace-older.ensures.value in
    c.mark_behind.ensures ∙ ap (λ n. with_flags_behind n c.tail-3.result.marks.now stored) c.len-held.ensures
    ∙ marks_kept held tail stored c.args.rows is _ _ own long ∙ ap (λ w. w.rows ++ unmarked c.args.rows) c.self.view_is
