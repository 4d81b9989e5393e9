use Rattle.std.proofs.Common.{ℕ, ◌<◌, ◌∙◌, ap, ap₂, length, subst, sym, take}
use Rattle.std.proofs.ByRecursion.{All-take}
use Rattle.std.proofs.lemmas.Result.{IfOk-weaker}
use Rattle.cq_encodings_vectors.specs.Places.{AreBelow, rows_at}
use Rattle.cq_segments_pieces.specs.Marked.{live_from, rows_of}
use Rattle.cq_table_columns.specs.Stored.{marked_rows}
use Rattle.cq_table_columns.proofs.LiveRows.{EndsAt, live_below, rows_first}
use Rattle.cq_table_columns.proofs.front.Front.first_live.Goals as goal

pub rows_at-requires : goal.rows_at-requires
rows_at-requires c =
    let stored = marked_rows c.args.self.now in
    let len = c.len_below-len.result in
    let places = c.deref-2.ensures.value ∙ c.in_ok-places.ensures in
    let below = All-take (λ (p : ℕ). p < length (rows_of stored)) len (live_from 0 stored) (live_below stored) in
    subst (λ l. AreBelow (length l) (take len c.deref-2.result.now)) (sym c.with_all.ensures) (subst (λ p. AreBelow (length (rows_of stored)) (take len p)) (sym places) below)

pub returns : goal.returns
returns c =
    let stored = marked_rows c.args.self.now in
    let len = c.len_below-len.result in
    let places = c.deref-2.ensures.value ∙ c.in_ok-places.ensures in
    let ends = subst (EndsAt c.args.count len) (c.deref.ensures.value ∙ c.in_ok-places.ensures) (c.len_below-len.ensures.below, c.len_below-len.ensures.next) in
    let all = ap₂ rows_at c.with_all.ensures (ap (take len) places) ∙ rows_first stored c.args.count len ends in
    IfOk-weaker c.rows_at.result _ _ (λ rows is. is ∙ all) c.rows_at.ensures
