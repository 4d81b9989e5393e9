use Rattle.std.proofs.Common.{◌≡◌, ◌∙◌, ◌-◌, ◌++◌, ℕ, ap, ap₂, arith, length, refl, sym, take}
use Rattle.std.proofs.lemmas.List.{append-nil, append_assoc, map-append}
use Rattle.cq_segments_pieces.specs.Marked.{live}
use Rattle.cq_segments_pieces.specs.Rows.{row_of, stored_rows}
use Rattle.cq_table_columns.specs.Stored.{marked_rows, stored_marked}
use Rattle.cq_table_columns.proofs.LiveRows.{none_first}
use Rattle.cq_table_columns.proofs.Parts.{live_parts}
use Rattle.cq_table_columns.proofs.stored.Stored.first_live.Goals.{then-loop-more-test+else-not-is_empty, else-loop-more-test}
use Rattle.cq_table_columns.proofs.stored.Stored.first_live.Goals as goal

pub loop-more-preserved : goal.loop-more-preserved
loop-more-preserved c =
    let more = c.loop-more.more in
    let rows = c.loop-more.rows.items in
    let front = marked_rows c.split_piece.result.0 in
    let rest = stored_marked c.split_piece.result.1 in
    let here = ap stored_rows c.in_ok-append.ensures.items ∙ map-append row_of rows c.in_ok-first_live.field-0.items ∙ ap (λ l. stored_rows rows ++ l) c.in_ok-first_live.ensures in
    let less : c.saturating_sub-more.result ≡ more - length front = c.saturating_sub-more.ensures ∙ ap (λ (n : ℕ). more - n) c.span.ensures in
    ap₂ (λ l (n : ℕ). l ++ live (take n rest)) here less
    ∙ append_assoc (stored_rows rows) (live (take more front)) (live (take (more - length front) rest))
    ∙ ap (λ l. stored_rows rows ++ l) (sym (live_parts more (stored_marked c.loop-more.left) front rest c.split_piece.ensures.parts))
    ∙ c.loop-more.invariant

pub returns : goal.returns
returns c =
    let rows = stored_rows c.loop-more.rows.items in
    let left = stored_marked c.loop-more.left in
    elim c.loop-more-test.branch [
      | then-loop-more-test+else-not-is_empty w ↦ sym (append-nil rows) ∙ ap (λ l. rows ++ l) (sym (none_first left c.loop-more.more (w.if-not-is_empty.ensures.0 refl))) ∙ c.loop-more.invariant
      | else-loop-more-test w ↦
          sym (append-nil rows) ∙ ap (λ (n : ℕ). rows ++ live (take n left)) {x = 0} {y = c.loop-more.more} (omega (arith, w.loop-more-test.false)) ∙ c.loop-more.invariant
    ]
