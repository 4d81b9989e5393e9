use Rattle.std.proofs.Common.{◌≡◌, ◌<◌, ◌≤◌, ◌⊎◌, inl, inr, ℕ, length, ap₂, arith, nat_cmp, sym, ◌∙◌}
use Rattle.std.proofs.lemmas.Bool.{cases_lt}
use Rattle.cq_values_rows.proofs.Lasts.{lasts}
use Rattle.cq_values_rows.proofs.lent_row.LentRow.cmp.Goals as goal

-- one of them has no more columns
pub returns : goal.returns
returns c =
    let r = c.args.self.now in
    let s = c.args.other.now in
    let at = c.loop-at.at in
    let first : at ≤ length r = omega (arith, c.loop-at.auto.at-end, c.min-at-end.ensures, c.len.ensures, c.len-2.ensures) in
    let second : at ≤ length s = omega (arith, c.loop-at.auto.at-end, c.min-at-end.ensures, c.len.ensures, c.len-2.ensures) in
    let shorter : length r ≤ length s → length r ≤ at = λ le. omega (arith, le, c.loop-at-test.false, c.min-at-end.ensures, c.len.ensures, c.len-2.ensures) in
    let longer : length s < length r → length s ≤ at = λ lt. omega (arith, lt, c.loop-at-test.false, c.min-at-end.ensures, c.len.ensures, c.len-2.ensures) in
    c.cmp.ensures ∙ ap₂ nat_cmp c.len-3.ensures c.len-4.ensures ∙ sym (lasts r s at first second (over shorter longer (cases_lt (length s) (length r)))) ∙ c.loop-at.invariant
  where
    over : {a b at : ℕ} → (a ≤ b → a ≤ at) → (b < a → b ≤ at) → (b < a) ⊎ (a ≤ b) → (a ≤ at) ⊎ (b ≤ at)
    over shorter longer (inl lt) = inr (longer lt)
    over shorter longer (inr le) = inl (shorter le)
