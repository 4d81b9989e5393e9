-- Conditions that WHERE implies may be put below the joins.
use Rattle.std.proofs.Common.{◌≡◌, ℕ, ◌+◌, ◌≤◌, Bool, true, false, ◌&&◌, List, [], ◌∷◌, ◌++◌, length, take, drop, refl, sym, ◌∙◌, ap, arith, append_assoc}
use Rattle.std.proofs.lemmas.List.{append-nil, length-drop, length-take-le, nil_from_length, take-append-drop}
use Rattle.cq_values.specs.Value.{Row}
use Rattle.cq_model_bags.specs.Bag.{Weighted, filtered, joined}
use Rattle.cq_model_bags.specs.Join.{HasWidth}
use Rattle.cq_model_bags.proofs.Totals.{by_test}
use Rattle.cq_model_bags.proofs.Widths.{joined-width, on_parts, joined-filtered}
use Rattle.cq_model.specs.declared.query.Join.{Join}
use Rattle.cq_model.specs.declared.query.Query.{Query}
use Rattle.cq_model.specs.declared.query.Source.{Source}
use Rattle.cq_model.specs.Meaning.{Tables, meets, chain, keeps, joined_rows}
use Rattle.cq_model.specs.Pushed.{Below, Pushed, next, pushed_chain, pushed_rows, HaveWidths, IsImplied, AreImplied, AreBelow}

-- two filters are one of both conditions
pub filtered-filtered : (keep also : Row → Bool) (xs : Weighted) → filtered also (filtered keep xs) ≡ filtered (λ r. keep r && also r) xs
filtered-filtered keep also [] = refl
filtered-filtered keep also (x ∷ xs) = by_test (keep x.0)
    (λ k. by_test (also x.0) (λ a. rw (k, a, filtered-filtered keep also xs) refl) (λ a. rw (k, a, filtered-filtered keep also xs) refl))
    (λ k. rw (k, filtered-filtered keep also xs) refl)

-- WHERE drops what an implied condition drops
implied-filtered : (whole keep : Row → Bool) (n : ℕ) → IsImplied whole keep 0 n → (xs : Weighted) → HasWidth n xs → filtered whole (filtered keep xs) ≡ filtered whole xs
implied-filtered whole keep n i [] w = refl
implied-filtered whole keep n i (x ∷ xs) w = by_test (keep x.0)
    (λ k. by_test (whole x.0) (λ h. rw (k, h, implied-filtered whole keep n i xs w.1) refl) (λ h. rw (k, h, implied-filtered whole keep n i xs w.1) refl))
    (λ k. let h : whole x.0 ≡ false = sym (ap whole (append-nil x.0)) ∙ i.at [] x.0 [] refl w.0 k in
    rw (k, h, implied-filtered whole keep n i xs w.1) refl)

-- conditions on both parts of a row, and on the row
abbrev pub both : ℕ → (Row → Bool) → (Row → Bool) → (Row → Bool) → Row → Bool
both n keep also then r = on_parts n keep also r && then r

-- what is implied of the parts is implied of the row
pub both-implied : (whole keep also then : Row → Bool) (n m : ℕ) → IsImplied whole keep 0 n → IsImplied whole also n m → IsImplied whole then 0 (n + m) → IsImplied whole (both n keep also then) 0 (n + m)
both-implied whole keep also then n m i j k = record {
  at = λ r s t e w h.
      let short : n ≤ length s = omega (arith, w) in
      let front : length (take n s) ≡ n = length-take-le n s short in
      let back : length (drop n s) ≡ m = omega (arith, length-drop n s, w) in
      let parts : take n s ++ drop n s ≡ s = take-append-drop n s in
      let bare : r ≡ [] = nil_from_length r e in
      ap (λ q. whole (q ++ s ++ t)) bare
      ∙ by_test (then s)
      (λ c. by_test (keep (take n s))
      (λ a. let b : also (drop n s) ≡ false = sym (rw (a, c) (and-true (also (drop n s)))) ∙ h in
      ap (λ q. whole (q ++ t)) (sym parts) ∙ j.at (take n s) (drop n s) t front back b)
      (λ a. ap (λ q. whole (q ++ t)) (sym parts) ∙ ap whole (append_assoc (take n s) (drop n s) t) ∙ i.at [] (take n s) (drop n s ++ t) refl front a))
      (λ c. k.at [] s t refl w c);
}
  where
    and-true : (b : Bool) → b && true ≡ b
    and-true true = refl
    and-true false = refl

-- the next rows, of rows that pass a condition, are those of all rows that pass both
pub next-filtered : (tables : Tables) (keep : Row → Bool) (n : ℕ) (xs : Weighted) → HasWidth n xs → (j : Join) (b : Below)
    → next tables (filtered keep xs) j b ≡ filtered (both n keep b.source b.joined) (joined (meets j.on) xs (tables j.source))
next-filtered tables keep n xs w j b =
    ap (filtered b.joined) (joined-filtered (meets j.on) n keep b.source xs (tables j.source) w) ∙ filtered-filtered (on_parts n keep b.source) b.joined (joined (meets j.on) xs (tables j.source))

-- with conditions at its joins and on its first rows, the chain has the rows that WHERE keeps
chain-pushed : (width : Source → ℕ) (tables : Tables) → HaveWidths width tables → (whole keep : Row → Bool) (n : ℕ) (xs : Weighted) → HasWidth n xs
    → IsImplied whole keep 0 n → (js : List Join) (bs : List Below) → AreImplied width whole n js bs
    → filtered whole (pushed_chain tables (filtered keep xs) js bs) ≡ filtered whole (chain tables xs js)
chain-pushed width tables wide whole keep n xs w i [] [] a = implied-filtered whole keep n i xs w
chain-pushed width tables wide whole keep n xs w i [] (b ∷ bs) a = absurd a
chain-pushed width tables wide whole keep n xs w i (j ∷ js) [] a = absurd a
chain-pushed width tables wide whole keep n xs w i (j ∷ js) (b ∷ bs) a =
    let on = meets j.on in
    let rows = tables j.source in
    let m = width j.source in
    ap (λ ys. filtered whole (pushed_chain tables ys js bs)) (next-filtered tables keep n xs w j b)
    ∙ chain-pushed width tables wide whole (both n keep b.source b.joined) (n + m) (joined on xs rows) (joined-width on n m xs rows w (wide j.source))
    (both-implied whole keep b.source b.joined n m i a.0 a.1) js bs a.2

-- so the query keeps the same joined rows
pub rows-pushed : (width : Source → ℕ) (q : Query) (p : Pushed) (tables : Tables) → HaveWidths width tables → AreBelow width q p → pushed_rows q p tables ≡ joined_rows q tables
rows-pushed width q p tables wide a =
    chain-pushed width tables wide (keeps q.filter) p.first (width q.first) (tables q.first) (wide q.first) a.0 q.joins p.joins a.1
