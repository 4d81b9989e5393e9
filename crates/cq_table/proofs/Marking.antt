-- What a mark does to the live rows.
use Rattle.std.proofs.Common.{◌≡◌, ℕ, zero, suc, ◌+◌, ◌<◌, Bool, true, false, not, List, [], ◌∷◌, ◌++◌, length, refl, sym, subst, ap, ◌∙◌, arith}
use Rattle.std.specs.List.{AllByRecursion}
use Rattle.std.proofs.lemmas.List.{length-map}
use Rattle.cq_model_bags.proofs.Totals.{by_test}
use Rattle.cq_values.specs.Value.{Row}
use Rattle.cq_segments_pieces.specs.Marked.{MarkedRow, live, rows_of, unmarked, with_mark, with_marks}
use Rattle.cq_segments_pieces.proofs.Marks.{length-mark, mark-in-front, rows_of-mark}
use Rattle.cq_encodings_vectors.specs.Places.{AreBelow}
use Rattle.cq_table.specs.Found.{AreLiveAt, AreThere, is_live_at}

-- rows without marks are as many
pub length-unmarked : (rows : List Row) → length (unmarked rows) ≡ length rows
length-unmarked rows = length-map rows _

-- marks leave as many rows
pub length-with_marks : (places : List ℕ) (rows : List MarkedRow) → length (with_marks places rows) ≡ length rows
length-with_marks [] rows = refl
length-with_marks (place ∷ places) rows = length-with_marks places (with_mark place rows) ∙ length-mark rows place

-- whether a row behind others is live
pub live_at-behind : (place : ℕ) (xs ys : List MarkedRow) → is_live_at (length xs + place) (xs ++ ys) ≡ is_live_at place ys
live_at-behind place [] ys = ap (λ (k : ℕ). is_live_at k ys) (omega arith)
live_at-behind place (x ∷ xs) ys =
    let one : length (x ∷ xs) + place ≡ suc (length xs + place) = omega arith in
    ap (λ (k : ℕ). is_live_at k (x ∷ xs ++ ys)) one ∙ live_at-behind place xs ys

-- a row that is live is there
pub live_at_within : (place : ℕ) (rows : List MarkedRow) → is_live_at place rows ≡ true → place < length rows
live_at_within place [] is = absurd (cc is)
live_at_within zero (r ∷ rows) is = omega arith
live_at_within (suc place) (r ∷ rows) is = omega (arith, live_at_within place rows is)

one_live : (r : MarkedRow) (rows : List MarkedRow) → r.marked ≡ false → live (r ∷ rows) ≡ r.row ∷ live rows
one_live r rows is = rw is refl

none_live : (r : MarkedRow) (rows : List MarkedRow) → r.marked ≡ true → live (r ∷ rows) ≡ live rows
none_live r rows is = rw is refl

not_false : (b : Bool) → not b ≡ true → b ≡ false
not_false true is = absurd (cc is)
not_false false is = refl

-- a mark on a live row leaves one live row less
pub live_less : (place : ℕ) (rows : List MarkedRow) → is_live_at place rows ≡ true → length (live (with_mark place rows)) + 1 ≡ length (live rows)
live_less place [] is = absurd (cc is)
live_less zero (r ∷ rows) is = omega (arith, ap length (one_live r rows (not_false r.marked is)))
live_less (suc place) (r ∷ rows) is =
    let less = live_less place rows is in
    by_test r.marked
    (λ k. omega (arith, less, ap length (none_live r rows k), ap length (none_live r (with_mark place rows) k)))
    (λ k. omega (arith, less, ap length (one_live r rows k), ap length (one_live r (with_mark place rows) k)))

-- and marks on several as many less
pub live_fewer : (places : List ℕ) (rows : List MarkedRow) → AreLiveAt places rows → length (live (with_marks places rows)) + length places ≡ length (live rows)
live_fewer [] rows are = omega arith
live_fewer (place ∷ places) rows are = omega (arith, live_less place rows are.0, live_fewer places (with_mark place rows) are.1)

-- what holds of the live rows holds of those that stay live
pub all_live-with_mark : (P : Row → Type 0) (place : ℕ) (rows : List MarkedRow) → AllByRecursion P (live rows) → AllByRecursion P (live (with_mark place rows))
all_live-with_mark P place [] all = tt
all_live-with_mark P zero (r ∷ rows) all =
    by_test r.marked
    (λ k. subst (AllByRecursion P) (none_live r rows k) all)
    (λ k. (subst (AllByRecursion P) (one_live r rows k) all).1)
all_live-with_mark P (suc place) (r ∷ rows) all =
    by_test r.marked
    (λ k. subst (AllByRecursion P) (sym (none_live r (with_mark place rows) k)) (all_live-with_mark P place rows (subst (AllByRecursion P) (none_live r rows k) all)))
    (λ k. let both = subst (AllByRecursion P) (one_live r rows k) all in subst (AllByRecursion P) (sym (one_live r (with_mark place rows) k)) (both.0, all_live-with_mark P place rows both.1))

pub all_live-with_marks : (P : Row → Type 0) (places : List ℕ) (rows : List MarkedRow) → AllByRecursion P (live rows) → AllByRecursion P (live (with_marks places rows))
all_live-with_marks P [] rows all = all
all_live-with_marks P (place ∷ places) rows all = all_live-with_marks P places (with_mark place rows) (all_live-with_mark P place rows all)

-- and the rows themselves stay
pub rows_of-marks : (places : List ℕ) (rows : List MarkedRow) → rows_of (with_marks places rows) ≡ rows_of rows
rows_of-marks [] rows = refl
rows_of-marks (place ∷ places) rows = rows_of-marks places (with_mark place rows) ∙ rows_of-mark rows place

-- marks on rows in front of others
pub with_marks-front : (places : List ℕ) (xs ys : List MarkedRow) → AreThere places xs → with_marks places (xs ++ ys) ≡ with_marks places xs ++ ys
with_marks-front [] xs ys there = refl
with_marks-front (place ∷ places) xs ys there =
    ap (with_marks places) (mark-in-front xs ys place there.0)
    ∙ with_marks-front places (with_mark place xs) ys (subst (λ (n : ℕ). AreBelow n places) (sym (length-mark xs place)) there.1)
