-- Rows in parts, one behind the other.
use Rattle.std.proofs.Common.{◌≡◌, ◌∙◌, ℕ, zero, suc, ◌+◌, ◌-◌, ◌≤◌, List, [], ◌∷◌, ◌++◌, length, length-append, take, refl, sym, ap, arith}
use Rattle.std.proofs.lemmas.List.{append_assoc}
use Rattle.cq_segments_pieces.specs.Marked.{MarkedRow, live}
use Rattle.cq_segments_pieces.specs.Pieces.{joined}
use Rattle.cq_segments_pieces.proofs.Marks.{length-live, live-append, live-unmarked}
use Rattle.cq_table_columns.specs.Stored.{front_rows, marked_rows}
use Rattle.cq_table_columns.specs.declared.front.Front.{Front}
use Rattle.cq_table_columns.specs.declared.front.Front.TheVariants as front

-- the live rows at a front
pub front_live : (f : Front) → front_rows f ≡ live (marked_rows f)
front_live (front.Rows rows) = sym (live-unmarked rows.now)
front_live (front.Columns columns) = sym (live-unmarked columns.now)
front_live (front.Marked piece) = refl
front_live (front.Written written) = refl

-- are no more than all that stand there
pub front_few : (f : Front) → length (front_rows f) ≤ length (marked_rows f)
front_few f = omega (arith, ap length (front_live f), length-live (marked_rows f))

-- a part with what stands behind it
pub record AreParts (whole part rest : List MarkedRow) : Type 0 where
  pub stored : whole ≡ part ++ rest
  pub rows : live whole ≡ live part ++ live rest
  pub count : length (live whole) ≡ length (live part) + length (live rest)
  pub span : length whole ≡ length part + length rest

pub are_parts : (whole part rest : List MarkedRow) → whole ≡ part ++ rest → AreParts whole part rest
are_parts whole part rest is =
    let lives = ap live is ∙ live-append part rest in
    record {
      stored = is;
      rows = lives;
      count = ap length lives ∙ length-append (live part) (live rest);
      span = ap length is ∙ length-append part rest;
    }

-- the first piece, and what stands behind it
pub first_piece : (whole : List MarkedRow) (pieces rest segments : List (List MarkedRow)) (written piece : List MarkedRow) → joined pieces ++ joined segments ++ written ≡ whole → pieces ≡ piece ∷ rest
    → AreParts whole piece (joined rest ++ joined segments ++ written)
first_piece whole pieces rest segments written piece is first =
    are_parts whole piece (joined rest ++ joined segments ++ written)
    (sym is ∙ ap (λ p. joined p ++ joined segments ++ written) first
    ∙ ap (λ l. l ++ written) (append_assoc piece (joined rest) (joined segments)) ∙ append_assoc piece (joined rest ++ joined segments) written)

-- the first segment where no piece comes before it, and what stands behind it
pub first_segment : (whole : List MarkedRow) (pieces segments rest : List (List MarkedRow)) (written segment : List MarkedRow) → joined pieces ++ joined segments ++ written ≡ whole → pieces ≡ [] → segments ≡ segment ∷ rest
    → AreParts whole segment (joined rest ++ written)
first_segment whole pieces segments rest written segment is none first =
    are_parts whole segment (joined rest ++ written)
    (sym is ∙ ap (λ p. joined p ++ joined segments ++ written) none ∙ ap (λ s. joined s ++ written) first ∙ append_assoc segment (joined rest) written)

-- of two parts the first ones are those of the first, and then those of the second
pub first_parts : (count : ℕ) (front back : List MarkedRow) → take count (front ++ back) ≡ take count front ++ take (count - length front) back
first_parts zero front back = ap (λ (n : ℕ). take n back) {x = 0} {y = 0 - length front} (omega arith)
first_parts (suc count) [] back = ap (λ (n : ℕ). take n back) {x = suc count} {y = suc count - 0} (omega arith)
first_parts (suc count) (m ∷ front) back =
    ap (λ l. m ∷ l) (first_parts count front back)
    ∙ ap (λ (n : ℕ). m ∷ take count front ++ take n back) {x = count - length front} {y = suc count - length (m ∷ front)} (omega arith)

-- and so it is with the live ones among them
pub live_parts : (count : ℕ) (whole front back : List MarkedRow) → whole ≡ front ++ back → live (take count whole) ≡ live (take count front) ++ live (take (count - length front) back)
live_parts count whole front back is = ap (λ l. live (take count l)) is ∙ ap live (first_parts count front back) ∙ live-append (take count front) (take (count - length front) back)
