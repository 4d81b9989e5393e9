-- Rows that are cut from one list.
use Rattle.std.proofs.Common.{◌≡◌, ◌∙◌, refl, sym, ap, arith, ◌≤◌, ◌<◌, ◌+◌, ◌-◌, ℕ, zero, suc, List, [], ◌∷◌, ◌++◌, append_assoc, length, append-nil, Some, get_or, subst}
use Rattle.std.specs.Prelude.{take, drop, slice_get, slice_range}
use Rattle.std.proofs.lemmas.List.{drop-append-le, take-append-le, take_rest, drop-drop, drop_all, drop_more, length-drop, length-take-le, take-append-drop}
use Rattle.cq_values.specs.declared.value.Value.{Value}
use Rattle.cq_values.specs.Value.{Row}
use Rattle.cq_values_rows.specs.Flat.{AreRisingFrom, IsPlaced, last_end, rows_from}

-- the last row does not end before the first begins
pub last_past : (start : ℕ) (ends : List ℕ) → AreRisingFrom start ends → start ≤ last_end start ends
unfolding AreRisingFrom last_end
last_past start [] r = omega (arith)
last_past start (end ∷ ends) r = omega (arith, r.0, last_past end ends r.1)

-- values behind the end of a range leave it as it is
range_longer : (vs ws : List Value) (start end : ℕ) → start ≤ end → end ≤ length vs → slice_range (vs ++ ws) start end ≡ slice_range vs start end
range_longer vs ws start end l n =
    ap (take (end - start)) (drop-append-le start vs ws (omega (arith, l, n)))
    ∙ take-append-le (end - start) (drop start vs) ws (omega (arith, l, n, length-drop start vs))

-- values behind the last end leave all rows as they are
pub rows_longer : (start : ℕ) (ends : List ℕ) (vs ws : List Value) → AreRisingFrom start ends → last_end start ends ≤ length vs → rows_from start ends (vs ++ ws) ≡ rows_from start ends vs
unfolding AreRisingFrom last_end rows_from
rows_longer start [] vs ws r n = refl
rows_longer start (end ∷ ends) vs ws r n =
    ap (λ (row : Row). row ∷ rows_from end ends (vs ++ ws)) (range_longer vs ws start end r.0 (omega (arith, n, last_past end ends r.1)))
    ∙ ap (λ (rows : List Row). slice_range vs start end ∷ rows) (rows_longer end ends vs ws r.1 n)

-- one more end is one more row
pub rows_ended : (start : ℕ) (ends : List ℕ) (end : ℕ) (vs : List Value) → rows_from start (ends ++ end ∷ []) vs ≡ rows_from start ends vs ++ slice_range vs (last_end start ends) end ∷ []
unfolding last_end rows_from
rows_ended start [] end vs = refl
rows_ended start (first ∷ ends) end vs = ap (λ (rows : List Row). slice_range vs start first ∷ rows) (rows_ended first ends end vs)

pub last_ended : (start : ℕ) (ends : List ℕ) (end : ℕ) → last_end start (ends ++ end ∷ []) ≡ end
unfolding last_end
last_ended start [] end = refl
last_ended start (first ∷ ends) end = last_ended first ends end

pub rising_ended : (start : ℕ) (ends : List ℕ) (end : ℕ) → AreRisingFrom start ends → last_end start ends ≤ end → AreRisingFrom start (ends ++ end ∷ [])
unfolding AreRisingFrom last_end
rising_ended start [] end r n = (n, tt)
rising_ended start (first ∷ ends) end r n = (r.0, rising_ended first ends end r.1 n)

-- each end is a row
pub rows_counted : (start : ℕ) (ends : List ℕ) (vs : List Value) → length (rows_from start ends vs) ≡ length ends
unfolding rows_from
rows_counted start [] vs = refl
rows_counted start (end ∷ ends) vs = ap suc (rows_counted end ends vs)

-- the last end is that of the last row
pub end_last : (start : ℕ) (ends : List ℕ) (d : ℕ) → (length ends ≡ 0 → ⊥) → get_or ends (length ends - 1) d ≡ last_end start ends
unfolding last_end
end_last start [] d n = absurd (n refl)
end_last start (end ∷ []) d n = refl
end_last start (end ∷ later ∷ ends) d n =
    ap (λ (place : ℕ). get_or (end ∷ later ∷ ends) place d) {x = length (end ∷ later ∷ ends) - 1} {y = suc (length (later ∷ ends) - 1)} (omega arith)
    ∙ end_last end (later ∷ ends) d (λ e. absurd (omega (arith, e)))

-- ---- the values up to the last end alone
module _ (ends : List ℕ) (vs : List Value) (end : ℕ) (rising : AreRisingFrom 0 ends) (last : end ≡ last_end 0 ends) (within : last_end 0 ends ≤ length vs) where
  -- no row ends behind them
  pub end_kept : last_end 0 ends ≤ length (take end vs)
  end_kept = omega (arith, last, length-take-le end vs (omega (arith, last, within)))

  -- all rows are kept
  pub rows_kept : rows_from 0 ends (take end vs) ≡ rows_from 0 ends vs
  rows_kept = sym (rows_longer 0 ends (take end vs) (drop end vs) rising end_kept) ∙ ap (rows_from 0 ends) (take-append-drop end vs)

  -- and none is begun
  pub none_begun : slice_range (take end vs) (last_end 0 ends) (length (take end vs)) ≡ []
  none_begun =
      take_rest (take end vs) (last_end 0 ends)
      ∙ drop_all (last_end 0 ends) (take end vs) (omega (arith, last, length-take-le end vs (omega (arith, last, within))))

-- what is from a place on, up to the end
pub range_to_end : (vs : List Value) (start : ℕ) → slice_range vs start (length vs) ≡ drop start vs
range_to_end vs start = take_rest vs start

-- the row that is begun grows by what is put behind it
pub begun_longer : (vs ws : List Value) (start : ℕ) → start ≤ length vs → slice_range (vs ++ ws) start (length (vs ++ ws)) ≡ slice_range vs start (length vs) ++ ws
begun_longer vs ws start l =
    range_to_end (vs ++ ws) start
    ∙ drop-append-le start vs ws l
    ∙ ap (λ (row : Row). row ++ ws) (sym (range_to_end vs start))

-- where the row at a place begins
begin : ℕ → List ℕ → ℕ → ℕ
begin start ends zero = start
begin start ends (suc place) = get_or ends place 0

-- the row at a place
row_cut : (start : ℕ) (ends : List ℕ) (vs : List Value) (place d : ℕ) → place < length ends → slice_get (rows_from start ends vs) place ≡ Some (slice_range vs (begin start ends place) (get_or ends place d))
unfolding rows_from begin
row_cut start [] vs place d l = absurd (omega (arith, l))
row_cut start (end ∷ ends) vs zero d l = refl
row_cut start (end ∷ ends) vs (suc zero) d l = row_cut end ends vs zero d (omega (arith, l))
row_cut start (end ∷ ends) vs (suc (suc place)) d l = row_cut end ends vs (suc place) d (omega (arith, l))

-- and it ends within the values
within_cut : (start : ℕ) (ends : List ℕ) (place d : ℕ) → AreRisingFrom start ends → place < length ends → (begin start ends place ≤ get_or ends place d) × (get_or ends place d ≤ last_end start ends)
unfolding AreRisingFrom last_end begin
within_cut start [] place d r l = absurd (omega (arith, l))
within_cut start (end ∷ ends) zero d r l = (r.0, last_past end ends r.1)
within_cut start (end ∷ ends) (suc zero) d r l = within_cut end ends zero d r.1 (omega (arith, l))
within_cut start (end ∷ ends) (suc (suc place)) d r l = within_cut end ends (suc place) d r.1 (omega (arith, l))

pub placed_first : (ends : List ℕ) (d : ℕ) → AreRisingFrom 0 ends → 0 < length ends → IsPlaced ends 0 0 (get_or ends 0 d)
unfolding begin
placed_first ends d r l =
    let w = within_cut 0 ends 0 d r l in
    record { in_order = w.0; within = w.1; row = λ vs. row_cut 0 ends vs 0 d l }

-- what stands before a place is the place less one
before_later : (ends : List ℕ) (place : ℕ) → get_or ends place 0 ≡ get_or ends (suc place - 1) 0
before_later ends place = ap (λ (p : ℕ). get_or ends p 0) (omega (arith))

pub placed_later : (ends : List ℕ) (place : ℕ) → AreRisingFrom 0 ends → (place ≡ 0 → ⊥) → place < length ends → IsPlaced ends place (get_or ends (place - 1) 0) (get_or ends place 0)
unfolding begin
placed_later ends zero r n l = absurd (n refl)
placed_later ends (suc place) r n l =
    let w = within_cut 0 ends (suc place) 0 r l in
    subst (λ (start : ℕ). IsPlaced ends (suc place) start (get_or ends (suc place) 0)) (before_later ends place)
    (record { in_order = w.0; within = w.1; row = λ vs. row_cut 0 ends vs (suc place) 0 l })

-- one more value is taken
taken : (vs : List Value) (n : ℕ) (v : Value) (rest : List Value) → drop n vs ≡ v ∷ rest → (take (suc n) vs ≡ take n vs ++ v ∷ []) × (drop (suc n) vs ≡ rest)
taken [] zero v rest e = absurd (cc)
taken [] (suc n) v rest e = absurd (cc)
taken (first ∷ vs) zero v rest e = (cc, cc)
taken (first ∷ vs) (suc n) v rest e = let later = taken vs n v rest e in (ap (λ (xs : List Value). first ∷ xs) later.0, later.1)

after : (n : ℕ) → n + 1 ≡ suc n
after n = omega (arith)

pub next_taken : (vs : List Value) (n : ℕ) (v : Value) (rest : List Value) → drop n vs ≡ v ∷ rest → take (n + 1) vs ≡ take n vs ++ v ∷ []
next_taken vs n v rest e = ap (λ (m : ℕ). take m vs) (after n) ∙ (taken vs n v rest e).0

pub next_dropped : (vs : List Value) (n : ℕ) (v : Value) (rest : List Value) → drop n vs ≡ v ∷ rest → drop (n + 1) vs ≡ rest
next_dropped vs n v rest e = ap (λ (m : ℕ). drop m vs) (after n) ∙ (taken vs n v rest e).1

-- the values behind a row, of those from where it begins
left_behind : (vs : List Value) (start end : ℕ) → start ≤ end → drop (end - start) (drop start vs) ≡ drop end vs
left_behind vs start end l = drop-drop (end - start) start vs ∙ ap (λ (n : ℕ). drop n vs) (omega (arith, l))

-- ---- one end after the other
module _ (ends : List ℕ) (i : ℕ) (inside : i < length ends) where
  abbrev here : ℕ
  here = get_or ends i 0

  next : drop i ends ≡ here ∷ drop (i + 1) ends
  next = drop_more ends i 0 inside

  -- the next row ends behind where it begins, and so do those behind it
  pub next_rises : (start : ℕ) → AreRisingFrom start (drop i ends) → (start ≤ here) × AreRisingFrom here (drop (i + 1) ends)
  unfolding AreRisingFrom
  next_rises start r = subst (AreRisingFrom start) next r

  pub next_last : (start : ℕ) → last_end start (drop i ends) ≡ last_end here (drop (i + 1) ends)
  unfolding last_end
  next_last start = ap (last_end start) next

  -- it and those behind it are the rows from here on
  next_cut : (start : ℕ) (vs : List Value) → rows_from start (drop i ends) vs ≡ slice_range vs start here ∷ rows_from here (drop (i + 1) ends) vs
  unfolding rows_from
  next_cut start vs = ap (λ (later : List ℕ). rows_from start later vs) next

-- where the values behind a start are left, and the ends from a place on rise from it
module _ (ends : List ℕ) (i : ℕ) (inside : i < length ends) (start : ℕ) (rising : AreRisingFrom start (drop i ends)) (values left : List Value) (is : left ≡ drop start values) where
  -- they are enough for the next row
  pub next_within : last_end start (drop i ends) ≡ last_end 0 ends → last_end 0 ends ≤ length values → get_or ends i 0 - start ≤ length left
  next_within last within =
      let rises = next_rises ends i inside start rising in
      let past = last_past (get_or ends i 0) (drop (i + 1) ends) rises.1 in
      omega (arith, rises.0, past, next_last ends i inside start, last, within, ap length is, length-drop start values)

  -- which is cut from them
  pub row_next : (row : Row) → row ≡ take (get_or ends i 0 - start) left → (whole before after : List Row) → whole ≡ before ++ rows_from start (drop i ends) values → after ≡ before ++ row ∷ []
      → whole ≡ after ++ rows_from (get_or ends i 0) (drop (i + 1) ends) values
  row_next row cut whole before after so_far pushed =
      let end : ℕ = get_or ends i 0 in
      let later : List Row = rows_from end (drop (i + 1) ends) values in
      let same : row ≡ slice_range values start end = cut ∙ ap (take (end - start)) is in
      so_far ∙ ap (λ (rows : List Row). before ++ rows) (next_cut ends i inside start values)
      ∙ ap (λ (r : Row). before ++ r ∷ later) (sym same) ∙ sym (append_assoc before (row ∷ []) later)
      ∙ ap (λ (rows : List Row). rows ++ later) (sym pushed)

  -- and leaves those behind it
  pub next_left : (behind : List Value) → behind ≡ drop (get_or ends i 0 - start) left → behind ≡ drop (get_or ends i 0) values
  next_left behind cut =
      cut ∙ ap (drop (get_or ends i 0 - start)) is ∙ left_behind values start (get_or ends i 0) (next_rises ends i inside start rising).0

-- behind the last end all rows are cut
pub all_cut : (ends : List ℕ) (i start : ℕ) (vs : List Value) (rows whole : List Row) → length ends ≤ i → whole ≡ rows ++ rows_from start (drop i ends) vs → rows ≡ whole
unfolding rows_from
all_cut ends i start vs rows whole past so_far =
    sym (so_far ∙ ap (λ (later : List ℕ). rows ++ rows_from start later vs) (drop_all i ends past) ∙ append-nil rows)
