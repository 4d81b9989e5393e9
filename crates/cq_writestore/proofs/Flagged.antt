-- Rows that get their marks one by one.
use Rattle.std.proofs.Common.{◌≡◌, ◌∙◌, ℕ, zero, suc, ◌+◌, ◌<◌, ◌≤◌, Bool, true, false, List, [], ◌∷◌, ◌++◌, length, length-append, drop, take, get_or, refl, sym, ap, ap₂, arith}
use Rattle.std.proofs.Math.Seq.{drop-length, take-append_seam}
use Rattle.std.proofs.lemmas.List.{append_assoc, drop-append-le, length-map, take-append-drop}
use Rattle.cq_values.specs.Value.{Row}
use Rattle.cq_segments_pieces.specs.Marked.{MarkedRow, rows_of, unmarked, with_flags, with_mark}
use Rattle.cq_segments_pieces.proofs.Marks.{flags-none, length-flags, length-rows_of, mark-behind, rows_of-flags, rows_of-unmarked, unmarked-append}
use Rattle.cq_writestore.specs.Writes.{with_flags_behind}
use Rattle.cq_writestore_rows.specs.NewRows.{NoneMarked}

-- rows behind all flags have no mark
pub flags-front : (front back : List Row) (flags : List Bool) → length flags ≤ length front → with_flags (front ++ back) flags ≡ with_flags front flags ++ unmarked back
flags-front [] back [] le = flags-none back
flags-front [] back (flag ∷ flags) le = absurd (omega (arith, le))
flags-front (row ∷ front) back [] le = unmarked-append (row ∷ front) back
flags-front (row ∷ front) back (flag ∷ flags) le = ap (λ l. record { row = row; marked = flag } ∷ l) (flags-front front back flags (omega (arith, le)))

abbrev marks_to : List Row → List Bool → ℕ → List MarkedRow
marks_to rows flags n = with_flags rows (take n flags)

-- a flag more that is set is a mark
flag-set : (rows : List Row) (flags : List Bool) (place : ℕ) → place < length flags → get_or flags place false ≡ true → marks_to rows flags (suc place) ≡ with_mark place (marks_to rows flags place)
flag-set [] flags place lt set = refl
flag-set (row ∷ rows) [] place lt set = absurd (omega (arith, lt))
flag-set (row ∷ rows) (flag ∷ flags) zero lt set = ap₂ (λ b l. record { row = row; marked = b } ∷ l) set (flags-none rows)
flag-set (row ∷ rows) (flag ∷ flags) (suc place) lt set = ap (λ l. record { row = row; marked = flag } ∷ l) (flag-set rows flags place (omega (arith, lt)) set)

-- one that is not is none
flag-clear : (rows : List Row) (flags : List Bool) (place : ℕ) → place < length flags → get_or flags place false ≡ false → marks_to rows flags (suc place) ≡ marks_to rows flags place
flag-clear [] flags place lt clear = refl
flag-clear (row ∷ rows) [] place lt clear = absurd (omega (arith, lt))
flag-clear (row ∷ rows) (flag ∷ flags) zero lt clear = ap₂ (λ b l. record { row = row; marked = b } ∷ l) clear (flags-none rows)
flag-clear (row ∷ rows) (flag ∷ flags) (suc place) lt clear = ap (λ l. record { row = row; marked = flag } ∷ l) (flag-clear rows flags place (omega (arith, lt)) clear)

module _ (rows : List Row) (flags : List Bool) (place : ℕ) (lt : place < length flags) where
  next : with_flags rows (take (place + 1) flags) ≡ marks_to rows flags (suc place)
  next = ap (marks_to rows flags) {x = place + 1} {y = suc place} (omega arith)

  pub marked-next : get_or flags place false ≡ true → with_flags rows (take (place + 1) flags) ≡ with_mark place (with_flags rows (take place flags))
  marked-next set = next ∙ flag-set rows flags place lt set

  pub passed-next : get_or flags place false ≡ false → with_flags rows (take (place + 1) flags) ≡ with_flags rows (take place flags)
  passed-next clear = next ∙ flag-clear rows flags place lt clear

-- and of rows that stand behind others
module _ (front : List MarkedRow) (rows : List Row) (flags : List Bool) (held place : ℕ) (is : length front ≡ held) (lt : place < length flags) where
  abbrev pub marked_to : ℕ → List MarkedRow
  marked_to n = front ++ with_flags rows (take n flags)

  pub marked-behind : get_or flags place false ≡ true → with_mark (held + place) (marked_to place) ≡ marked_to (place + 1)
  marked-behind set =
      ap (λ (n : ℕ). with_mark (n + place) (marked_to place)) (sym is) ∙ mark-behind front (with_flags rows (take place flags)) place
      ∙ ap (λ l. front ++ l) (sym (marked-next rows flags place lt set))

  pub passed-behind : get_or flags place false ≡ false → marked_to place ≡ marked_to (place + 1)
  passed-behind clear = ap (λ l. front ++ l) (sym (passed-next rows flags place lt clear))

-- no row more or less
pub length-flags_behind : (held : ℕ) (flags : List Bool) (stored : List MarkedRow) → length (with_flags_behind held flags stored) ≡ length stored
length-flags_behind held flags stored =
    omega (
      arith,
      length-append (take held stored) (with_flags (rows_of (drop held stored)) flags),
      length-flags (rows_of (drop held stored)) flags,
      length-rows_of (drop held stored),
      ap length (take-append-drop held stored),
      length-append (take held stored) (drop held stored),
    )

-- a store of these rows, some of which had marks before
module _ (held tail stored : List MarkedRow) (rows : List Row) (is : stored ≡ held ++ unmarked (rows_of tail ++ rows)) where
  abbrev all : List Row
  all = rows_of tail ++ rows

  behind_held : drop (length held) stored ≡ unmarked all
  behind_held = ap (drop (length held)) is ∙ drop-append-le (length held) held (unmarked all) (omega arith) ∙ ap (λ l. l ++ unmarked all) (drop-length held)

  pub none_behind : NoneMarked (drop (length held) stored)
  none_behind = behind_held ∙ ap unmarked (sym (rows_of-unmarked all)) ∙ ap (λ l. unmarked (rows_of l)) (sym behind_held)

  module _ (own : List Row) (flags : List Bool) (with : with_flags own flags ≡ tail) (long : length flags ≡ length tail) where
    own_is : rows_of tail ≡ own
    own_is = ap rows_of (sym with) ∙ rows_of-flags own flags

    count : length flags ≡ length own
    count = omega (arith, long, ap length with, length-flags own flags)

    pub flags_within : length held + length flags ≤ length stored
    flags_within =
        omega (
          arith,
          count,
          ap length is,
          length-append held (unmarked all),
          length-map {B = MarkedRow} all (λ (row : Row). record { row = row; marked = false }),
          length-append (rows_of tail) rows,
          ap length own_is,
        )

    -- they have them again
    pub marks_kept : with_flags_behind (length held) flags stored ≡ (held ++ tail) ++ unmarked rows
    marks_kept =
        ap₂ (λ a b. a ++ with_flags b flags) (ap (take (length held)) is ∙ take-append_seam held (unmarked all)) (ap rows_of behind_held ∙ rows_of-unmarked all)
        ∙ ap (λ l. held ++ with_flags (l ++ rows) flags) own_is
        ∙ ap (λ l. held ++ l) (flags-front own rows flags (omega (arith, count)) ∙ ap (λ l. l ++ unmarked rows) with)
        ∙ sym (append_assoc held tail (unmarked rows))

-- the rows of pieces without a mark, and of others behind them
pub stored_as : (held made : List MarkedRow) (behind rows : List Row) → NoneMarked made → rows_of made ++ behind ≡ rows → (held ++ made) ++ unmarked behind ≡ held ++ unmarked rows
stored_as held made behind rows none are =
    append_assoc held made (unmarked behind)
    ∙ ap (λ l. held ++ l) (ap (λ l. l ++ unmarked behind) none ∙ sym (unmarked-append (rows_of made) behind) ∙ ap unmarked are)

-- and how many they are
pub stored_count : (held made tail : List MarkedRow) (behind rows : List Row) → rows_of made ++ behind ≡ rows_of tail ++ rows → length held + length made + length behind ≡ length (held ++ tail) + length rows
stored_count held made tail behind rows are =
    omega (
      arith,
      ap length are,
      length-append (rows_of made) behind,
      length-rows_of made,
      length-append (rows_of tail) rows,
      length-rows_of tail,
      length-append held tail,
    )
