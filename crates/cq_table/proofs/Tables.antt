-- Tables as their rows are stored: what writes, moves and merges leave of them.
use Rattle.std.proofs.Common.{◌≡◌, ℕ, ◌+◌, ◌<◌, ◌≤◌, ◌^◌, Bool, not, List, [], ◌++◌, map, take, drop, length, refl, sym, subst, ap, ap₂, ◌∙◌, arith}
use Rattle.std.specs.Prelude.{Option, filter, min}
use Rattle.std.proofs.Math.Seq.{drop-append_seam}
use Rattle.std.specs.List.{AllByRecursion}
use Rattle.std.proofs.lemmas.List.{append-nil, append_assoc, drop-map, length-append, length-drop, length-take, take_all}
use Rattle.cq_values.specs.Value.{Row}
use Rattle.cq_model.specs.Expr.{Cond}
use Rattle.cq_model.specs.Meaning.{keeps}
use Rattle.cq_model.specs.Write.{chosen, left_by}
use Rattle.cq_model_bags.specs.Canonical.{bag_of}
use Rattle.cq_model_bags.proofs.Canonicals.{length-bag_of}
use Rattle.cq_model_bags.proofs.Lists.{all-append, all-drop, all-front, all-weaker}
use Rattle.cq_model_state.specs.Fitting.{FitsColumns}
use Rattle.cq_segments_pieces.specs.Columns.{AreWide}
use Rattle.cq_segments_pieces.specs.Marked.{MarkedRow, live, marked_count, rows_of, unmarked, with_marks}
use Rattle.cq_segments_pieces.specs.Pieces.{joined}
use Rattle.cq_segments_pieces.proofs.Marks.{count-append, length-live, length-rows_of, live-append, live-unmarked, rows_of-append, rows_of-unmarked}
use Rattle.cq_table.specs.Changes.{AreBuilt, Merges, MergesCounts, Moves, MovesCounts}
use Rattle.cq_table.specs.Checks.{HasRoom}
use Rattle.cq_table.specs.Found.{AreLiveAt, AreThere, IsFound, found_rows}
use Rattle.cq_table.specs.Table.{IsKept, SameRows, StoredTable, live_rows, marked_len, stored_in, table_rows, with_stored, write_len}
use Rattle.cq_table.proofs.Bagged.{bag_of_kept, bag_of_more, length-kept}
use Rattle.cq_table.proofs.Built.{length-built, new-clear, same-built}
use Rattle.cq_table.proofs.Founds.{all-found, found-places, length-places, live-marks, live_there}
use Rattle.cq_table.proofs.Marking.{all_live-with_marks, live_fewer, rows_of-marks, with_marks-front}
use Rattle.cq_table.proofs.Moved.{bag-merged, bag-moved}
use Rattle.cq_table.proofs.RowLists.{all_of_bag, all_of_rows, drop-least, take-least}
use Rattle.cq_table.proofs.Segmenting.{joined-append, same-long}
use Rattle.cq_table.proofs.Widths.{fitting_wide}

-- what holds of all rows holds of the same rows in another order
all-same : (P : Row → Type 0) (xs ys : List Row) → bag_of ys ≡ bag_of xs → AllByRecursion P xs → AllByRecursion P ys
all-same P xs ys same all = all_of_rows P ys (subst (AllByRecursion P) (sym same) (all_of_bag P xs all))

-- there are as many
long-same : (xs ys : List Row) → bag_of ys ≡ bag_of xs → length ys ≡ length xs
long-same xs ys same = sym (length-bag_of ys) ∙ ap length same ∙ length-bag_of xs

-- what stands behind lists of one length
same-behind : (xs us ys vs : List Row) → length xs ≡ length us → xs ++ ys ≡ us ++ vs → ys ≡ vs
same-behind xs us ys vs same is = sym (drop-append_seam xs ys) ∙ ap (drop (length xs)) is ∙ ap (λ (n : ℕ). drop n (us ++ vs)) same ∙ drop-append_seam us vs

-- ---- Rows that are found
-- what holds of the rows of a table holds of those at places of live rows
pub all-rows_found : (P : Row → Type 0) (t : StoredTable) (places : List ℕ) → AreLiveAt places (stored_in t) → AllByRecursion P (table_rows t) → AllByRecursion P (found_rows (stored_in t) places)
all-rows_found P t places are all = all-found P places (stored_in t) are (all_of_rows P (live_rows t) all)

module _ (t : StoredTable) (condition : Option Cond) (places : List ℕ) (found : IsFound condition t places) where
  -- the rows at the places are those that WHERE keeps
  pub picks : SameRows (found_rows (stored_in t) places) (chosen condition (table_rows t))
  picks =
      ap bag_of (ap (found_rows (stored_in t)) found ∙ found-places (keeps condition) (stored_in t))
      ∙ bag_of_kept (keeps condition) (live_rows t)

  -- and as many
  pub found-count : length places ≡ length (chosen condition (table_rows t))
  found-count = ap length found ∙ length-places (keeps condition) 0 (stored_in t) ∙ length-kept (keeps condition) (live_rows t)

  -- marks there leave the others
  left-live : live (with_marks places (stored_in t)) ≡ left_by condition (live_rows t)
  left-live = ap (λ (ps : List ℕ). live (with_marks ps (stored_in t))) found ∙ live-marks (keeps condition) (stored_in t)

  -- with others behind them
  pub leaves : (stored : List MarkedRow) (rows : List Row) → stored ≡ with_marks places (stored_in t) ++ unmarked rows → bag_of (live stored) ≡ bag_of (left_by condition (table_rows t) ++ rows)
  leaves stored rows is =
      let stay : Row → Bool = λ row. not (keeps condition row) in
      ap bag_of (ap live is ∙ live-append (with_marks places (stored_in t)) (unmarked rows) ∙ ap₂ (λ (xs ys : List Row). xs ++ ys) left-live (live-unmarked rows))
      ∙ bag_of_more (filter stay (live_rows t)) rows
      ∙ ap (λ (rs : List Row). bag_of (rs ++ rows)) (bag_of_kept stay (live_rows t))
      ∙ sym (bag_of_more (filter stay (table_rows t)) rows)

-- ---- Tables that are changed
-- the rows of the write store, with or without marks, and others that fit the columns have a value for each
pub wide-with : (t : StoredTable) (count : ℕ) → IsKept t count → (rows : List Row) → AllByRecursion (FitsColumns t.columns) rows → AreWide (length t.columns) (rows_of t.written ++ rows)
wide-with t count kept rows fitting = all-append (λ row. length row ≡ length t.columns) (rows_of t.written) rows kept.wide (fitting_wide t.columns rows fitting)

module _ (t : StoredTable) (count : ℕ) (kept : IsKept t count) (segments : List (List MarkedRow)) (written : List MarkedRow) where
  -- with the same live rows
  pub kept-same : bag_of (live (joined segments ++ written)) ≡ table_rows t → length (joined segments) < 2 ^ 63 → AreWide (length t.columns) (rows_of written) → IsKept (with_stored segments written t) count
  kept-same same few wide = record {
    sound = record {
      fitting = all-same (FitsColumns t.columns) (live_rows t) (live (joined segments ++ written)) same kept.sound.fitting;
      limited = omega (arith, kept.sound.limited, long-same (live_rows t) (live (joined segments ++ written)) same);
    };
    counted = kept.counted ∙ sym (long-same (live_rows t) (live (joined segments ++ written)) same);
    few = few;
    wide = wide;
  }

  module _ (places : List ℕ) (are : AreLiveAt places (stored_in t)) (rows : List Row) (fitting : AllByRecursion (FitsColumns t.columns) rows)
      (is : joined segments ++ written ≡ with_marks places (stored_in t) ++ unmarked rows) (same : map length segments ≡ map length t.segments) where
    rows_now : live (joined segments ++ written) ≡ live (with_marks places (stored_in t)) ++ rows
    rows_now = ap live is ∙ live-append (with_marks places (stored_in t)) (unmarked rows) ∙ ap (λ (rs : List Row). live (with_marks places (stored_in t)) ++ rs) (live-unmarked rows)

    long_now : length (live (joined segments ++ written)) + length places ≡ length (live_rows t) + length rows
    long_now = omega (arith, ap length rows_now, length-append (live (with_marks places (stored_in t))) rows, live_fewer places (stored_in t) are)

    -- behind the rows that the write store had, with a mark or without, stand the others
    written_now : rows_of written ≡ rows_of t.written ++ rows
    written_now =
        let all : rows_of (joined segments) ++ rows_of written ≡ rows_of (joined t.segments) ++ (rows_of t.written ++ rows) =
        sym (rows_of-append (joined segments) written) ∙ ap rows_of is ∙ rows_of-append (with_marks places (stored_in t)) (unmarked rows)
        ∙ ap₂ (λ (xs ys : List Row). xs ++ ys) (rows_of-marks places (stored_in t) ∙ rows_of-append (joined t.segments) t.written) (rows_of-unmarked rows)
        ∙ append_assoc (rows_of (joined t.segments)) (rows_of t.written) rows in
        same-behind (rows_of (joined segments)) (rows_of (joined t.segments)) (rows_of written) (rows_of t.written ++ rows)
        (length-rows_of (joined segments) ∙ same-long segments t.segments same ∙ sym (length-rows_of (joined t.segments))) all

    -- with marks, and no more rows than these were
    pub kept-exchanged : (left : ℕ) → left + length places ≡ count + length rows → length rows ≤ length places → IsKept (with_stored segments written t) left
    kept-exchanged left is_left fewer = record {
      sound = record {
        fitting = subst (AllByRecursion (FitsColumns t.columns)) (sym rows_now) (all-append (FitsColumns t.columns) (live (with_marks places (stored_in t))) rows (all_live-with_marks (FitsColumns t.columns) places (stored_in t) kept.sound.fitting) fitting);
        limited = omega (arith, kept.sound.limited, long_now, fewer);
      };
      counted = omega (arith, kept.counted, is_left, long_now);
      few = omega (arith, kept.few, same-long segments t.segments same);
      wide = subst (AreWide (length t.columns)) (sym written_now) (wide-with t count kept rows fitting);
    }

module _ (t : StoredTable) (count : ℕ) (kept : IsKept t count) (rows : List Row) where
  -- the live rows, with those that were put behind them
  rows_more : live (joined t.segments ++ (t.written ++ unmarked rows)) ≡ live_rows t ++ rows
  rows_more =
      ap live (sym (append_assoc (joined t.segments) t.written (unmarked rows))) ∙ live-append (stored_in t) (unmarked rows) ∙ ap (λ (rs : List Row). live_rows t ++ rs) (live-unmarked rows)

  pub bag-more : bag_of (live (joined t.segments ++ (t.written ++ unmarked rows))) ≡ bag_of (table_rows t ++ rows)
  bag-more = ap bag_of rows_more ∙ bag_of_more (live_rows t) rows

  pub kept-more : AllByRecursion (FitsColumns t.columns) rows → HasRoom t (length rows) → IsKept (with_stored t.segments (t.written ++ unmarked rows) t) (count + length rows)
  kept-more fitting room = record {
    sound = record {
      fitting = subst (AllByRecursion (FitsColumns t.columns)) (sym rows_more) (all-append (FitsColumns t.columns) (live_rows t) rows kept.sound.fitting fitting);
      limited = omega (arith, room, ap length rows_more, length-append (live_rows t) rows, length-bag_of (live_rows t));
    };
    counted = omega (arith, kept.counted, ap length rows_more, length-append (live_rows t) rows);
    few = kept.few;
    wide = subst (AreWide (length t.columns)) (sym (rows_of-append t.written (unmarked rows) ∙ ap (λ (rs : List Row). rows_of t.written ++ rs) (rows_of-unmarked rows)))
        (wide-with t count kept rows fitting);
  }

module _ (t : StoredTable) (places : List ℕ) (are : AreLiveAt places (stored_in t)) (rows : List Row) (written : List MarkedRow) (appended : written ≡ t.written ++ unmarked rows) where
  -- with rows behind those of the write store, its rows are all rows with these behind them
  all_with : joined t.segments ++ written ≡ stored_in t ++ unmarked rows
  all_with = ap (λ (rs : List MarkedRow). joined t.segments ++ rs) appended ∙ sym (append_assoc (joined t.segments) t.written (unmarked rows))

  -- places of live rows are still there
  pub still_there : AreThere places (joined t.segments ++ written)
  still_there =
      let le : length (stored_in t) ≤ length (joined t.segments ++ written) = omega (arith, ap length all_with, length-append (stored_in t) (unmarked rows)) in
      all-weaker (λ p. p < length (stored_in t)) (λ p. p < length (joined t.segments ++ written)) (λ p lt. omega (arith, lt, le)) places (live_there places (stored_in t) are)

  -- and marks there leave the others as they were
  pub marks_with : with_marks places (joined t.segments ++ written) ≡ with_marks places (stored_in t) ++ unmarked rows
  marks_with = ap (with_marks places) all_with ∙ with_marks-front places (stored_in t) (unmarked rows) (live_there places (stored_in t) are)

-- ---- Rows that are moved
module _ (t : StoredTable) (fitting : AllByRecursion (FitsColumns t.columns) (live_rows t)) where
  -- the live rows of the segments have a value for each column
  pub wide-segments : AreWide (length t.columns) (live (joined t.segments))
  wide-segments =
      fitting_wide t.columns (live (joined t.segments))
      (all-front (FitsColumns t.columns) (live (joined t.segments)) (live t.written) (subst (AllByRecursion (FitsColumns t.columns)) (live-append (joined t.segments) t.written) fitting))

-- the segments that are built of the live ones of its first rows stand behind the others, and these rows are gone
pub moved : (t : StoredTable) (count n : ℕ) → n ≡ min (length t.written) count → (made : List (List MarkedRow)) → AreBuilt t.sort (live (take n t.written)) made
    → (segments : List (List MarkedRow)) → segments ≡ t.segments ++ made → (written : List MarkedRow) → written ≡ drop n t.written → Moves count t (with_stored segments written t)
moved t count n least made built segments behind written left =
    rw (behind, left ∙ drop-least count t.written n least) record {
      made = made;
      is = refl;
      built = subst (λ (rs : List MarkedRow). AreBuilt t.sort (live rs) made) (take-least count t.written n least) built;
    }

-- what a move leaves as it was
module _ (count : ℕ) (old new : StoredTable) (moves : Moves count old new) where
  abbrev gone : List Row
  gone = live (take count old.written)

  all : joined (old.segments ++ moves.made) ≡ joined old.segments ++ joined moves.made
  all = joined-append old.segments moves.made

  pub moves-bag : table_rows new ≡ table_rows old
  moves-bag =
      ap table_rows moves.is ∙ ap (λ (rs : List MarkedRow). bag_of (live (rs ++ drop count old.written))) all
      ∙ bag-moved (joined old.segments) (joined moves.made) old.written count (same-built old.sort gone moves.made moves.built)

  pub moves-counts : MovesCounts count old new
  moves-counts = record {
    write_len = ap write_len moves.is ∙ length-drop count old.written;
    marked_len = ap marked_len moves.is ∙ omega (arith, ap marked_count all, count-append (joined old.segments) (joined moves.made), new-clear old.sort gone moves.made moves.built);
  }

  pub moves-kept : (many n : ℕ) → IsKept old many → n ≡ min (length old.written) count → length (joined old.segments) + n < 2 ^ 63 → IsKept new many
  moves-kept many n kept least few =
      let fits : length (joined (old.segments ++ moves.made)) < 2 ^ 63 =
      omega (
        arith,
        few,
        least,
        ap length all,
        length-append (joined old.segments) (joined moves.made),
        length-built old.sort gone moves.made moves.built,
        length-live (take count old.written),
        length-take count old.written,
      ) in
      let wide = subst (AreWide (length old.columns)) (drop-map (λ (m : MarkedRow). m.row) count old.written) (all-drop (λ row. length row ≡ length old.columns) count (rows_of old.written) kept.wide) in
      subst (λ (t : StoredTable). IsKept t many) (sym moves.is)
      (kept-same old many kept (old.segments ++ moves.made) (drop count old.written) (sym (ap table_rows moves.is) ∙ moves-bag) fits wide)

-- a source that has segments and no other rows
pub alone : (segments lent : List (List MarkedRow)) (stored written : List MarkedRow) → stored ≡ joined lent ++ written → lent ≡ segments → written ≡ [] → stored ≡ joined segments
alone segments lent stored written is same none = is ∙ ap₂ (λ (ls : List (List MarkedRow)) (rs : List MarkedRow). joined ls ++ rs) same none ∙ append-nil (joined segments)

-- its first rows, as many as there are, are all
pub whole : (segments : List (List MarkedRow)) (n : ℕ) → n ≡ length (joined segments) → (stored : List MarkedRow) → stored ≡ joined segments → live (take n stored) ≡ live (joined segments)
whole segments n many stored is = ap (λ (rs : List MarkedRow). live (take n rs)) is ∙ ap live (take_all n (joined segments) (omega (arith, many)))

-- the segments that are built of all of these stand in their place
pub merged : (t : StoredTable) (made : List (List MarkedRow)) (n : ℕ) → n ≡ length (joined t.segments) → (stored : List MarkedRow) → stored ≡ joined t.segments → AreBuilt t.sort (live (take n stored)) made
    → Merges t (with_stored made t.written t)
merged t made n many stored is built = record { is = refl; built = subst (λ (rs : List Row). AreBuilt t.sort rs made) (whole t.segments n many stored is) built }

-- what a merge leaves as it was
module _ (old new : StoredTable) (merges : Merges old new) where
  pub merges-bag : table_rows new ≡ table_rows old
  merges-bag = ap table_rows merges.is ∙ bag-merged (joined old.segments) (joined new.segments) old.written (same-built old.sort (live (joined old.segments)) new.segments merges.built)

  pub merges-counts : MergesCounts old new
  merges-counts = record { write_len = ap write_len merges.is; marked_len = new-clear old.sort (live (joined old.segments)) new.segments merges.built }

  pub merges-kept : (many : ℕ) → IsKept old many → IsKept new many
  merges-kept many kept =
      let few : length (joined new.segments) < 2 ^ 63 =
      omega (arith, kept.few, length-built old.sort (live (joined old.segments)) new.segments merges.built, length-live (joined old.segments)) in
      subst (λ (t : StoredTable). IsKept t many) (sym merges.is) (kept-same old many kept new.segments old.written (sym (ap table_rows merges.is) ∙ merges-bag) few kept.wide)

-- the live rows of the segments, counted
pub count-segments : (t : StoredTable) (count : ℕ) → IsKept t count → count + marked_count t.written ≡ length (live (joined t.segments)) + length t.written
count-segments t count kept =
    omega (arith, kept.counted, ap length (live-append (joined t.segments) t.written), length-append (live (joined t.segments)) (live t.written), length-live t.written)
