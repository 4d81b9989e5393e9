-- Live rows of a front, by their places among all that stand there.
use Rattle.std.proofs.Common.{◌≡◌, ◌∙◌, ℕ, List, length, sym, ap, ap₂, subst}
use Rattle.cq_values.specs.Value.{Row}
use Rattle.cq_segments_pieces.specs.Marked.{MarkedRow, live, live_from, rows_of, unmarked}
use Rattle.cq_encodings_vectors.specs.Places.{AreBelow, places_at, rows_at}
use Rattle.cq_segments_pieces.proofs.Marks.{length-live_from, rows_of-unmarked}
use Rattle.cq_table_columns.proofs.LiveRows.{places_there, rows_there}
use Rattle.cq_table_columns.specs.Stored.{StandAt, front_rows, marked_rows}
use Rattle.cq_table_columns.specs.declared.front.Front.{Front}

-- where no row has a mark, rows stand at their own places
pub unmarked_stand : (front : Front) (rows : List Row) → marked_rows front ≡ unmarked rows → front_rows front ≡ rows → (live_places places : List ℕ) → places ≡ live_places → StandAt front live_places places
unmarked_stand front rows all live_are live_places places same =
    ap₂ rows_at (ap rows_of all ∙ rows_of-unmarked rows ∙ sym live_are) same

-- where some have one, the places of live rows are found by a list of all of these
module _ (front : Front) (stored : List MarkedRow) (all : marked_rows front ≡ stored) (live_are : front_rows front ≡ live stored)
    (live_places : List ℕ) (below : AreBelow (length (front_rows front)) live_places) (listed : List ℕ) (lists : listed ≡ live_from 0 stored) where
  -- it has each of them
  pub listed_long : AreBelow (length listed) live_places
  listed_long = subst (λ n. AreBelow n live_places) (ap length live_are ∙ sym (length-live_from 0 stored) ∙ sym (ap length lists)) below

  below_live : AreBelow (length (live stored)) live_places
  below_live = subst (λ n. AreBelow n live_places) (ap length live_are) below

  -- the rows stand at what it has there
  pub listed_stand : (places : List ℕ) → places ≡ places_at listed live_places → StandAt front live_places places
  listed_stand places found =
      ap₂ (λ ms l. rows_at (rows_of ms) l) all (found ∙ ap (λ l. places_at l live_places) lists)
      ∙ rows_there stored live_places below_live ∙ ap (λ rows. rows_at rows live_places) (sym live_are)

  pub listed_below : (places : List ℕ) → places ≡ places_at listed live_places → AreBelow (length (marked_rows front)) places
  listed_below places found =
      subst (AreBelow (length (marked_rows front))) (sym (found ∙ ap (λ l. places_at l live_places) lists))
      (subst (λ ms. AreBelow (length ms) (places_at (live_from 0 stored) live_places)) (sym all) (places_there stored live_places below_live))
