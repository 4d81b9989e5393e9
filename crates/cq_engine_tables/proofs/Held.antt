-- Named tables whose stored rows were changed.
use Rattle.std.proofs.Common.{◌≡◌, ℕ, ◌+◌, false, List, [], ◌++◌, length, map, refl, ap, ◌∙◌, arith}
use Rattle.std.specs.Prelude.{IfOk, OnErr, OnOk, Option, Result, Ok, Err}
use Rattle.std.proofs.lemmas.List.{length-append, length-map}
use Rattle.cq_model_bags.specs.Canonical.{bag_of}
use Rattle.cq_model_state.specs.State.{TableOf, holding}
use Rattle.cq_segments_pieces.specs.Marked.{MarkedRow, unmarked}
use Rattle.cq_values.specs.Value.{Row}
use Rattle.cq_model.specs.Expr.{Cond}
use Rattle.cq_model.specs.Write.{chosen, left_by}
use Rattle.cq_table.specs.Changes.{Exchanges, LeavesFound, Merges, MergesCounts, Moves, MovesCounts, with_written}
use Rattle.cq_table.specs.Found.{AreLiveAt, AreThere, IsFound, PicksChosen}
use Rattle.cq_table.specs.Table.{stored_in, StoredTable, limited_to, marked_len, table_rows, with_stored, write_len}
use Rattle.cq_engine_tables.specs.Chosen.{IsChosen, LeavesChosen}
use Rattle.cq_engine_tables.specs.HeldTables.{ExchangeBy, GrowBy, HeldTable, MarkIn, MergeTo, MoveBy, held, lengths_of}
use Rattle.cq_engine_tables.specs.Tables.{named}

-- no rows are the empty bag
pub none-held : bag_of [] ≡ []
unfolding bag_of
none-held = refl

-- what was found among the stored rows are the rows that WHERE keeps
pub chosen-found : {E : Type 0} (number : ℕ) (name : List ℕ) (t : StoredTable) (condition : Option Cond) (result : Result (List ℕ) E) → IfOk result (IsFound condition t) → IfOk result (λ places. AreLiveAt places (stored_in t))
    → IfOk result (λ places. AreThere places (stored_in t)) → IfOk result (PicksChosen condition t) → IfOk result (λ places. length places ≡ length (chosen condition (table_rows t))) → IfOk result (IsChosen condition (held number name t))
chosen-found number name t condition (Ok places) found live there picks count = record { found = found; live = live; there = there; picks = picks; count = count }
chosen-found number name t condition (Err e) found live there picks count = tt

-- the table that is held has these columns and these rows
module _ (t : StoredTable) (h : HeldTable) (is : held h.is.number h.is.name t ≡ h) where
  pub columns-held : t.columns ≡ h.is.columns
  columns-held = ap (λ (x : HeldTable). x.is.columns) is

  pub rows-held : table_rows t ≡ h.is.rows
  rows-held = ap (λ (x : HeldTable). x.is.rows) is

module _ (number : ℕ) (name : List ℕ) (old new : StoredTable) where
  -- with other rows and the same columns
  pub named-holding : (rows : List Row) → new ≡ with_stored new.segments new.written old → table_rows new ≡ bag_of rows → named number name new ≡ holding rows (named number name old)
  named-holding rows is bag = λ i. record {
    number = number;
    name = name;
    columns = ap (λ (t : StoredTable). t.columns) is i;
    sort = ap (λ (t : StoredTable). t.sort) is i;
    rows = bag i;
  }

  -- and with the same rows
  named-same : new ≡ with_stored new.segments new.written old → table_rows new ≡ table_rows old → named number name new ≡ named number name old
  named-same is bag = λ i. record {
    number = number;
    name = name;
    columns = ap (λ (t : StoredTable). t.columns) is i;
    sort = ap (λ (t : StoredTable). t.sort) is i;
    rows = bag i;
  }

  -- whatever became of the rows, the columns stay
  columns-stay : (segments : List (List MarkedRow)) (written : List MarkedRow) → new ≡ with_stored segments written old → new ≡ with_stored new.segments new.written old
  columns-stay segments written is = λ i. record {
    columns = ap (λ (t : StoredTable). t.columns) is i;
    sort = ap (λ (t : StoredTable). t.sort) is i;
    max_rows = ap (λ (t : StoredTable). t.max_rows) is i;
    segments = new.segments;
    written = new.written;
  }

  pub named-put : (rows : List Row) (segments : List (List MarkedRow)) (written : List MarkedRow) → new ≡ with_stored segments written old → table_rows new ≡ bag_of rows → named number name new ≡ holding rows (named number name old)
  named-put rows segments written is bag = named-holding rows (columns-stay segments written is) bag

  -- after a move step, whatever its outcome
  pub named-moved : {E : Type 0} (count : ℕ) (result : Result (Unit {0}) E) → OnOk result (Moves count old new) → OnErr result (new ≡ old) → table_rows new ≡ table_rows old → named number name new ≡ named number name old
  named-moved count (Ok x) ok err bag = named-same (columns-stay _ _ ok.is) bag
  named-moved count (Err e) ok err bag = ap (named number name) err

  -- and after a merge step
  pub named-merged : {E : Type 0} (result : Result (Unit {0}) E) → OnOk result (Merges old new) → OnErr result (new ≡ old) → table_rows new ≡ table_rows old → named number name new ≡ named number name old
  named-merged (Ok x) ok err bag = named-same (columns-stay new.segments old.written ok.is) bag
  named-merged (Err e) ok err bag = ap (named number name) err

  -- where rows went from their places and others came
  pub named-exchanged : (places : List ℕ) (rows : List Row) → Exchanges places rows old new → LeavesFound places rows old new → LeavesChosen places rows (held number name old) (held number name new)
  named-exchanged places rows exchanges leaves condition chosen = named-holding (left_by condition (table_rows old) ++ rows) exchanges.is (leaves condition chosen.found)

  pub named-replaced : {E : Type 0} (places : List ℕ) (images : List Row) (result : Result (Unit {0}) E) → OnOk result (Exchanges places images old new) → OnOk result (LeavesFound places images old new)
      → OnOk result (LeavesChosen places images (held number name old) (held number name new))
  named-replaced places images (Ok x) exchanges leaves = named-exchanged places images exchanges leaves
  named-replaced places images (Err e) exchanges leaves = tt

  -- after an INSERT
  pub named-inserted : {E : Type 0} (max_rows : ℕ) (rows : List Row) (result : Result (Unit {0}) E) → OnOk result (new ≡ with_written rows (limited_to max_rows old)) → OnOk result (table_rows new ≡ bag_of (table_rows old ++ rows))
      → OnOk result (named number name new ≡ holding (table_rows old ++ rows) (named number name old))
  named-inserted max_rows rows (Ok x) is bag = λ i. record {
    number = number;
    name = name;
    columns = ap (λ (t : StoredTable). t.columns) is i;
    sort = ap (λ (t : StoredTable). t.sort) is i;
    rows = bag i;
  }
  named-inserted max_rows rows (Err e) is bag = tt

-- ---- Lengths of what is stored
module _ (number : ℕ) (name : List ℕ) (old new : StoredTable) where
  -- after a move step
  pub lengths-moved : {E : Type 0} (count : ℕ) (result : Result (Unit {0}) E) → OnOk result (MovesCounts count old new) → OnOk result (MoveBy count (lengths_of (held number name old)) (lengths_of (held number name new)))
  lengths-moved count (Ok x) moves = record { write_len = moves.write_len; marked_len = moves.marked_len }
  lengths-moved count (Err e) moves = tt

  -- after a merge step
  pub lengths-merged : {E : Type 0} (result : Result (Unit {0}) E) → OnOk result (MergesCounts old new) → OnOk result (MergeTo (lengths_of (held number name old)) (lengths_of (held number name new)))
  lengths-merged (Ok x) merges = record { write_len = merges.write_len; marked_len = merges.marked_len }
  lengths-merged (Err e) merges = tt

  -- after a DELETE
  pub lengths-deleted : (places : List ℕ) → Exchanges places [] old new → MarkIn (lengths_of (held number name old)) (lengths_of (held number name new))
  lengths-deleted places exchanges = record { write_len = omega (arith, exchanges.write_len); segments = exchanges.segments }

  -- after an UPDATE
  pub lengths-replaced : {E : Type 0} (places : List ℕ) (images : List Row) (result : Result (Unit {0}) E) → OnOk result (Exchanges places images old new) → OnOk result (ExchangeBy (length images) (lengths_of (held number name old)) (lengths_of (held number name new)))
  lengths-replaced places images (Ok x) exchanges = record { write_len = exchanges.write_len; segments = exchanges.segments }
  lengths-replaced places images (Err e) exchanges = tt

  -- after an INSERT
  pub lengths-inserted : {E : Type 0} (max_rows : ℕ) (rows : List Row) (result : Result (Unit {0}) E) → OnOk result (new ≡ with_written rows (limited_to max_rows old)) → OnOk result (GrowBy (length rows) (lengths_of (held number name old)) (lengths_of (held number name new)))
  lengths-inserted max_rows rows (Ok x) is = record {
    write_len = ap write_len is ∙ length-append old.written (unmarked rows) ∙ ap (λ (n : ℕ). length old.written + n) (length-map rows (λ (row : Row). record { row = row; marked = false }));
    segments = ap (λ (t : StoredTable). map length t.segments) is;
    marked_len = ap marked_len is;
  }
  lengths-inserted max_rows rows (Err e) is = tt
