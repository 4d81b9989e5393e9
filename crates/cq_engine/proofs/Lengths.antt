-- The lengths of what tables store: those of the table of a name, and those behind a step.
use Rattle.std.proofs.Common.{◌≡◌, ℕ, ◌<◌, false, List, length, get_or, Option, Some, None, Result, Ok, Err, refl, sym, ap, ◌∙◌, subst}
use Rattle.std.specs.Prelude.{is_some, option_map, slice_get}
use Rattle.std.proofs.lemmas.Option.{slice_get-map, slice_get_read}
use Rattle.cq_binder_rules.specs.Bound.{bound}
use Rattle.cq_binder_rules.specs.Records.{Files}
use Rattle.cq_binder_rules.specs.Sources.{AreTold}
use Rattle.cq_binder_rules.specs.declared.bound.Bound.{Bound}
use Rattle.cq_binder_rules.specs.declared.fault.Fault.{Fault}
use Rattle.cq_model_step.specs.declared.answer.Answer.{Answer}
use Rattle.cq_model_state.specs.State.{AreNumbered, TableOf, table_named}
use Rattle.cq_sql_language.specs.declared.statement.Statement.{Statement}
use Rattle.cq_engine_tables.specs.HeldTables.{HeldTable, Lengths, LengthsStay, lengths_in, lengths_of, tables_of}
use Rattle.cq_engine_tables.proofs.HeldTables.{lengths_there}
use Rattle.cq_engine.specs.Held.{Held, StoresBy, StoresFrom}

-- ---- The table of a name
-- where there is none, nothing is told of it
pub absent-mapped : {X Y : Type 0} (f : X → Y) (o : Option X) → is_some o ≡ false → option_map f o ≡ None
absent-mapped f (Some x) none = absurd (cc none)
absent-mapped f None none = refl

module _ (ts : List HeldTable) where
  -- the table that is read at the place of a name is that of the name
  pub table-found : (name : List ℕ) (place : ℕ) (t : HeldTable) → place < length ts → t ≡ get_or ts place t → slice_get (tables_of ts) place ≡ table_named name (tables_of ts) → table_named name (tables_of ts) ≡ Some t.is
  table-found name place t h is found = sym found ∙ slice_get-map (λ (u : HeldTable). u.is) ts place ∙ ap (option_map (λ (u : HeldTable). u.is)) (slice_get_read ts (length ts) place t refl h is)

  -- the lengths of the number of a table
  abbrev pub told : TableOf → ℕ × ℕ
  told t = ((lengths_in ts t.number).write_len, (lengths_in ts t.number).marked_len)

  -- and the lengths of the table that is read there are those of the name
  pub lengths-found : (name : List ℕ) (place next : ℕ) (t : HeldTable) → AreNumbered (tables_of ts) next → place < length ts → t ≡ get_or ts place t → slice_get (tables_of ts) place ≡ table_named name (tables_of ts)
      → option_map told (table_named name (tables_of ts)) ≡ Some ((lengths_of t).write_len, (lengths_of t).marked_len)
  lengths-found name place next t numbered h is found =
      let own : lengths_in ts t.is.number ≡ lengths_of t = subst (λ (u : HeldTable). lengths_in ts u.is.number ≡ lengths_of u) (sym is) (lengths_there ts place t next numbered h) in
      ap (option_map told) (table-found name place t h is found) ∙ ap (λ (l : Lengths). Some (l.write_len, l.marked_len)) own

-- ---- Behind a step
-- the same tables have the same lengths
pub same-lengths : (old new : List HeldTable) → new ≡ old → LengthsStay old new
same-lengths old new same n = ap (λ (ts : List HeldTable). lengths_in ts n) same

-- what a command did, a statement did that was bound to it
pub stores-bound : (told : Option Files) (files : Files) (old new : Held) (statement : Statement) (command : Bound) (result : Result Answer Fault) → AreTold told files → bound files old.state statement ≡ Some command → StoresBy old command result new
    → StoresFrom told old statement result new
stores-bound told files old new statement command (Ok answer) are is stores = (files, are, command, is, stores)
stores-bound told files old new statement command (Err f) are is stores = stores
