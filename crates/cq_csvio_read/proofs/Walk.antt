-- A list that is made entry by entry, up to the first entry that is refused.
use Rattle.std.proofs.Common.{◌≡◌, ◌∙◌, ◌++◌, ◌∷◌, [], ℕ, suc, zero, ◌+◌, List, Some, None, drop, refl, sym, ap, append_assoc, Result, Ok, Err, length, length-append, get_or, ◌<◌, eq-eqb, arith}
use Rattle.std.proofs.lemmas.List.{at_drop_more}
use Rattle.csv.specs.Records.{field_at}
use Rattle.cq_binder_rules.specs.declared.fault.Fault.{Fault}
use Rattle.cq_binder_rules.specs.declared.fault.Fault.TheVariants as faults
use Rattle.cq_binder_rules.specs.Fields.{field_value}
use Rattle.cq_binder_rules.specs.Kinds.{◌and_then◌}
use Rattle.cq_binder_rules.specs.Records.{field_values, record_row, record_rows}
use Rattle.cq_values.specs.Value.{Row}
use Rattle.cq_values.specs.declared.column.ColumnDef.{ColumnDef}
use Rattle.cq_values.specs.declared.value.Value.{Value}
use Rattle.cq_csvio_read.specs.Reading.{Gives}

-- these entries, and behind them those that are still to come
abbrev pub behind : {A : Type 0} → List A → Result (List A) Fault → Result (List A) Fault
behind xs rest = rest and_then (λ more. Ok (xs ++ more))

-- one entry, and behind it those that are still to come
abbrev pub before : {A : Type 0} → Result A Fault → Result (List A) Fault → Result (List A) Fault
before first rest = first and_then (λ x. rest and_then (λ more. Ok (x ∷ more)))

-- an entry that is given stands behind the others
pub given : {A : Type 0} (whole : Result (List A) Fault) (xs : List A) (x : A) (first : Result A Fault) (rest : Result (List A) Fault)
    → whole ≡ behind xs (before first rest) → first ≡ Ok x → whole ≡ behind (xs ++ x ∷ []) rest
given whole xs x first (Ok more) stands is = stands ∙ rw (is, append_assoc xs (x ∷ []) more) refl
given whole xs x first (Err f) stands is = stands ∙ rw is refl

-- what is given is that result, if it is given at all
pub gives : {A : Type 0} (wanted result : Result A Fault) → wanted ≡ result → Gives wanted result
gives wanted (Ok x) is = is
gives wanted (Err faults.Memory) is = tt
gives wanted (Err f) is = is

-- a refusal of a part refuses the whole
pub refused_along : {A B : Type 0} (part : Result A Fault) (whole : Result B Fault) (f : Fault)
    → (part ≡ Err f → whole ≡ Err f) → Gives part (Err f) → Gives whole (Err f)
refused_along part whole faults.Memory goes is = tt
refused_along part whole f goes is = goes is

pub refused : {A : Type 0} (whole : Result (List A) Fault) (xs : List A) (first : Result A Fault) (rest : Result (List A) Fault) (f : Fault)
    → whole ≡ behind xs (before first rest) → Gives first (Err f) → Gives whole (Err f)
refused whole xs first rest f stands is = refused_along first whole f (λ e. stands ∙ rw e refl) is

-- the field at a place is the first of those from there on
fields_from : (fields : List (List ℕ)) (i : ℕ) (field : List ℕ) → field_at fields i ≡ Some field → drop i fields ≡ field ∷ drop (i + 1) fields
unfolding field_at
fields_from [] i field e = absurd (cc e)
fields_from (f ∷ fields) zero field e = cc e
fields_from (f ∷ fields) (suc i) field e =
    let next : suc i + 1 ≡ suc (i + 1) = omega arith in
    rw next (fields_from fields i field e)

-- there is a field at each place below their number
pub field_missing : (fields : List (List ℕ)) (i : ℕ) → i < length fields → field_at fields i ≡ None → ⊥
unfolding field_at
field_missing [] i lt e = omega (arith, lt)
field_missing (f ∷ fields) zero lt e = cc e
field_missing (f ∷ fields) (suc i) lt e = field_missing fields i (omega (arith, lt)) e

-- the values of the fields from a place on are that of the first, and behind it the others
values_more : (at : ℕ) (columns : List ColumnDef) (fields : List (List ℕ)) (i : ℕ) (column : ColumnDef) (field : List ℕ)
    → i < length columns → column ≡ get_or columns i column → field_at fields i ≡ Some field
    → field_values at (drop i columns) (drop i fields) ≡ before (field_value at column field) (field_values at (drop (i + 1) columns) (drop (i + 1) fields))
values_more at columns fields i column field lt is there =
    ap (λ (ts : List (List ℕ)). field_values at (drop i columns) ts) (fields_from fields i field there)
    ∙ at_drop_more (λ (ds : List ColumnDef). field_values at ds (field ∷ drop (i + 1) fields)) columns i column lt
    ∙ ap (λ (d : ColumnDef). before (field_value at d field) (field_values at (drop (i + 1) columns) (drop (i + 1) fields))) (sym is)

-- a record of the right width is its fields
pub of_width : (at : ℕ) (columns : List ColumnDef) (fields : List (List ℕ)) → length fields ≡ length columns → record_row columns at fields ≡ field_values at columns fields
of_width at columns fields same = rw (eq-eqb (length fields) (length columns) same) refl

module _ (at : ℕ) (columns : List ColumnDef) (fields : List (List ℕ)) (i : ℕ) (column : ColumnDef) (field : List ℕ)
    (lt : i < length columns) (is : column ≡ get_or columns i column) (there : field_at fields i ≡ Some field)
    (whole : Result Row Fault) (row : Row) (stands : whole ≡ behind row (field_values at (drop i columns) (drop i fields))) where
  -- a field that is taken
  pub field_given : (value : Value) → field_value at column field ≡ Ok value → whole ≡ behind (row ++ value ∷ []) (field_values at (drop (i + 1) columns) (drop (i + 1) fields))
  field_given value read = given whole row value (field_value at column field) _ (rw (values_more at columns fields i column field lt is there) at stands) read

  -- a field that is refused
  pub field_refused : (f : Fault) → Gives (field_value at column field) (Err f) → Gives whole (Err f)
  field_refused f refusal = refused whole row (field_value at column field) _ f (rw (values_more at columns fields i column field lt is there) at stands) refusal

module _ (columns : List ColumnDef) (at : ℕ) (fields : List (List ℕ)) (left more : List (List (List ℕ))) (first : left ≡ fields ∷ more)
    (whole : Result (List Row) Fault) (rows : List Row) (next : at ≡ length rows + 1)
    (stands : whole ≡ behind rows (record_rows columns (length rows + 1) left)) where
  here : whole ≡ behind rows (before (record_row columns at fields) (record_rows columns (at + 1) more))
  here = rw (first, ← next) at stands

  -- a record that is taken
  pub record_given : (row : Row) (items : List Row) → record_row columns at fields ≡ Ok row → items ≡ rows ++ row ∷ [] → whole ≡ behind items (record_rows columns (length items + 1) more)
  record_given row items read is =
      let size : length items + 1 ≡ at + 1 = rw is (let n = length-append rows (row ∷ []) in omega (arith, n, next)) in
      rw (size, is) (given whole rows row (record_row columns at fields) (record_rows columns (at + 1) more) here read)
