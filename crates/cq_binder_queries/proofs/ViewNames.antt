-- The names of a view's columns.
use Rattle.std.proofs.Common.{◌≡◌, ℕ, ◌+◌, Bool, true, false, List, [], ◌∷◌, ◌++◌, map, Option, None, refl, sym, ap, ◌∙◌}
use Rattle.std.specs.Prelude.{◌||◌, unwrap_or}
use Rattle.std.specs.List.{list_any}
use Rattle.std.proofs.lemmas.List.{map-append}
use Rattle.cq_values.specs.Texts.{is_text}
use Rattle.cq_values.specs.declared.column.ColumnDef.{ColumnDef}
use Rattle.cq_sql_language.specs.declared.statement.SelectItem.{SelectItem}
use Rattle.cq_binder_rules.specs.declared.fault.Fault.{Fault}
use Rattle.cq_binder_rules.specs.declared.fault.Fault.TheVariants.{NameTaken}
use Rattle.cq_binder_rules.specs.Headers.{header, shown_name}
use Rattle.cq_binder_rules.specs.Bound.{item_columns}
use Rattle.cq_binder_rules.specs.Typing.{Scope}
use Rattle.cq_binder_rules.specs.Checks.{first_fault, fault_if, MayRefuse}
use Rattle.cq_binder_rules.specs.ViewChecks.{repeats}
use Rattle.cq_binder_rules.specs.Refusal.{column_checks}
use Rattle.cq_binder_queries.proofs.Faults.{first_fault_cons, or_next, refused_first, refused_next, refused_same}

-- what columns are called
abbrev pub names_of : List ColumnDef → List (List ℕ)
names_of columns = map (λ c. c.name) columns

-- a name stands among columns where it stands among their names
taken_same : (before : List ColumnDef) (name : List ℕ) → list_any (λ c. is_text c.name name) before ≡ list_any (λ b. is_text b name) (names_of before)
taken_same [] name = refl
taken_same (b ∷ before) name = ap (λ (t : Bool). is_text b.name name || t) (taken_same before name)

-- one place more, that refuses or not
fault_or : (a b : Bool) (rest : List (Option Fault)) → first_fault rest ≡ fault_if b NameTaken → first_fault (fault_if a NameTaken ∷ rest) ≡ fault_if (a || b) NameTaken
fault_or true b rest same = refl
fault_or false b rest same = same

-- columns are walked through as their names are
pub names_walked : (before columns : List ColumnDef) → first_fault (column_checks before columns) ≡ fault_if (repeats (names_of before) (names_of columns)) NameTaken
names_walked before [] = refl
names_walked before (c ∷ columns) =
    let behind = ap (λ (ns : List (List ℕ)). fault_if (repeats ns (names_of columns)) NameTaken) (map-append (λ d. d.name) before (c ∷ [])) in
    ap (λ (t : Bool). first_fault (fault_if t NameTaken ∷ column_checks (before ++ c ∷ []) columns)) (taken_same before c.name)
    ∙ fault_or (list_any (λ b. is_text b c.name) (names_of before)) (repeats (names_of before ++ c.name ∷ []) (names_of columns)) (column_checks (before ++ c ∷ []) columns) (names_walked (before ++ c ∷ []) columns ∙ behind)

-- the columns of items are called as the items are
names_kept : (table : Scope) (place : ℕ) (items : List SelectItem) → names_of (item_columns table place items) ≡ header place items
names_kept table place [] = refl
names_kept table place (item ∷ items) = ap (λ (ns : List (List ℕ)). unwrap_or item.alias (shown_name place item.value) ∷ ns) (names_kept table (place + 1) items)

-- ---- The columns of the items: their names decide, and then what stands behind them
module _ (table : Scope) (items : List SelectItem) (rest : List (Option Fault)) (columns : List ColumnDef) (named : columns ≡ item_columns table 1 items) where
  abbrev repeated : Option Fault
  repeated = fault_if (repeats [] (header 1 items)) NameTaken

  -- the columns are walked through as the names
  same_walk : first_fault (column_checks [] columns) ≡ repeated
  same_walk =
      ap (λ (cs : List ColumnDef). first_fault (column_checks [] cs)) named ∙ names_walked [] (item_columns table 1 items)
      ∙ ap (λ (ns : List (List ℕ)). fault_if (repeats [] ns) NameTaken) (names_kept table 1 items)

  -- a name refuses
  pub name_refused : (f : Fault) → MayRefuse (first_fault (column_checks [] columns)) f → MayRefuse (first_fault (repeated ∷ rest)) f
  name_refused f m = rw first_fault_cons (refused_first repeated (first_fault rest) f (refused_same (first_fault (column_checks [] columns)) repeated f (sym same_walk) m))

  -- what stands behind them refuses
  pub rest_refused : (f : Fault) → first_fault (column_checks [] columns) ≡ None → MayRefuse (first_fault rest) f → MayRefuse (first_fault (repeated ∷ rest)) f
  rest_refused f distinct m = rw first_fault_cons (refused_next repeated (first_fault rest) f (sym same_walk ∙ distinct) m)

  -- nothing refuses
  pub names_pass : first_fault (column_checks [] columns) ≡ None → first_fault rest ≡ None → first_fault (repeated ∷ rest) ≡ None
  names_pass distinct free = first_fault_cons repeated rest ∙ or_next repeated (first_fault rest) (sym same_walk ∙ distinct) ∙ free
