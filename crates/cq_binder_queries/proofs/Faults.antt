-- The first fault of a list of places, and refusals that go on from a part to the whole.
use Rattle.std.proofs.Common.{◌≡◌, ℕ, ◌+◌, ◌<◌, Bool, true, false, List, [], ◌∷◌, ◌++◌, map, length, get_or, take, drop, Option, Some, None, refl, sym, ap, ◌∙◌, subst, Result, Ok, Err}
use Rattle.std.proofs.lemmas.List.{take_more, at_drop_more}
use Rattle.std.specs.List.{flat_map, list_any}
use Rattle.std.specs.Option.{option_or}
use Rattle.cq_values.specs.Texts.{is_text}
use Rattle.cq_values.specs.declared.column.ColumnDef.{ColumnDef}
use Rattle.cq_sql_language.specs.declared.statement.Constant.{Constant}
use Rattle.cq_binder_rules.specs.declared.fault.Fault.{Fault}
use Rattle.cq_binder_rules.specs.declared.fault.Fault.TheVariants as faults
use Rattle.cq_binder_rules.specs.Checks.{first_fault, fault_if, MayRefuse}
use Rattle.cq_binder_rules.specs.From.{From}
use Rattle.cq_binder_rules.specs.RowChecks.{row_checks}
use Rattle.cq_binder_rules.specs.Refusal.{column_checks}
use Rattle.cq_binder_rules.specs.Typing.{fault_in}
use Rattle.cq_binder_queries.specs.Walk.{Walked}

-- a stretch of one place
pub single : (b : Bool) (f : Fault) → first_fault (fault_if b f ∷ []) ≡ fault_if b f
single true f = refl
single false f = refl

-- the first fault of two stretches is that of the first, or else that of the second
pub first_fault_append : (xs ys : List (Option Fault)) → first_fault (xs ++ ys) ≡ option_or (first_fault xs) (first_fault ys)
first_fault_append [] ys = refl
first_fault_append (Some f ∷ xs) ys = refl
first_fault_append (None ∷ xs) ys = first_fault_append xs ys

-- the same of one place before a stretch
pub first_fault_cons : (o : Option Fault) (places : List (Option Fault)) → first_fault (o ∷ places) ≡ option_or o (first_fault places)
first_fault_cons (Some f) places = refl
first_fault_cons None places = refl

-- what refuses a part of the walk refuses the whole, where the whole has the part's fault
pub refused_along : (part whole : Option Fault) (f : Fault) → (part ≡ Some f → whole ≡ Some f) → MayRefuse part f → MayRefuse whole f
refused_along part whole faults.Memory goes m = tt
refused_along part whole f goes m = goes m

-- where FROM refuses, so does a walk that begins with it
pub source_refused : (checks : Result From Fault → List (Option Fault)) (r : Result From Fault) (f : Fault) → ((g : Fault) → first_fault (checks (Err g)) ≡ Some g) → MayRefuse (fault_in r) f → MayRefuse (first_fault (checks r)) f
source_refused checks r f told m = refused_along (fault_in r) (first_fault (checks r)) f (refused r) m
  where
    refused : (walk : Result From Fault) → fault_in walk ≡ Some f → first_fault (checks walk) ≡ Some f
    refused (Ok from) e = absurd (cc e)
    refused (Err g) e = told g ∙ e

-- the fault that there is refuses
pub refused_with : (o : Option Fault) (f : Fault) → o ≡ Some f → MayRefuse o f
refused_with o faults.Memory is = tt
refused_with o f is = is

-- a fault of the first decides
or_first : (o p : Option Fault) (f : Fault) → o ≡ Some f → option_or o p ≡ Some f
or_first o p f e = ap (λ (x : Option Fault). option_or x p) e

-- without one the next decides
pub or_next : (o p : Option Fault) → o ≡ None → option_or o p ≡ p
or_next o p e = ap (λ (x : Option Fault). option_or x p) e

-- the first part of the walk refuses
pub refused_first : (o p : Option Fault) (f : Fault) → MayRefuse o f → MayRefuse (option_or o p) f
refused_first o p f m = refused_along o (option_or o p) f (or_first o p f) m

-- the next part of the walk refuses, and the first has no fault
pub refused_next : (o p : Option Fault) (f : Fault) → o ≡ None → MayRefuse p f → MayRefuse (option_or o p) f
refused_next o p f none m = refused_along p (option_or o p) f (λ e. or_next o p none ∙ e) m

-- the first of two stretches refuses
pub refused_front : (xs ys : List (Option Fault)) (f : Fault) → MayRefuse (first_fault xs) f → MayRefuse (first_fault (xs ++ ys)) f
refused_front xs ys f m = rw first_fault_append (refused_first (first_fault xs) (first_fault ys) f m)

-- the second refuses, and the first has no fault
pub refused_back : (xs ys : List (Option Fault)) (f : Fault) → first_fault xs ≡ None → MayRefuse (first_fault ys) f → MayRefuse (first_fault (xs ++ ys)) f
refused_back xs ys f none m = rw first_fault_append (refused_next (first_fault xs) (first_fault ys) f none m)

-- where neither of two stretches has a fault, both together have none
pub none_append : (xs ys : List (Option Fault)) → first_fault xs ≡ None → first_fault ys ≡ None → first_fault (xs ++ ys) ≡ None
none_append xs ys e h = first_fault_append xs ys ∙ or_next (first_fault xs) (first_fault ys) e ∙ h

-- a stretch with the same first fault is refused alike
pub refused_same : (part whole : Option Fault) (f : Fault) → whole ≡ part → MayRefuse part f → MayRefuse whole f
refused_same part whole f same m = subst (λ (o : Option Fault). MayRefuse o f) (sym same) m

-- and passed alike
pub walked_same : {X : Type 0} (part whole : List (Option Fault)) (Is : X → Type 0) (result : Result X Fault) → first_fault whole ≡ first_fault part → Walked part Is result → Walked whole Is result
walked_same part whole Is (Ok x) same w = (same ∙ w.0, w.1)
walked_same part whole Is (Err f) same m = refused_same (first_fault part) (first_fault whole) f same m

-- a stretch that makes one thing makes what is there, where it is that thing
pub walked_as : {X : Type 0} (part whole : List (Option Fault)) (x : X) (o : Option X) (result : Result X Fault) → first_fault whole ≡ first_fault part → o ≡ Some x → Walked part (λ made. made ≡ x) result → Walked whole (λ made. o ≡ Some made) result
walked_as part whole x o (Ok y) same is w = (same ∙ w.0, is ∙ ap Some (sym w.1))
walked_as part whole x o (Err f) same is m = refused_same (first_fault part) (first_fault whole) f same m

-- a stretch of one check has its fault
pub one_check : (o : Option Fault) → first_fault (o ∷ []) ≡ o
one_check None = refl
one_check (Some f) = refl

-- the first fault of what is left of a list: that of the next, or else that of what is behind it
pub checks_more : {X : Type 0} (check : X → Option Fault) (xs : List X) (i : ℕ) (x : X) → i < length xs → x ≡ get_or xs i x
    → first_fault (map check (drop i xs)) ≡ option_or (check x) (first_fault (map check (drop (i + 1) xs)))
checks_more check xs i x lt is =
    at_drop_more (λ ys. first_fault (map check ys)) xs i x lt
    ∙ ap (λ y. first_fault (check y ∷ map check (drop (i + 1) xs))) (sym is)
    ∙ first_fault_cons (check x) (map check (drop (i + 1) xs))

-- the first fault of the rows from one on: its own, or else that of the rows behind it
pub rows_more : (columns : List ColumnDef) (rows : List (List Constant)) (i : ℕ) (row : List Constant) → i < length rows → row ≡ get_or rows i row → first_fault (flat_map (row_checks columns) (drop i rows)) ≡ option_or (first_fault (row_checks columns row)) (first_fault (flat_map (row_checks columns) (drop (i + 1) rows)))
rows_more columns rows i row lt is =
    at_drop_more (λ xs. first_fault (flat_map (row_checks columns) xs)) rows i row lt
    ∙ ap (λ (r : List Constant). first_fault (row_checks columns r ++ flat_map (row_checks columns) (drop (i + 1) rows))) (sym is)
    ∙ first_fault_append (row_checks columns row) (flat_map (row_checks columns) (drop (i + 1) rows))

-- the same of columns: is it declared before, or else the columns behind it
pub columns_more : (columns : List ColumnDef) (i : ℕ) (c : ColumnDef) → i < length columns → c ≡ get_or columns i c
    → first_fault (column_checks (take i columns) (drop i columns)) ≡ option_or (fault_if (list_any (λ b. is_text b.name c.name) (take i columns)) faults.NameTaken) (first_fault (column_checks (take (i + 1) columns) (drop (i + 1) columns)))
columns_more columns i c lt is =
    at_drop_more (λ xs. first_fault (column_checks (take i columns) xs)) columns i c lt
    ∙ ap (λ (x : ColumnDef). first_fault (column_checks (take i columns) (x ∷ drop (i + 1) columns))) (sym is)
    ∙ first_fault_cons (fault_if (list_any (λ b. is_text b.name c.name) (take i columns)) faults.NameTaken) (column_checks (take i columns ++ c ∷ []) (drop (i + 1) columns))
    ∙ ap (λ (before : List ColumnDef). option_or (fault_if (list_any (λ b. is_text b.name c.name) (take i columns)) faults.NameTaken) (first_fault (column_checks before (drop (i + 1) columns)))) (ap (λ (x : ColumnDef). take i columns ++ x ∷ []) is ∙ sym (take_more columns i c lt))

-- the first place of those that are left has a fault
pub found : (o : Option Fault) (f : Fault) (before rest whole : Option Fault) → o ≡ Some f → before ≡ option_or o rest → before ≡ whole → whole ≡ Some f
found o f before rest whole here split same = sym same ∙ split ∙ or_first o rest f here

-- the first place of those that are left has none
pub passed : (o before rest whole : Option Fault) → o ≡ None → before ≡ option_or o rest → before ≡ whole → rest ≡ whole
passed o before rest whole here split same = sym (or_next o rest here) ∙ sym split ∙ same
