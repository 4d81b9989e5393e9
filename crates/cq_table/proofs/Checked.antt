-- Checks of the values that rows get, whatever the order of the rows.
use Rattle.std.proofs.Common.{◌≡◌, ℕ, ◌+◌, ◌<◌, Bool, true, false, List, [], ◌∷◌, ◌++◌, Option, Ordering, add-one, drop, drop-cons, get_or, length, refl, subst, sym, ap, ◌∙◌}
use Rattle.std.specs.Prelude.{◌||◌, ◌&&◌, None, Some}
use Rattle.std.specs.List.{AllByRecursion, flat_map, list_any}
use Rattle.std.specs.Ordering.{is_gt}
use Rattle.cq_values.specs.declared.column.ColumnDef.{ColumnDef}
use Rattle.cq_values.specs.Order.{row_cmp}
use Rattle.cq_values.specs.Value.{Row}
use Rattle.cq_model_bags.specs.Canonical.{bag_of, sorted_by, with_row}
use Rattle.cq_model_bags.proofs.Totals.{by_test}
use Rattle.cq_model.specs.declared.assignment.Assignment.{Assignment}
use Rattle.cq_model.specs.Eval.{eval}
use Rattle.cq_model.specs.Expr.{Cond}
use Rattle.cq_model.specs.Meaning.{keeps}
use Rattle.cq_model.specs.Write.{chosen}
use Rattle.cq_binder_rules.specs.declared.fault.Fault.{Fault}
use Rattle.cq_binder_rules.specs.declared.fault.Fault.TheVariants.{NumberOutside, NullNotAllowed, TableFull}
use Rattle.cq_binder_rules.specs.Checks.{MayRefuse, fault_if, first_fault}
use Rattle.cq_binder_rules.specs.UpdateChecks.{is_null, is_outside, never_null, value_checks}
use Rattle.cq_table.specs.Checks.{AreNarrowSets, fault_of, one_fault, value_fault, values_fault}
use Rattle.cq_table.specs.declared.fault.TableFault.{TableFault}
use Rattle.cq_table.specs.declared.fault.TableFault.TheVariants as tables
use Rattle.cq_table.specs.Table.{SameRows}
use Rattle.cq_table.proofs.RowLists.{gone_all}
use Rattle.cq_model_bags.proofs.Lists.{all-filter}

swapped : (a b c : Bool) → (a || (b || c)) ≡ (b || (a || c))
swapped true true c = refl
swapped true false c = refl
swapped false true c = refl
swapped false false c = refl

module _ (p : Row → Bool) where
  any_with : (cmp : Row → Row → Ordering) (r : Row) (rows : List Row) → list_any p (with_row cmp r rows) ≡ (p r || list_any p rows)
  any_with cmp r [] = refl
  any_with cmp r (s ∷ rows) = by_test (is_gt (cmp r s))
      (λ k. rw k (ap (λ (b : Bool). p s || b) (any_with cmp r rows) ∙ swapped (p s) (p r) (list_any p rows)))
      (λ k. rw k refl)

  any_sorted : (cmp : Row → Row → Ordering) (rows : List Row) → list_any p (sorted_by cmp rows) ≡ list_any p rows
  any_sorted cmp [] = refl
  any_sorted cmp (r ∷ rows) = any_with cmp r (sorted_by cmp rows) ∙ ap (λ (b : Bool). p r || b) (any_sorted cmp rows)

  any_bag : (rows : List Row) → list_any p (bag_of rows) ≡ list_any p rows
  unfolding bag_of
  any_bag rows = any_sorted row_cmp rows

  any_same : (xs ys : List Row) → bag_of xs ≡ bag_of ys → list_any p xs ≡ list_any p ys
  any_same xs ys same = sym (any_bag xs) ∙ ap (list_any p) same ∙ any_bag ys

-- the checks are the same
pub checks_same : (columns : List ColumnDef) (xs ys : List Row) → bag_of xs ≡ bag_of ys → (assignments : List Assignment) → flat_map (value_checks columns xs) assignments ≡ flat_map (value_checks columns ys) assignments
checks_same columns xs ys same [] = refl
checks_same columns xs ys same (a ∷ later) =
    let outside = any_same (λ r. is_outside (eval a.value r)) xs ys same in
    let null = any_same (λ r. is_null (eval a.value r)) xs ys same in
    λ i. (fault_if (outside i) NumberOutside ∷ fault_if (never_null columns a.column && null i) NullNotAllowed ∷ []) ++ checks_same columns xs ys same later i

-- the first fault of checks decides, whatever checks come behind them
decided : (f : Fault) (xs ys : List (Option Fault)) → first_fault xs ≡ Some f → first_fault (xs ++ ys) ≡ Some f
decided f [] ys is = absurd (cc is)
decided f (Some g ∷ xs) ys is = is
decided f (None ∷ xs) ys is = decided f xs ys is

-- and so these do where the others have none
passed : (xs ys : List (Option Fault)) → first_fault xs ≡ None → first_fault (xs ++ ys) ≡ first_fault ys
passed [] ys none = refl
passed (Some g ∷ xs) ys none = absurd (cc none)
passed (None ∷ xs) ys none = passed xs ys none

refused : (e : TableFault) (xs ys : List (Option Fault)) → MayRefuse (first_fault xs) (fault_of e) → MayRefuse (first_fault (xs ++ ys)) (fault_of e)
refused tables.Memory xs ys is = tt
refused tables.Full xs ys is = decided TableFull xs ys is
refused tables.NumberOutside xs ys is = decided NumberOutside xs ys is
refused tables.NullNotAllowed xs ys is = decided NullNotAllowed xs ys is

module _ (columns : List ColumnDef) (rows : List Row) (assignments : List Assignment) (i : ℕ) (a : Assignment) (more : i < length assignments) (is : a ≡ get_or assignments i a)
    (left : first_fault (flat_map (value_checks columns rows) (drop i assignments)) ≡ values_fault columns assignments rows) where
  abbrev checks_of : List Assignment → List (Option Fault)
  checks_of some = flat_map (value_checks columns rows) some

  next : checks_of (drop i assignments) ≡ value_checks columns rows a ++ checks_of (drop (i + 1) assignments)
  next = ap checks_of (drop-cons assignments i a more ∙ ap (λ (n : ℕ). get_or assignments i a ∷ drop n assignments) (sym (add-one i)) ∙ ap (λ (b : Assignment). b ∷ drop (i + 1) assignments) (sym is))

  -- the values of an assignment that have no fault leave the later ones
  pub value_passed : one_fault columns a rows ≡ None → first_fault (flat_map (value_checks columns rows) (drop (i + 1) assignments)) ≡ values_fault columns assignments rows
  value_passed none = sym (ap first_fault next ∙ passed (value_checks columns rows a) (checks_of (drop (i + 1) assignments)) none) ∙ left

  -- and its fault is that of all
  pub value_refused : (e : TableFault) → MayRefuse (one_fault columns a rows) (fault_of e) → MayRefuse (values_fault columns assignments rows) (fault_of e)
  value_refused e told = subst (λ o. MayRefuse o (fault_of e)) (sym (ap first_fault next) ∙ left) (refused e (value_checks columns rows a) (checks_of (drop (i + 1) assignments)) told)

module _ (assignments : List Assignment) (c : Option Cond) (rows gone : List Row) (is_chosen : SameRows gone (chosen c rows)) where
  -- nothing is too wide in SET at a row that goes
  pub narrow_gone : AllByRecursion (AreNarrowSets assignments) rows → AllByRecursion (AreNarrowSets assignments) gone
  narrow_gone narrow = gone_all (keeps c) rows gone is_chosen (AreNarrowSets assignments) (all-filter (AreNarrowSets assignments) (keeps c) rows narrow)

  -- the first fault of the rows that go is that of the chosen ones
  pub fault_same : (columns : List ColumnDef) → values_fault columns assignments gone ≡ value_fault columns assignments c rows
  fault_same columns = ap first_fault (checks_same columns gone (chosen c rows) is_chosen assignments)
