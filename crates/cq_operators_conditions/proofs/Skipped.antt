-- Conditions that no row of a segment makes True.
use Rattle.std.proofs.Common.{◌≡◌, ◌∙◌, ◌<◌, ◌≤◌, ◌+◌, ℕ, zero, suc, Bool, true, false, not, List, [], ◌∷◌, filter, map, length, get_or, take, refl, sym, ap, arith, subst, Vec, Box, Global}
use Rattle.std.specs.Bool.{OnFalse}
use Rattle.std.specs.Borrow.{Bor}
use Rattle.std.specs.List.{AllByRecursion, fold, list_all}
use Rattle.std.proofs.lemmas.Bool.{OnFalse_at, OnFalse_from}
use Rattle.std.proofs.lemmas.List.{get_or-map, length-map, take_all}
use Rattle.cq_values.specs.Comparison.{compared}
use Rattle.cq_values.specs.Truth.{and_truth, is_true, not_truth, or_truth, truth_of}
use Rattle.cq_values.specs.Value.{Row, column, is_null}
use Rattle.cq_values.specs.declared.comparison.Comparison.{Comparison}
use Rattle.cq_values.specs.declared.comparison.Comparison.TheVariants.{Equal, GreaterOrEqual, LessOrEqual}
use Rattle.cq_values.specs.declared.lent.Lent.{Lent}
use Rattle.cq_values.specs.declared.truth.Truth.{Truth}
use Rattle.cq_values.specs.declared.truth.Truth.TheVariants.{True, False, Unknown}
use Rattle.cq_values.specs.declared.value.Value.{Value}
use Rattle.cq_model.specs.Condition.{holds}
use Rattle.cq_model.specs.Eval.{eval}
use Rattle.cq_model.specs.Expr.{Cond, Expr, Compare, IsNull, Between, In, Not}
use Rattle.cq_model.specs.Own.{in_place, passes_own}
use Rattle.cq_model.specs.Trees.{cond_of, expr_of}
use Rattle.cq_model.specs.declared.expr.CondTree.{CondTree}
use Rattle.cq_model.specs.declared.expr.CondTree.TheViews as view
use Rattle.cq_model.specs.declared.expr.ExprTree.{ExprTree}
use Rattle.cq_model_bags.proofs.Lists.{all-both, all-next, all-of, all-weaker}
use Rattle.cq_model_bags.proofs.Totals.{by_test}
use Rattle.cq_model_eval.proofs.Conditions.{holds-And}
use Rattle.cq_prims.proofs.Compared.{turned_by}
use Rattle.cq_prims.specs.Turned.{turned}
use Rattle.cq_segments.specs.ColumnTest.{NoneMatches, tested}
use Rattle.cq_segments_pieces.specs.Marked.{MarkedRow, live, rows_of}
use Rattle.cq_segments.specs.declared.column_test.ColumnTest.TheVariants as asked
use Rattle.cq_operators_conditions.specs.Passing.{conditions_in, passing_rows}
use Rattle.cq_operators_conditions.specs.Skipping.{IsColumn, NoneHolds}
use Rattle.cq_operators_scans.specs.Constant.{HasValue}

-- ---- truths

and-left : (a b : Truth) → is_true a ≡ false → is_true (and_truth a b) ≡ false
and-left True b e = absurd (cc e)
and-left False b e = refl
and-left Unknown True e = refl
and-left Unknown False e = refl
and-left Unknown Unknown e = refl

and-right : (a b : Truth) → is_true b ≡ false → is_true (and_truth a b) ≡ false
and-right True b e = e
and-right False b e = refl
and-right Unknown True e = refl
and-right Unknown False e = refl
and-right Unknown Unknown e = refl

or-both : (a b : Truth) → is_true a ≡ false → is_true b ≡ false → is_true (or_truth a b) ≡ false
or-both True b e h = absurd (cc e)
or-both False b e h = h
or-both Unknown True e h = absurd (cc h)
or-both Unknown False e h = refl
or-both Unknown Unknown e h = refl

not-told : (b : Bool) → not_truth (truth_of b) ≡ truth_of (not b)
not-told true = refl
not-told false = refl

-- a chain of AND is not True where it has come to a truth that is not
and-stays : (t : Truth) (ts : List Truth) → is_true t ≡ false → is_true (fold and_truth t ts) ≡ false
and-stays t [] e = e
and-stays t (s ∷ ts) e = and-stays (and_truth t s) ts (and-left t s e)

-- nor where one of its parts is not
and-part-fails : (t : Truth) (ts : List Truth) (i : ℕ) → i < length ts → is_true (get_or ts i True) ≡ false → is_true (fold and_truth t ts) ≡ false
and-part-fails t [] i h e = absurd (omega (arith, h))
and-part-fails t (s ∷ ts) zero h e = and-stays (and_truth t s) ts (and-right t s e)
and-part-fails t (s ∷ ts) (suc i) h e = and-part-fails (and_truth t s) ts i (omega (arith, h)) e

-- a chain of OR of truths none of which is True is not True
or-none : (t : Truth) (ts : List Truth) → is_true t ≡ false → AllByRecursion (λ s. is_true s ≡ false) ts → is_true (fold or_truth t ts) ≡ false
or-none t [] e all = e
or-none t (s ∷ ts) e all = or-none (or_truth t s) ts (or-both t s e all.0) all.1

-- ---- rows that a test drops

-- where one does not pass, not all do
one-fails : {X : Type 0} (keep : X → Bool) (xs : List X) (i : ℕ) (d : X) → i < length xs → keep (get_or xs i d) ≡ false → list_all keep xs ≡ false
one-fails keep [] i d h e = absurd (omega (arith, h))
one-fails keep (x ∷ xs) zero d h e = rw e refl
one-fails keep (x ∷ xs) (suc i) d h e = by_test (keep x) (λ k. rw k (one-fails keep xs i d (omega (arith, h)) e)) (λ k. rw k refl)

-- of rows that a test drops none is left
drops-all : (keep : Row → Bool) (rows : List Row) → AllByRecursion (λ row. keep row ≡ false) rows → filter keep rows ≡ []
drops-all keep [] all = refl
drops-all keep (row ∷ rows) all = rw all.0 (drops-all keep rows all.1)

-- what holds of all stored rows holds of those that have no mark
all-live : (P : Row → Type 0) (stored : List MarkedRow) → AllByRecursion P (rows_of stored) → AllByRecursion P (live stored)
all-live P [] all = tt
all-live P (m ∷ stored) all = by_test m.marked (λ e. rw e (all-live P stored all.1)) (λ e. rw e (all.0, all-live P stored all.1))

module _ (before : ℕ) where
  -- the condition is not True in a row
  abbrev Fails : Cond → Row → Type 0
  Fails c row = is_true (holds c (in_place before row)) ≡ false

  -- where no row makes one of these conditions True, none passes them all
  pub none-passes : (conditions : List (Bor CondTree)) (i : ℕ) (condition : Bor CondTree) (stored : List MarkedRow) → i < length conditions → condition ≡ get_or conditions i condition
      → NoneHolds before (cond_of condition.now) (rows_of stored) → passing_rows before conditions (live stored) ≡ []
  none-passes conditions i condition stored more is none =
      let of = λ (tree : Bor CondTree). cond_of tree.now in
      let long : i < length (conditions_in conditions) = omega (arith, more, length-map conditions of) in
      let c : Cond = cond_of condition.now in
      let here : get_or (conditions_in conditions) i c ≡ c = get_or-map of conditions i condition c more ∙ ap of (sym is) in
      drops-all (passes_own before (conditions_in conditions)) (live stored)
      (all-live (λ row. passes_own before (conditions_in conditions) row ≡ false) stored
      (all-weaker (Fails c) (λ row. passes_own before (conditions_in conditions) row ≡ false)
      (λ row h. one-fails (λ d. is_true (holds d (in_place before row))) (conditions_in conditions) i c long (ap (λ d. is_true (holds d (in_place before row))) here ∙ h)) (rows_of stored) none))

  module _ (rows : List Row) where
    -- where one condition is True in no row, neither is another that is nowhere True without it
    misses : (c d : Cond) (may : Bool) → ((row : Row) → Fails c row → Fails d row) → OnFalse may (NoneHolds before c rows) → OnFalse may (NoneHolds before d rows)
    misses c d may follows none = OnFalse_from may (NoneHolds before d rows) (λ h. all-weaker (Fails c) (Fails d) follows rows (OnFalse_at h none))

    module _ (e : Expr) (at : ℕ) (is : IsColumn before e at) (may : Bool) where
      -- a comparison of a column with what has one value in every row is that of the test with this value
      pub none-compared : (c : Comparison) (other : Expr) (v : Lent) → HasValue other v → OnFalse may (NoneMatches (asked.Compare at c v) rows) → OnFalse may (NoneHolds before (Compare c e other) rows)
      none-compared c other v same none =
          OnFalse_from may (NoneHolds before (Compare c e other) rows)
          (λ h. all-weaker (λ row. is_true (tested (asked.Compare at c v) row) ≡ false) (Fails (Compare c e other))
          (λ row f. ap (λ (w : Value). is_true (compared c w (eval other (in_place before row)))) (is row) ∙ ap (λ (w : Value). is_true (compared c (column row at) w)) (same (in_place before row)) ∙ f) rows (OnFalse_at h none))

      -- IS NULL of a column is the test for NULL
      pub none-null : OnFalse may (NoneMatches (asked.IsNull at) rows) → OnFalse may (NoneHolds before (IsNull e) rows)
      none-null none =
          OnFalse_from may (NoneHolds before (IsNull e) rows)
          (λ h. all-weaker (λ row. is_true (tested (asked.IsNull at) row) ≡ false) (Fails (IsNull e))
          (λ row f. ap (λ (v : Value). is_true (truth_of (is_null v))) (is row) ∙ f) rows (OnFalse_at h none))

      -- and IS NOT NULL that for other values
      pub none-known : OnFalse may (NoneMatches (asked.IsNotNull at) rows) → OnFalse may (NoneHolds before (Not (IsNull e)) rows)
      none-known none =
          OnFalse_from may (NoneHolds before (Not (IsNull e)) rows)
          (λ h. all-weaker (λ row. is_true (tested (asked.IsNotNull at) row) ≡ false) (Fails (Not (IsNull e)))
          (λ row f. ap (λ (v : Value). is_true (not_truth (truth_of (is_null v)))) (is row) ∙ ap is_true (not-told (is_null (column row at))) ∙ f) rows (OnFalse_at h none))

    -- a comparison is the turned one of its sides turned round
    pub none-turned : (c d : Comparison) (a b : Expr) (may : Bool) → d ≡ turned c → OnFalse may (NoneHolds before (Compare d b a) rows) → OnFalse may (NoneHolds before (Compare c a b) rows)
    none-turned c d a b may is none =
        misses (Compare d b a) (Compare c a b) may (λ row f. ap is_true (sym (turned_by c d is (eval a (in_place before row)) (eval b (in_place before row)))) ∙ f) none

    module _ (e a b : Expr) (may : Bool) where
      -- no value is between two where none is from the least on
      pub none-from-least : OnFalse may (NoneHolds before (Compare GreaterOrEqual e a) rows) → OnFalse may (NoneHolds before (Between e a b) rows)
      none-from-least none =
          misses (Compare GreaterOrEqual e a) (Between e a b) may
          (λ row f. and-left (holds (Compare GreaterOrEqual e a) (in_place before row)) (holds (Compare LessOrEqual e b) (in_place before row)) f) none

      -- or none up to the greatest
      pub none-to-greatest : OnFalse may (NoneHolds before (Compare LessOrEqual e b) rows) → OnFalse may (NoneHolds before (Between e a b) rows)
      none-to-greatest none =
          misses (Compare LessOrEqual e b) (Between e a b) may
          (λ row f. and-right (holds (Compare GreaterOrEqual e a) (in_place before row)) (holds (Compare LessOrEqual e b) (in_place before row)) f) none

    -- ---- IN

    module _ (e : Expr) where
      -- in a row the value is none of these trees'
      abbrev MissesAll : List ExprTree → Row → Type 0
      MissesAll choices row = AllByRecursion (λ x. Fails (Compare Equal e (expr_of x)) row) choices

      -- and so it is in each
      abbrev pub NoneChosen : List ExprTree → Type 0
      NoneChosen choices = AllByRecursion (MissesAll choices) rows

      pub none-yet : NoneChosen []
      none-yet = all-of (MissesAll []) (λ row. tt) rows

      -- nor is it with one more that it is not
      pub none-next : (choices : List ExprTree) (i : ℕ) (x : ExprTree) → i < length choices → x ≡ get_or choices i x → NoneChosen (take i choices) → NoneHolds before (Compare Equal e (expr_of x)) rows
          → NoneChosen (take (i + 1) choices)
      none-next choices i x more is so_far none =
          all-both (MissesAll (take i choices)) (Fails (Compare Equal e (expr_of x))) (MissesAll (take (i + 1) choices))
          (λ row all one. all-next (λ y. Fails (Compare Equal e (expr_of y)) row) choices i x more is all one) rows so_far none

      one-of : (row : Row) (xs : List ExprTree) → AllByRecursion (λ x. is_true (holds (Compare Equal e (expr_of x)) row) ≡ false) xs
          → AllByRecursion (λ t. is_true t ≡ false) (map (λ x. compared Equal (eval e row) (eval x row)) (map expr_of xs))
      one-of row [] all = tt
      one-of row (x ∷ xs) all = (all.0, one-of row xs all.1)

      -- so IN is True in none, once all were asked
      pub none-in : (choices : List ExprTree) (i : ℕ) → length choices ≤ i → NoneChosen (take i choices) → NoneHolds before (In e (map expr_of choices)) rows
      none-in choices i all none =
          all-weaker (MissesAll choices) (Fails (In e (map expr_of choices)))
          (λ row one. or-none False (map (λ x. compared Equal (eval e (in_place before row)) (eval x (in_place before row))) (map expr_of choices)) refl (one-of (in_place before row) choices one)) rows
          (subst NoneChosen (take_all i choices all) none)

    -- ---- AND

    module _ (whole : CondTree) (first : Box CondTree Global) (rest : Vec CondTree Global) (is : whole ≡ view.And first rest) where
      truth-is : (row : Row) → is_true (holds (cond_of whole) row) ≡ is_true (fold and_truth (holds (cond_of first.value) row) (map (λ t. holds (cond_of t) row) rest.items))
      truth-is row = ap is_true (ap (λ (t : CondTree). holds (cond_of t) row) is ∙ holds-And first rest row)

      -- a chain of AND is True in no row in which its first part is not
      pub none-first : (head : CondTree) → head ≡ first.value → NoneHolds before (cond_of head) rows → NoneHolds before (cond_of whole) rows
      none-first head one none =
          all-weaker (Fails (cond_of head)) (Fails (cond_of whole))
          (λ row f. truth-is (in_place before row) ∙ and-stays _ (map (λ t. holds (cond_of t) (in_place before row)) rest.items) (ap (λ (t : CondTree). is_true (holds (cond_of t) (in_place before row))) (sym one) ∙ f)) rows none

      -- nor where another one is not
      pub none-part : (items : List CondTree) (i : ℕ) (part : CondTree) → items ≡ rest.items → i < length items → part ≡ get_or items i part → NoneHolds before (cond_of part) rows → NoneHolds before (cond_of whole) rows
      none-part items i part same more at none =
          all-weaker (Fails (cond_of part)) (Fails (cond_of whole))
          (λ row f.
          let of = λ (t : CondTree). holds (cond_of t) (in_place before row) in
          let long : i < length (map of items) = omega (arith, length-map items of, more) in
          truth-is (in_place before row)
          ∙ ap (λ (ts : List CondTree). is_true (fold and_truth (of first.value) (map of ts))) (sym same)
          ∙ and-part-fails (of first.value) (map of items) i long (ap is_true (get_or-map of items i part True more ∙ ap of (sym at)) ∙ f)) rows none
