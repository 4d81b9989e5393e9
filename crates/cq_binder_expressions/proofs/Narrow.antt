-- What passes the walk has nothing too wide in it.
use Rattle.std.proofs.Common.{arith, ◌≡◌, ℕ, ◌+◌, ◌*◌, ◌<◌, ◌≤◌, ◌^◌, max, Bool, true, sym, subst, List, [], ◌∷◌, ◌++◌, map, length, Some, Result, Ok, refl, ap, ◌∙◌, append_assoc}
use Rattle.std.specs.Prelude.{◌&&◌, slice_get, IsSome, is_some}
use Rattle.std.specs.List.{fold}
use Rattle.std.proofs.lemmas.List.{append-nil}
use Rattle.std.proofs.lemmas.Nat.{mul-le}
use Rattle.cq_values.specs.declared.ty.Ty.TheVariants as types
use Rattle.cq_sql_language.specs.declared.written.ColumnName.{ColumnName}
use Rattle.cq_model.specs.Expr.{Expr}
use Rattle.cq_model.specs.declared.query.Aggregate.{Aggregate as Shown}
use Rattle.cq_model.specs.declared.query.Aggregate.TheVariants as shown
use Rattle.cq_model.specs.Sizes.{IsArgumentNarrow, aggregate_size, count_size}
use Rattle.cq_sql_language.specs.declared.written.AggregateFunction.{AggregateFunction}
use Rattle.cq_sql_language.specs.declared.written.AggregateFunction.TheVariants as functions
use Rattle.cq_binder_rules.specs.Placed.{aggregate_of, placed_expr, placed_exprs, with_aggregates, with_choices}
use Rattle.cq_model.specs.Width.{widest, width}
use Rattle.cq_sql_language.specs.Written.{Written, Choices, Number, Text, Date, Null, Column, Extract, CountAll, Aggregate, Parens, Negative, Times, Plus, Minus, Compare, IsNull, Between, In, Like, Not, And, Or, NoChoice, Choice}
use Rattle.cq_binder_rules.specs.declared.fault.Fault.{Fault}
use Rattle.cq_binder_rules.specs.declared.fault.Fault.TheVariants.{AggregateMisplaced, TypeMismatch}
use Rattle.cq_binder_rules.specs.declared.typing.Typing.{Typing}
use Rattle.cq_binder_rules.specs.Kinds.{◌and_then◌, aggregated, agree, between_them, compared_with, connected, counted, is_of, is_value, like_of, negation_of, negative, part_of, product_of, sum_of, tested, text_of, value_of}
use Rattle.cq_binder_rules.specs.Typing.{Scope, ScopeColumn, column_typing, listed, may_read, of_group, resolved, rows_in, size_at, type_at, typed}
use Rattle.cq_binder_rules.specs.Scopes.{of_rows}
use Rattle.cq_binder_rules.specs.Places.{next_place, place_of, read_place, row_place}
use Rattle.cq_binder_expressions.specs.Expressions.{ArgumentsAreNarrow, IsNarrow, KeepShown, KeepSizes, TypedIsNarrow}
use Rattle.cq_binder_expressions.proofs.Told.{all_told, stood}
use Rattle.cq_binder_expressions.proofs.Growing.{Grows, choices-grow, grows}
use Rattle.cq_binder_expressions.proofs.Passed.{day_size, is_arithmetic, is_negative, is_number, is_part, number_size, resolved_at, resolved_within, unless_ok, widest-turned}

-- what a group tells is no larger than it can be, where all aggregates that are told are these
abbrev CountsKeep : Scope → (ℕ → ℕ) → List Shown → Type 0
CountsKeep s sizes full =
    (before more : List Shown) (t : Typing) → typed s CountAll ≡ Ok t → (before ++ shown.CountAll ∷ []) ++ more ≡ full → sizes (next_place s before) ≤ t.size

abbrev TellsKeep : Scope → (ℕ → ℕ) → List Shown → Type 0
TellsKeep s sizes full =
    (before more : List Shown) (function : AggregateFunction) (a : Written) (t : Typing) → typed s (Aggregate function a) ≡ Ok t
    → (before ++ aggregate_of function (placed_expr (rows_in s) [] a) ∷ []) ++ more ≡ full → sizes (next_place s before) ≤ t.size

module _ (s : Scope) (sizes : ℕ → ℕ) (kept : KeepSizes s sizes) (full : List Shown) (counts : CountsKeep s sizes full) (tells : TellsKeep s sizes full) where
  -- a column that may be read has the size that its source promises
  column_size : (c : ColumnName) (t : Typing) → typed s (Column c) ≡ Ok t → sizes (place_of s c) ≤ t.size
  column_size c t e =
      let found = stood (resolved s.columns c) (column_typing s) t e in
      let p = unless_ok (may_read s.grouped found.0) AggregateMisplaced (value_of (type_at s.columns found.0) (size_at s.columns found.0)) t found.2 in
      let at : read_place s.grouped (row_place s.columns c) ≡ read_place s.grouped found.0 = ap (read_place s.grouped) (resolved_at s c found.0 found.1) in
      omega (arith, kept found.0 (resolved_within s c found.0 found.1) p.0, ap {B = ℕ} (λ (x : Typing). x.size) p.1, ap sizes at)

  -- what is behind the first of two parts, are the aggregates of the second and those behind both
  earlier : {after : List Shown} (low : List Shown) (r : Grows low after) (more : List Shown) → after ++ more ≡ full → low ++ (r.0 ++ more) ≡ full
  earlier low r more is = sym (append_assoc low r.0 more) ∙ ap (λ xs. xs ++ more) (sym r.1) ∙ is

  -- two parts that passed the walk, the second behind the aggregates of the first, and what was asked of both
  record BothNarrow (before : List Shown) (a b : Written) (asked : Typing → Typing → Result Typing Fault) (t : Typing) : Type 0 where
    x : Typing
    y : Typing
    gives : asked x y ≡ Ok t
    left : IsNarrow s before a x sizes
    right : IsNarrow s (with_aggregates s before a) b y sizes

  both_narrow : (before more : List Shown) (a b : Written) (asked : Typing → Typing → Result Typing Fault) (t : Typing) → (typed s a and_then λ x. typed s b and_then asked x) ≡ Ok t → with_aggregates s (with_aggregates s before a) b ++ more ≡ full
      → ((rest : List Shown) (x : Typing) → typed s a ≡ Ok x → with_aggregates s before a ++ rest ≡ full → IsNarrow s before a x sizes)
      → ((y : Typing) → typed s b ≡ Ok y → IsNarrow s (with_aggregates s before a) b y sizes) → BothNarrow before a b asked t
  both_narrow before more a b asked t e is left right =
      let p = stood (typed s a) (λ x. typed s b and_then asked x) t e in
      let q = stood (typed s b) (asked p.0) t p.2 in
      let low = with_aggregates s before a in
      let r = grows s low b in
      record { x = p.0; y = q.0; gives = q.2; left = left (r.0 ++ more) p.0 p.1 (earlier low r more is); right = right q.0 q.1 }

  mutual
    narrow : (before more : List Shown) (w : Written) (t : Typing) → typed s w ≡ Ok t → with_aggregates s before w ++ more ≡ full → IsNarrow s before w t sizes
    narrow before more (Number n) t e is =
        let p = is_number n t e in
        let m = number_size n in
        record { value = omega (arith, p.0, m); size = omega (arith, p.1, m); condition = omega (arith, p.0, m) }
    narrow before more (Text b) t e is = record { value = omega arith; size = omega arith; condition = omega arith }
    narrow before more (Date b) t e is =
        let d = day_size b in
        record { value = omega (arith, d); size = omega (arith, d); condition = omega (arith, d) }
    narrow before more Null t e is = record { value = omega arith; size = omega arith; condition = omega arith }
    narrow before more (Column c) t e is = record { value = omega arith; size = column_size c t e; condition = omega arith }
    narrow before more (Extract part a) t e is =
        let p = stood (typed s a) (part_of part) t e in
        let x = narrow before more a p.0 p.1 is in
        record { value = x.value; size = omega (arith, is_part part p.0 t p.2); condition = x.value }
    narrow before more CountAll t e is = record { value = omega arith; size = counts before more t e is; condition = omega arith }
    narrow before more (Aggregate function a) t e is = record { value = omega arith; size = tells before more function a t e is; condition = omega arith }
    narrow before more (Parens a) t e is =
        let x = narrow before more a t e is in
        record { value = x.value; size = x.size; condition = x.condition }
    narrow before more (Negative a) t e is =
        let p = stood (typed s a) negative t e in
        let x = narrow before more a p.0 p.1 is in
        let n = is_negative p.0 t p.2 in
        record { value = omega (arith, x.value, x.size, n.0); size = omega (arith, x.size, n.1); condition = omega (arith, x.value, x.size, n.0) }
    narrow before more (Times a b) t e is =
        let h = both_narrow before more a b product_of t e is (λ behind. narrow before behind a) (λ y k. narrow (with_aggregates s before a) more b y k is) in
        let n = is_arithmetic h.x h.y (h.x.size * h.y.size) t h.gives in
        let product = mul-le (width (placed_expr s before a) sizes).size (width (placed_expr s (with_aggregates s before a) b) sizes).size h.x.size h.y.size h.left.size h.right.size in
        record { value = omega (arith, h.left.value, h.right.value, n.0, product); size = omega (arith, n.1, product); condition = omega (arith, h.left.value, h.right.value, n.0, product) }
    narrow before more (Plus a b) t e is =
        let h = both_narrow before more a b sum_of t e is (λ behind. narrow before behind a) (λ y k. narrow (with_aggregates s before a) more b y k is) in
        let n = is_arithmetic h.x h.y (h.x.size + h.y.size) t h.gives in
        record { value = omega (arith, h.left.value, h.left.size, h.right.value, h.right.size, n.0); size = omega (arith, h.left.size, h.right.size, n.1); condition = omega (arith, h.left.value, h.left.size, h.right.value, h.right.size, n.0) }
    narrow before more (Minus a b) t e is =
        let h = both_narrow before more a b sum_of t e is (λ behind. narrow before behind a) (λ y k. narrow (with_aggregates s before a) more b y k is) in
        let n = is_arithmetic h.x h.y (h.x.size + h.y.size) t h.gives in
        record { value = omega (arith, h.left.value, h.left.size, h.right.value, h.right.size, n.0); size = omega (arith, h.left.size, h.right.size, n.1); condition = omega (arith, h.left.value, h.left.size, h.right.value, h.right.size, n.0) }
    narrow before more (Compare c a b) t e is =
        let h = both_narrow before more a b compared_with t e is (λ behind. narrow before behind a) (λ y k. narrow (with_aggregates s before a) more b y k is) in
        record { value = omega arith; size = omega arith; condition = omega (arith, h.left.value, h.right.value) }
    narrow before more (IsNull negated a) t e is =
        let p = stood (typed s a) tested t e in
        let x = narrow before more a p.0 p.1 is in
        record { value = omega arith; size = omega arith; condition = rw (widest-turned negated _ sizes) x.value }
    narrow before more (Between negated a least greatest) t e is =
        let p = stood (typed s a) (λ x. typed s least and_then λ l. typed s greatest and_then between_them x l) t e in
        let q = stood (typed s least) (λ l. typed s greatest and_then between_them p.0 l) t p.2 in
        let r = stood (typed s greatest) (between_them p.0 q.0) t q.2 in
        let low = with_aggregates s before a in
        let high = with_aggregates s low least in
        let g = grows s low least in
        let h = grows s high greatest in
        let high_is = earlier high h more is in
        let x = narrow before (g.0 ++ (h.0 ++ more)) a p.0 p.1 (earlier low g (h.0 ++ more) high_is) in
        let y = narrow low (h.0 ++ more) least q.0 q.1 high_is in
        let z = narrow high more greatest r.0 r.1 is in
        record { value = omega arith; size = omega arith; condition = rw (widest-turned negated _ sizes) (omega (arith, x.value, y.value, z.value)) }
    narrow before more (In negated a bs) t e is =
        let p = stood (typed s a) (λ x. listed s x true bs) t e in
        let low = with_aggregates s before a in
        let r = choices-grow s low bs in
        let x = narrow before (r.0 ++ more) a p.0 p.1 (earlier low r more is) in
        let y = choices_narrow low more bs p.0 true t 0 (omega arith) p.2 is in
        record { value = omega arith; size = omega arith; condition = rw (widest-turned negated _ sizes) (omega (arith, x.value, y)) }
    narrow before more (Like negated a pattern) t e is =
        let p = stood (typed s a) (λ x. text_of pattern and_then like_of x) t e in
        let x = narrow before more a p.0 p.1 is in
        record { value = omega arith; size = omega arith; condition = rw (widest-turned negated _ sizes) x.value }
    narrow before more (Not a) t e is =
        let p = stood (typed s a) negation_of t e in
        let x = narrow before more a p.0 p.1 is in
        record { value = omega arith; size = omega arith; condition = x.condition }
    narrow before more (And a b) t e is =
        let h = both_narrow before more a b connected t e is (λ behind. narrow before behind a) (λ y k. narrow (with_aggregates s before a) more b y k is) in
        record { value = omega arith; size = omega arith; condition = omega (arith, h.left.condition, h.right.condition) }
    narrow before more (Or a b) t e is =
        let h = both_narrow before more a b connected t e is (λ behind. narrow before behind a) (λ y k. narrow (with_aggregates s before a) more b y k is) in
        record { value = omega arith; size = omega arith; condition = omega (arith, h.left.condition, h.right.condition) }

    -- none of the entries behind IN is too wide
    choices_narrow : (before more : List Shown) (bs : Choices) (x : Typing) (all_agree : Bool) (t : Typing) (n : ℕ) → n < 2 ^ 127 → listed s x all_agree bs ≡ Ok t → with_choices s before bs ++ more ≡ full
        → fold max n (map (widest sizes) (placed_exprs s before bs)) < 2 ^ 127
    choices_narrow before more NoChoice x all_agree t n small e is = small
    choices_narrow before more (Choice b bs) x all_agree t n small e is =
        let p = stood (typed s b) (λ y. listed s x (all_agree && agree x.kind y.kind) bs) t e in
        let low = with_aggregates s before b in
        let r = choices-grow s low bs in
        let y = narrow before (r.0 ++ more) b p.0 p.1 (earlier low r more is) in
        choices_narrow low more bs x (all_agree && agree x.kind p.0.kind) t (max n (widest sizes (placed_expr s before b))) (omega (arith, small, y.value)) p.2 is

-- ---- Over rows
-- no aggregate stands over rows
no_count : (columns : List ScopeColumn) (sizes : ℕ → ℕ) (full : List Shown) → CountsKeep (of_rows columns) sizes full
no_count columns sizes full before more t e is = absurd (cc e)

nothing_told : (columns : List ScopeColumn) (sizes : ℕ → ℕ) (full : List Shown) → TellsKeep (of_rows columns) sizes full
nothing_told columns sizes full before more function a t e is =
    let p = stood (typed (of_rows columns) a and_then aggregated function) (of_group (of_rows columns)) t e in
    absurd (cc p.2)

-- so what has no fault is narrow there wherever the columns keep their sizes
pub narrow_over_rows : (columns : List ScopeColumn) (before : List Shown) (w : Written) (t : Typing) (sizes : ℕ → ℕ) → typed (of_rows columns) w ≡ Ok t → KeepSizes (of_rows columns) sizes → IsNarrow (of_rows columns) before w t sizes
narrow_over_rows columns before w t sizes e kept =
    let s = of_rows columns in
    let full = with_aggregates s before w in
    narrow s sizes kept full (no_count columns sizes full) (nothing_told columns sizes full) before [] w t e (append-nil full)

-- the rows keep the sizes that they promise
rows_keep : (columns : List ScopeColumn) → KeepSizes (of_rows columns) (size_at columns)
rows_keep columns place within may = omega arith

-- ---- Over groups
-- the entry behind a list
entry_at : (before : List Shown) (a : Shown) (more : List Shown) → slice_get ((before ++ a ∷ []) ++ more) (length before) ≡ Some a
entry_at [] a more = refl
entry_at (b ∷ before) a more = entry_at before a more

-- a typing that may stand is that of groups
grouped_ok : (s : Scope) (x t : Typing) → of_group s x ≡ Ok t → IsSome s.grouped × (t ≡ x)
grouped_ok s x t e = unless_ok (is_some s.grouped) AggregateMisplaced x t e

module _ (s : Scope) (sizes : ℕ → ℕ) (full : List Shown) (kept : KeepShown s full sizes) where
  -- an aggregate among all is no larger than it can be
  told_at : (before more : List Shown) (a : Shown) → IsSome s.grouped → (before ++ a ∷ []) ++ more ≡ full → sizes (next_place s before) ≤ aggregate_size (size_at s.columns) a
  told_at before more a grouped is =
      kept grouped (length before) a (subst (λ (xs : List Shown). slice_get xs (length before) ≡ Some a) is (entry_at before a more))

  counts_keep : CountsKeep s sizes full
  counts_keep before more t e is =
      let p = grouped_ok s (value_of types.Integer count_size) t e in
      omega (arith, told_at before more shown.CountAll p.0 is, ap {B = ℕ} (λ (x : Typing). x.size) p.1)

  -- and what it tells is no larger than its typing says
  aggregate_within : (function : AggregateFunction) (a : Written) (x y : Typing) → typed (rows_in s) a ≡ Ok x → aggregated function x ≡ Ok y → aggregate_size (size_at s.columns) (aggregate_of function (placed_expr (rows_in s) [] a)) ≤ y.size
  aggregate_within functions.Count a x y e k = omega (arith, ap {B = ℕ} (λ (z : Typing). z.size) (unless_ok (is_value x.kind) TypeMismatch counted y k).1)
  aggregate_within functions.CountDistinct a x y e k = omega (arith, ap {B = ℕ} (λ (z : Typing). z.size) (unless_ok (is_value x.kind) TypeMismatch counted y k).1)
  aggregate_within functions.Sum a x y e k = omega (arith, ap {B = ℕ} (λ (z : Typing). z.size) (unless_ok (is_of types.Integer x.kind) TypeMismatch (value_of types.Integer (2 ^ 127)) y k).1)
  aggregate_within functions.Min a x y e k =
      omega (arith, (narrow_over_rows s.columns [] a x (size_at s.columns) e (rows_keep s.columns)).size, ap {B = ℕ} (λ (z : Typing). z.size) (unless_ok (is_value x.kind) TypeMismatch x y k).1)
  aggregate_within functions.Max a x y e k =
      omega (arith, (narrow_over_rows s.columns [] a x (size_at s.columns) e (rows_keep s.columns)).size, ap {B = ℕ} (λ (z : Typing). z.size) (unless_ok (is_value x.kind) TypeMismatch x y k).1)

  tells_keep : TellsKeep s sizes full
  tells_keep before more function a t e is =
      let p = stood (typed (rows_in s) a and_then aggregated function) (of_group s) t e in
      let q = stood (typed (rows_in s) a) (aggregated function) p.0 p.1 in
      let g = grouped_ok s p.0 t p.2 in
      let told = told_at before more (aggregate_of function (placed_expr (rows_in s) [] a)) g.0 is in
      omega (arith, told, aggregate_within function a q.0 p.0 q.1 q.2, ap {B = ℕ} (λ (x : Typing). x.size) g.1)

-- what has no fault is narrow wherever the columns and the aggregates keep their sizes
pub typed_is_narrow : TypedIsNarrow
typed_is_narrow s before more w t sizes e kept shown_kept =
    let full = with_aggregates s before w ++ more in
    narrow s sizes kept full (counts_keep s sizes full shown_kept) (tells_keep s sizes full shown_kept) before more w t e refl

-- ---- Arguments
argument_narrow : (function : AggregateFunction) (sizes : ℕ → ℕ) (e : Expr) → widest sizes e < 2 ^ 127 → IsArgumentNarrow sizes (aggregate_of function e)
argument_narrow functions.Count sizes e narrow = narrow
argument_narrow functions.CountDistinct sizes e narrow = narrow
argument_narrow functions.Sum sizes e narrow = narrow
argument_narrow functions.Min sizes e narrow = narrow
argument_narrow functions.Max sizes e narrow = narrow

-- nothing in an argument of its aggregates is too wide
pub arguments_are_narrow : ArgumentsAreNarrow
arguments_are_narrow s before w t sizes e kept all =
    all_told s (IsArgumentNarrow sizes) tt
    (λ function a x stands. argument_narrow function sizes (placed_expr (rows_in s) [] a) (narrow_over_rows s.columns [] a x sizes stands kept).value) before w t e all
