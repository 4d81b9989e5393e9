-- What passes the walk gives a value of its kind.
use Rattle.std.proofs.Common.{◌≡◌, ℕ, ◌+◌, ◌*◌, ◌^◌, Bool, true, false, ℤ, List, [], Option, Some, None, Ok, refl, sym, subst}
use Rattle.std.specs.Prelude.{length, nat_le, nat_lt, not, ◌&&◌, if◌then◌else◌, is_none, pos}
use Rattle.std.proofs.lemmas.Bool.{leb-true}
use Rattle.cq_values.specs.Dates.{day_named}
use Rattle.cq_values.specs.declared.ty.Ty.TheVariants as types
use Rattle.cq_values.specs.declared.value.Value.{Value}
use Rattle.cq_values.specs.declared.value.Value.TheVariants as values
use Rattle.cq_values.specs.declared.day_part.DayPart.{DayPart}
use Rattle.cq_values.specs.Value.{Row, column}
use Rattle.cq_sql_language.specs.declared.written.ColumnName.{ColumnName}
use Rattle.cq_sql_language.specs.Written.{Written, Choices, Number, Text, Date, Null, Column, Extract, CountAll, Aggregate, Parens, Negative, Times, Plus, Minus, Compare, IsNull, Between, In, Like, Not, And, Or, NoChoice, Choice}
use Rattle.cq_model.specs.Eval.{eval, extracted, negated, plus, times}
use Rattle.cq_model.specs.Width.{part_limit}
use Rattle.cq_binder_rules.specs.declared.fault.Fault.TheVariants.{AggregateMisplaced, BadDate, TextTooLong, TooWide, TypeMismatch}
use Rattle.cq_binder_rules.specs.declared.typing.Kind.TheVariants as kinds
use Rattle.cq_binder_rules.specs.declared.typing.Typing.{Typing}
use Rattle.cq_binder_rules.specs.Kinds.{◌and_then◌, aggregated, a_condition, agree, arithmetic, between_them, compared_with, connected, is_condition, is_of, is_value, like_of, negation_of, negative, number_of, part_of, product_of, sum_of, tested, text_of, unless, value_of}
use Rattle.cq_model.specs.declared.query.Aggregate.{Aggregate as Shown}
use Rattle.cq_binder_rules.specs.Placed.{named_day, placed_expr, with_aggregates, written_number}
use Rattle.cq_binder_rules.specs.Places.{place_of, row_place}
use Rattle.cq_binder_rules.specs.Scopes.{of_rows}
use Rattle.cq_binder_rules.specs.Typing.{Scope, ScopeColumn, column_typing, listed, of_group, resolved, size_at, type_at, typed}
use Rattle.cq_binder_expressions.specs.Types.{IsOf, IsOfKind, KeepTypes, TypedIsOfItsKind}
use Rattle.cq_binder_expressions.proofs.Passed.{if_ok, resolved_at, resolved_within, unless_ok}
use Rattle.cq_binder_expressions.proofs.Told.{stood}

-- ---- Values of a type
-- a typing that is this one has its kind
as_typed : (x t : Typing) (v : Value) → t ≡ x → IsOfKind x.kind v → IsOfKind t.kind v
as_typed x t v same is = subst (λ (y : Typing). IsOfKind y.kind v) (sym same) is

number_is : (b : Bool) (n : ℤ) → IsOf types.Integer (if b then values.Number n else values.Null)
number_is true n = refl
number_is false n = tt

day_is : (o : Option ℤ) → IsOf types.Date (elim o [ None ↦ values.Null | Some d ↦ values.Day d ])
day_is None = tt
day_is (Some d) = refl

negated_is : (v : Value) → IsOf types.Integer (negated v)
negated_is values.Null = tt
negated_is (values.Number n) = refl
negated_is (values.Day d) = tt
negated_is (values.Text b) = tt

plus_is : (v w : Value) → IsOf types.Integer (plus v w)
plus_is (values.Number m) (values.Number n) = refl
plus_is (values.Number m) values.Null = tt
plus_is (values.Number m) (values.Day d) = tt
plus_is (values.Number m) (values.Text b) = tt
plus_is values.Null w = tt
plus_is (values.Day d) w = tt
plus_is (values.Text b) w = tt

times_is : (v w : Value) → IsOf types.Integer (times v w)
times_is (values.Number m) (values.Number n) = refl
times_is (values.Number m) values.Null = tt
times_is (values.Number m) (values.Day d) = tt
times_is (values.Number m) (values.Text b) = tt
times_is values.Null w = tt
times_is (values.Day d) w = tt
times_is (values.Text b) w = tt

part_is : (part : DayPart) (v : Value) → IsOf types.Integer (extracted part v)
part_is part values.Null = tt
part_is part (values.Number n) = tt
part_is part (values.Day d) = refl
part_is part (values.Text b) = tt

-- ---- What stands is of its kind
number_typed : (n : ℕ) (t : Typing) → number_of n ≡ Ok t → t ≡ value_of types.Integer n
number_typed n t e = (unless_ok (nat_lt n (2 ^ 127)) TooWide (value_of types.Integer n) t e).1

arithmetic_typed : (x y : Typing) (n : ℕ) (t : Typing) → arithmetic x y n ≡ Ok t → t ≡ value_of types.Integer n
arithmetic_typed x y n t e = number_typed n t (if_ok (is_of types.Integer x.kind && is_of types.Integer y.kind) (number_of n) TypeMismatch t e)

-- a test gives a condition
condition_typed : (met : Bool) (t : Typing) → unless met TypeMismatch a_condition ≡ Ok t → IsOfKind t.kind values.Null
condition_typed met t e = as_typed a_condition t values.Null (unless_ok met TypeMismatch a_condition t e).1 refl

-- so does the list behind IN
listed_typed : (s : Scope) (bs : Choices) (x : Typing) (all_agree : Bool) (t : Typing) → listed s x all_agree bs ≡ Ok t → IsOfKind t.kind values.Null
listed_typed s NoChoice x all_agree t e = condition_typed all_agree t e
listed_typed s (Choice b bs) x all_agree t e =
    let p = stood (typed s b) (λ y. listed s x (all_agree && agree x.kind y.kind) bs) t e in
    listed_typed s bs x (all_agree && agree x.kind p.0.kind) t p.2

module _ (columns : List ScopeColumn) (row : Row) (kept : KeepTypes columns row) where
  abbrev s : Scope
  s = of_rows columns

  -- a column holds values of its type
  column_typed : (c : ColumnName) (t : Typing) → typed s (Column c) ≡ Ok t → IsOfKind t.kind (column row (place_of s c))
  column_typed c t e =
      let found = stood (resolved columns c) (column_typing s) t e in
      let x = value_of (type_at columns found.0) (size_at columns found.0) in
      let p = unless_ok true AggregateMisplaced x t found.2 in
      let at : row_place columns c ≡ found.0 = resolved_at s c found.0 found.1 in
      as_typed x t (column row (place_of s c)) p.1 (subst (λ (i : ℕ). IsOf (type_at columns found.0) (column row i)) (sym at) (kept found.0 (resolved_within s c found.0 found.1)))

  of_its_kind : (before : List Shown) (w : Written) (t : Typing) → typed s w ≡ Ok t → IsOfKind t.kind (eval (placed_expr s before w) row)
  of_its_kind before (Number n) t e = as_typed (value_of types.Integer n) t (written_number n) (number_typed n t e) (number_is (nat_lt n (2 ^ 127)) (pos n))
  of_its_kind before (Text b) t e =
      let p = unless_ok (nat_le (length b) 4096) TextTooLong (value_of types.Text 0) t e in
      as_typed (value_of types.Text 0) t (values.Text b) p.1 (refl, leb-true (length b) 4096 p.0)
  of_its_kind before (Date b) t e = as_typed (value_of types.Date 0) t (named_day b) (unless_ok (not (is_none (day_named b))) BadDate (value_of types.Date 0) t e).1 (day_is (day_named b))
  of_its_kind before Null t e = let same : record { kind = kinds.Null; size = 0 } ≡ t = cc e in subst (λ (y : Typing). IsOfKind y.kind values.Null) same refl
  of_its_kind before (Column c) t e = column_typed c t e
  of_its_kind before (Extract part a) t e =
      let p = stood (typed s a) (part_of part) t e in
      let x = value_of types.Integer (part_limit part) in
      as_typed x t (extracted part (eval (placed_expr s before a) row)) (unless_ok (is_of types.Date p.0.kind) TypeMismatch x t p.2).1 (part_is part (eval (placed_expr s before a) row))
  of_its_kind before CountAll t e = absurd (cc e)
  of_its_kind before (Aggregate function a) t e =
      let p = stood (typed s a and_then aggregated function) (of_group s) t e in
      absurd (cc p.2)
  of_its_kind before (Parens a) t e = of_its_kind before a t e
  of_its_kind before (Negative a) t e =
      let p = stood (typed s a) negative t e in
      let same = number_typed p.0.size t (if_ok (is_of types.Integer p.0.kind) (number_of p.0.size) TypeMismatch t p.2) in
      as_typed (value_of types.Integer p.0.size) t (negated (eval (placed_expr s before a) row)) same (negated_is (eval (placed_expr s before a) row))
  of_its_kind before (Times a b) t e =
      let p = stood (typed s a) (λ x. typed s b and_then product_of x) t e in
      let q = stood (typed s b) (product_of p.0) t p.2 in
      let v = eval (placed_expr s before a) row in
      let w = eval (placed_expr s (with_aggregates s before a) b) row in
      as_typed (value_of types.Integer (p.0.size * q.0.size)) t (times v w) (arithmetic_typed p.0 q.0 (p.0.size * q.0.size) t q.2) (times_is v w)
  of_its_kind before (Plus a b) t e =
      let p = stood (typed s a) (λ x. typed s b and_then sum_of x) t e in
      let q = stood (typed s b) (sum_of p.0) t p.2 in
      let v = eval (placed_expr s before a) row in
      let w = eval (placed_expr s (with_aggregates s before a) b) row in
      as_typed (value_of types.Integer (p.0.size + q.0.size)) t (plus v w) (arithmetic_typed p.0 q.0 (p.0.size + q.0.size) t q.2) (plus_is v w)
  of_its_kind before (Minus a b) t e =
      let p = stood (typed s a) (λ x. typed s b and_then sum_of x) t e in
      let q = stood (typed s b) (sum_of p.0) t p.2 in
      let v = eval (placed_expr s before a) row in
      let w = negated (eval (placed_expr s (with_aggregates s before a) b) row) in
      as_typed (value_of types.Integer (p.0.size + q.0.size)) t (plus v w) (arithmetic_typed p.0 q.0 (p.0.size + q.0.size) t q.2) (plus_is v w)
  of_its_kind before (Compare c a b) t e =
      let p = stood (typed s a) (λ x. typed s b and_then compared_with x) t e in
      let q = stood (typed s b) (compared_with p.0) t p.2 in
      condition_typed (agree p.0.kind q.0.kind) t q.2
  of_its_kind before (IsNull negated a) t e =
      let p = stood (typed s a) tested t e in
      condition_typed (is_value p.0.kind) t p.2
  of_its_kind before (Between negated a least greatest) t e =
      let p = stood (typed s a) (λ x. typed s least and_then λ l. typed s greatest and_then between_them x l) t e in
      let q = stood (typed s least) (λ l. typed s greatest and_then between_them p.0 l) t p.2 in
      let r = stood (typed s greatest) (between_them p.0 q.0) t q.2 in
      condition_typed (agree p.0.kind q.0.kind && agree p.0.kind r.0.kind) t r.2
  of_its_kind before (In negated a bs) t e =
      let p = stood (typed s a) (λ x. listed s x true bs) t e in
      listed_typed s bs p.0 true t p.2
  of_its_kind before (Like negated a pattern) t e =
      let p = stood (typed s a) (λ x. text_of pattern and_then like_of x) t e in
      let q = stood (text_of pattern) (like_of p.0) t p.2 in
      condition_typed (is_of types.Text p.0.kind) t q.2
  of_its_kind before (Not a) t e =
      let p = stood (typed s a) negation_of t e in
      condition_typed (is_condition p.0.kind) t p.2
  of_its_kind before (And a b) t e =
      let p = stood (typed s a) (λ x. typed s b and_then connected x) t e in
      let q = stood (typed s b) (connected p.0) t p.2 in
      condition_typed (is_condition p.0.kind && is_condition q.0.kind) t q.2
  of_its_kind before (Or a b) t e =
      let p = stood (typed s a) (λ x. typed s b and_then connected x) t e in
      let q = stood (typed s b) (connected p.0) t p.2 in
      condition_typed (is_condition p.0.kind && is_condition q.0.kind) t q.2

-- the value of what has no fault is of its kind wherever the columns keep their types
pub typed_is_of_its_kind : TypedIsOfItsKind
typed_is_of_its_kind columns w t row e kept = of_its_kind columns row kept [] w t e
