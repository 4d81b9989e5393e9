-- What a step of the walk says that was passed: how large its value is, and where the column stands that it names.
use Rattle.std.proofs.Common.{arith, ◌≡◌, ℕ, ◌+◌, ◌<◌, ◌≤◌, ◌^◌, Bool, true, false, ℤ, sym, subst, List, [], ◌∷◌, length, Option, Some, None, Result, Ok, Err, refl, ap}
use Rattle.std.specs.Prelude.{nat_lt, ◌&&◌, if◌then◌else◌, drop, not, position, unwrap_or}
use Rattle.std.specs.List.{list_any}
use Rattle.std.proofs.lemmas.Bool.{ltb-true}
use Rattle.std.proofs.lemmas.List.Quantifiers.{position-Some}
use Rattle.cq_values.specs.Dates.{day_named}
use Rattle.cq_values.specs.declared.ty.Ty.TheVariants as types
use Rattle.cq_values.specs.declared.value.Value.TheVariants as values
use Rattle.cq_values.specs.declared.day_part.DayPart.{DayPart}
use Rattle.cq_sql_language.specs.declared.written.ColumnName.{ColumnName}
use Rattle.cq_model.specs.Expr.{Cond}
use Rattle.cq_binder_rules.specs.Placed.{named_day, turned, written_number}
use Rattle.cq_model.specs.Width.{part_limit, value_size, widest_in}
use Rattle.cq_binder_rules.specs.declared.fault.Fault.{Fault}
use Rattle.cq_binder_rules.specs.declared.fault.Fault.TheVariants.{AmbiguousColumn, TooWide, TypeMismatch, UnknownTable}
use Rattle.cq_binder_rules.specs.declared.typing.Typing.{Typing}
use Rattle.cq_binder_rules.specs.Kinds.{arithmetic, is_of, negative, number_of, part_of, unless, value_of}
use Rattle.cq_binder_rules.specs.Typing.{Scope, ScopeColumn, is_meant, knows, one_meant, resolved}
use Rattle.cq_binder_rules.specs.Places.{row_place}

-- a test that was passed
pub if_ok : {A : Type 0} (b : Bool) (r : Result A Fault) (f : Fault) (x : A) → (if b then r else Err f) ≡ Ok x → r ≡ Ok x
if_ok true r f x e = e
if_ok false r f x e = absurd (cc e)

-- what stands is what was to stand
pub unless_ok : {A : Type 0} (b : Bool) (f : Fault) (x y : A) → unless b f x ≡ Ok y → (b ≡ true) × (y ≡ x)
unless_ok true f x y e = (refl, cc e)
unless_ok false f x y e = absurd (cc e)

-- a number that stands is below 2^127
pub is_number : (n : ℕ) (t : Typing) → number_of n ≡ Ok t → (n < 2 ^ 127) × (t.size ≡ n)
is_number n t e =
    let p = unless_ok (nat_lt n (2 ^ 127)) TooWide (value_of types.Integer n) t e in
    (ltb-true n (2 ^ 127) p.0, ap (λ (x : Typing). x.size) p.1)

-- so is minus of a number
pub is_negative : (x t : Typing) → negative x ≡ Ok t → (x.size < 2 ^ 127) × (t.size ≡ x.size)
is_negative x t e = is_number x.size t (if_ok (is_of types.Integer x.kind) (number_of x.size) TypeMismatch t e)

-- and what was worked out of two numbers
pub is_arithmetic : (x y : Typing) (n : ℕ) (t : Typing) → arithmetic x y n ≡ Ok t → (n < 2 ^ 127) × (t.size ≡ n)
is_arithmetic x y n t e = is_number n t (if_ok (is_of types.Integer x.kind && is_of types.Integer y.kind) (number_of n) TypeMismatch t e)

-- a part of a day is no larger than the greatest
pub is_part : (part : DayPart) (x t : Typing) → part_of part x ≡ Ok t → t.size ≡ part_limit part
is_part part x t e = ap (λ (y : Typing). y.size) (unless_ok (is_of types.Date x.kind) TypeMismatch (value_of types.Integer (part_limit part)) t e).1

-- a whole number is as large as it is written, where it is not too wide
pub number_size : (n : ℕ) → value_size (written_number n) ≤ n
number_size n = grind arith

-- a day has no size
no_size : (d : Option ℤ) → value_size (elim d [ None ↦ values.Null | Some n ↦ values.Day n ]) ≡ 0
no_size None = refl
no_size (Some n) = refl

pub day_size : (t : List ℕ) → value_size (named_day t) ≡ 0
day_size t = no_size (day_named t)

-- NOT makes nothing wider
pub widest-turned : (negated : Bool) (c : Cond) (sizes : ℕ → ℕ) → widest_in (turned negated c) sizes ≡ widest_in c sizes
widest-turned true c sizes = refl
widest-turned false c sizes = refl

module _ (s : Scope) where
  -- the place of a name that means one column is where it stands
  meant_at : (c : ColumnName) (o : Option ℕ) (place : ℕ) → one_meant s.columns c o ≡ Ok place → unwrap_or o 0 ≡ place
  meant_at c None place e = absurd (cc e)
  meant_at c (Some i) place e =
      sym (unless_ok {A = ℕ} (not (list_any (is_meant c) (drop (i + 1) s.columns))) AmbiguousColumn i place e).1

  -- it is one of the columns
  found_within : (columns : List ScopeColumn) (c : ColumnName) (i : ℕ) → position (is_meant c) columns ≡ Some i → i < length columns
  found_within [] c i at = absurd (cc at)
  found_within (d ∷ columns) c i at = (position-Some (is_meant c) (d ∷ columns) i d at).0

  meant_within : (c : ColumnName) (o : Option ℕ) (place : ℕ) → position (is_meant c) s.columns ≡ o → one_meant s.columns c o ≡ Ok place → place < length s.columns
  meant_within c None place at e = absurd (cc e)
  meant_within c (Some i) place at e =
      let same : place ≡ i = (unless_ok {A = ℕ} (not (list_any (is_meant c) (drop (i + 1) s.columns))) AmbiguousColumn i place e).1 in
      subst (λ (n : ℕ). n < length s.columns) (sym same) (found_within s.columns c i at)

  pub resolved_within : (c : ColumnName) (place : ℕ) → resolved s.columns c ≡ Ok place → place < length s.columns
  resolved_within c place e =
      meant_within c (position (is_meant c) s.columns) place refl
      (if_ok (knows s.columns c.source) (one_meant s.columns c (position (is_meant c) s.columns)) UnknownTable place e)

  pub resolved_at : (c : ColumnName) (place : ℕ) → resolved s.columns c ≡ Ok place → row_place s.columns c ≡ place
  resolved_at c place e =
      meant_at c (position (is_meant c) s.columns) place
      (if_ok (knows s.columns c.source) (one_meant s.columns c (position (is_meant c) s.columns)) UnknownTable place e)
