-- Results, lists of checks and walks through expressions that tell of no source that failed.
use Rattle.std.proofs.Common.{◌≡◌, ℕ, ◌^◌, Bool, true, false, if◌then◌else◌, List, [], ◌∷◌, ◌++◌, map, Option, Some, None, Result, Ok, Err, refl}
use Rattle.std.specs.Prelude.{nat_lt, ok_or, is_some, position}
use Rattle.std.specs.List.{AllByRecursion, flat_map}
use Rattle.cq_sql_language.specs.declared.written.AggregateFunction.{AggregateFunction}
use Rattle.cq_sql_language.specs.declared.written.ColumnName.{ColumnName}
use Rattle.cq_sql_language.specs.declared.written.AggregateFunction.TheVariants as functions
use Rattle.cq_sql_language.specs.Written.{Written, Choices, Number, Text, Date, Null, Column, Extract, CountAll, Aggregate, Parens, Negative, Times, Plus, Minus, Compare, IsNull, Between, In, Like, Not, And, Or, NoChoice, Choice}
use Rattle.cq_binder_rules.specs.declared.fault.Fault.{Fault}
use Rattle.cq_binder_rules.specs.declared.fault.Fault.TheVariants as faults
use Rattle.cq_binder_rules.specs.declared.typing.Typing.{Typing}
use Rattle.cq_binder_rules.specs.Checks.{fault_if, too_long}
use Rattle.cq_binder_rules.specs.SourceChecks.{kept_check, where_check, value_check}
use Rattle.cq_binder_rules.specs.Kinds.{◌and_then◌, unless, aggregated, number_of, negative, arithmetic, sum_of, product_of, part_of, compared_with, tested, between_them, like_of, negation_of, connected, kept_value}
use Rattle.cq_binder_rules.specs.Typing.{Scope, ScopeColumn, column_typing, fault_in, is_meant, knows, listed, of_group, one_meant, resolved, rows_in, typed}

-- whether a refusal tells that a source failed
abbrev pub is_source : Fault → Bool
is_source faults.SourceFailed = true
is_source f = false

abbrev pub tells_source : Option Fault → Bool
tells_source None = false
tells_source (Some f) = is_source f

abbrev pub fails_by_source : {A : Type 0} → Result A Fault → Bool
fails_by_source (Ok x) = false
fails_by_source (Err f) = is_source f

abbrev pub Clean : List (Option Fault) → Type 0
Clean cs = AllByRecursion (λ c. tells_source c ≡ false) cs

-- ---- Results
module _ {A : Type 0} where
  pub unless_clean : (met : Bool) (f : Fault) (x : A) → is_source f ≡ false → fails_by_source (unless met f x) ≡ false
  unless_clean true f x h = refl
  unless_clean false f x h = h

  pub branch_clean : (b : Bool) (r t : Result A Fault) → fails_by_source r ≡ false → fails_by_source t ≡ false → fails_by_source (if b then r else t) ≡ false
  branch_clean true r t h k = h
  branch_clean false r t h k = k

  pub found_clean : (o : Option A) (f : Fault) → is_source f ≡ false → fails_by_source (ok_or o f) ≡ false
  found_clean (Some x) f h = refl
  found_clean None f h = h

  pub fault_clean : (r : Result A Fault) → fails_by_source r ≡ false → tells_source (fault_in r) ≡ false
  fault_clean (Ok x) h = refl
  fault_clean (Err f) h = h

pub then_clean : {A B : Type 0} (r : Result A Fault) (f : A → Result B Fault) → fails_by_source r ≡ false → ((x : A) → fails_by_source (f x) ≡ false) → fails_by_source (r and_then f) ≡ false
then_clean (Ok x) f h k = k x
then_clean (Err e) f h k = h

-- ---- Expressions
column_clean : (s : Scope) (place : ℕ) → fails_by_source (column_typing s place) ≡ false
column_clean s place = unless_clean _ faults.AggregateMisplaced _ refl

meant_clean : (columns : List ScopeColumn) (c : ColumnName) (o : Option ℕ) → fails_by_source (one_meant columns c o) ≡ false
meant_clean columns c None = refl
meant_clean columns c (Some place) = unless_clean _ faults.AmbiguousColumn _ refl

pub resolved_clean : (columns : List ScopeColumn) (c : ColumnName) → fails_by_source (resolved columns c) ≡ false
resolved_clean columns c =
    branch_clean (knows columns c.source) (one_meant columns c (position (is_meant c) columns)) (Err faults.UnknownTable) (meant_clean columns c (position (is_meant c) columns)) refl

number_clean : (size : ℕ) → fails_by_source (number_of size) ≡ false
number_clean size = unless_clean (nat_lt size (2 ^ 127)) faults.TooWide _ refl

negative_clean : (x : Typing) → fails_by_source (negative x) ≡ false
negative_clean x = branch_clean _ (number_of x.size) (Err faults.TypeMismatch) (number_clean x.size) refl

arithmetic_clean : (x y : Typing) (size : ℕ) → fails_by_source (arithmetic x y size) ≡ false
arithmetic_clean x y size = branch_clean _ (number_of size) (Err faults.TypeMismatch) (number_clean size) refl

aggregated_clean : (function : AggregateFunction) (x : Typing) → fails_by_source (aggregated function x) ≡ false
aggregated_clean functions.Count x = unless_clean _ faults.TypeMismatch _ refl
aggregated_clean functions.CountDistinct x = unless_clean _ faults.TypeMismatch _ refl
aggregated_clean functions.Sum x = unless_clean _ faults.TypeMismatch _ refl
aggregated_clean functions.Min x = unless_clean _ faults.TypeMismatch _ refl
aggregated_clean functions.Max x = unless_clean _ faults.TypeMismatch _ refl

mutual
  pub typed_clean : (s : Scope) (w : Written) → fails_by_source (typed s w) ≡ false
  typed_clean s (Number n) = number_clean n
  typed_clean s (Text t) = unless_clean _ faults.TextTooLong _ refl
  typed_clean s (Date t) = unless_clean _ faults.BadDate _ refl
  typed_clean s Null = refl
  typed_clean s (Column c) = then_clean (resolved s.columns c) (column_typing s) (resolved_clean s.columns c) (column_clean s)
  typed_clean s (Extract part a) = then_clean (typed s a) (part_of part) (typed_clean s a) (λ x. unless_clean _ faults.TypeMismatch _ refl)
  typed_clean s CountAll = unless_clean (is_some s.grouped) faults.AggregateMisplaced _ refl
  typed_clean s (Aggregate function a) =
      then_clean (typed (rows_in s) a and_then aggregated function) (of_group s) (then_clean (typed (rows_in s) a) (aggregated function) (typed_clean (rows_in s) a) (aggregated_clean function))
      (λ x. unless_clean (is_some s.grouped) faults.AggregateMisplaced _ refl)
  typed_clean s (Parens a) = typed_clean s a
  typed_clean s (Negative a) = then_clean (typed s a) negative (typed_clean s a) negative_clean
  typed_clean s (Times a b) = then_clean (typed s a) _ (typed_clean s a) (λ x. then_clean (typed s b) (product_of x) (typed_clean s b) (λ y. arithmetic_clean x y _))
  typed_clean s (Plus a b) = then_clean (typed s a) _ (typed_clean s a) (λ x. then_clean (typed s b) (sum_of x) (typed_clean s b) (λ y. arithmetic_clean x y _))
  typed_clean s (Minus a b) = then_clean (typed s a) _ (typed_clean s a) (λ x. then_clean (typed s b) (sum_of x) (typed_clean s b) (λ y. arithmetic_clean x y _))
  typed_clean s (Compare c a b) = then_clean (typed s a) _ (typed_clean s a) (λ x. then_clean (typed s b) (compared_with x) (typed_clean s b) (λ y. unless_clean _ faults.TypeMismatch _ refl))
  typed_clean s (IsNull negated a) = then_clean (typed s a) tested (typed_clean s a) (λ x. unless_clean _ faults.TypeMismatch _ refl)
  typed_clean s (Between negated a least greatest) =
      then_clean (typed s a) _ (typed_clean s a)
      (λ x. then_clean (typed s least) _ (typed_clean s least) (λ l. then_clean (typed s greatest) (between_them x l) (typed_clean s greatest) (λ g. unless_clean _ faults.TypeMismatch _ refl)))
  typed_clean s (In negated a bs) = then_clean (typed s a) _ (typed_clean s a) (λ x. listed_clean s x true bs)
  typed_clean s (Like negated a pattern) =
      then_clean (typed s a) _ (typed_clean s a) (λ x. then_clean (typed s (Text pattern)) (like_of x) (unless_clean _ faults.TextTooLong _ refl) (λ y. unless_clean _ faults.TypeMismatch _ refl))
  typed_clean s (Not a) = then_clean (typed s a) negation_of (typed_clean s a) (λ x. unless_clean _ faults.TypeMismatch _ refl)
  typed_clean s (And a b) = then_clean (typed s a) _ (typed_clean s a) (λ x. then_clean (typed s b) (connected x) (typed_clean s b) (λ y. unless_clean _ faults.TypeMismatch _ refl))
  typed_clean s (Or a b) = then_clean (typed s a) _ (typed_clean s a) (λ x. then_clean (typed s b) (connected x) (typed_clean s b) (λ y. unless_clean _ faults.TypeMismatch _ refl))

  listed_clean : (s : Scope) (x : Typing) (all_agree : Bool) (bs : Choices) → fails_by_source (listed s x all_agree bs) ≡ false
  listed_clean s x all_agree NoChoice = unless_clean all_agree faults.TypeMismatch _ refl
  listed_clean s x all_agree (Choice b bs) = then_clean (typed s b) _ (typed_clean s b) (λ y. listed_clean s x _ bs)

pub value_clean : (s : Scope) (w : Written) → tells_source (value_check s w) ≡ false
value_clean s w = fault_clean _ (then_clean (typed s w) tested (typed_clean s w) (λ x. unless_clean _ faults.TypeMismatch _ refl))

pub where_clean : (s : Scope) (o : Option Written) → tells_source (where_check s o) ≡ false
where_clean s None = refl
where_clean s (Some w) = fault_clean _ (then_clean (typed s w) negation_of (typed_clean s w) (λ x. unless_clean _ faults.TypeMismatch _ refl))

pub kept_clean : (s : Scope) (w : Written) → tells_source (kept_check s w) ≡ false
kept_clean s w = fault_clean _ (then_clean (typed s w) kept_value (typed_clean s w) (λ x. unless_clean _ faults.TypeMismatch _ refl))

-- ---- Lists of checks
pub if_clean : (b : Bool) (f : Fault) → is_source f ≡ false → tells_source (fault_if b f) ≡ false
if_clean true f h = h
if_clean false f h = refl

pub either_clean : (b : Bool) (c d : Option Fault) → tells_source c ≡ false → tells_source d ≡ false → tells_source (if b then c else d) ≡ false
either_clean true c d h k = h
either_clean false c d h k = k

pub both_clean : (cs ds : List (Option Fault)) → Clean cs → Clean ds → Clean (cs ++ ds)
both_clean [] ds h k = k
both_clean (c ∷ cs) ds h k = (h.0, both_clean cs ds h.1 k)

pub map_clean : {X : Type 0} (f : X → Option Fault) → ((x : X) → tells_source (f x) ≡ false) → (xs : List X) → Clean (map f xs)
map_clean f h [] = tt
map_clean f h (x ∷ xs) = (h x, map_clean f h xs)

pub flat_clean : {X : Type 0} (f : X → List (Option Fault)) → ((x : X) → Clean (f x)) → (xs : List X) → Clean (flat_map f xs)
flat_clean f h [] = tt
flat_clean f h (x ∷ xs) = both_clean (f x) (flat_map f xs) (h x) (flat_clean f h xs)

pub long_clean : (entries : ℕ) → tells_source (too_long entries) ≡ false
long_clean entries = if_clean (nat_lt 64 entries) faults.LimitExceeded refl
