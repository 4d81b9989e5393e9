-- Each test of two parts of queries passes exactly where they are one.
use Rattle.std.proofs.Common.{◌≡◌, ℕ, Bool, true, false, List, Some, None, Ordering, Less, Equal, Greater, refl, ap, ap₂, subst}
use Rattle.std.specs.Prelude.{◌&&◌, ◌==◌, nat_eq, Option}
use Rattle.std.specs.Bool.{Decides}
use Rattle.std.specs.Cmp.Lexicographic.{pointwise, pointwise_decides, bytes_decides}
use Rattle.std.specs.Option.{option_eq}
use Rattle.std.specs.Ordering.{is_eq}
use Rattle.std.proofs.lemmas.Bool.{eqb-true, eq-eqb}
use Rattle.std.proofs.lemmas.Cmp.{tied_itself}
use Rattle.cq_values.specs.Keys.{value_cmp_same, value_cmp_total}
use Rattle.cq_values.specs.Order.{value_cmp}
use Rattle.cq_values.specs.declared.comparison.Comparison.{Comparison}
use Rattle.cq_values.specs.declared.comparison.Comparison.TheVariants as comparison
use Rattle.cq_values.specs.declared.day_part.DayPart.{DayPart}
use Rattle.cq_values.specs.declared.day_part.DayPart.TheVariants as part
use Rattle.cq_values.specs.declared.value.Value.{Value}
use Rattle.cq_model.specs.Expr.{Expr, Column, Literal, Negate, Plus, Times, Extract, Cond, Compare, IsNull, Between, In, Like, Not, And, Or}
use Rattle.cq_model.specs.Sources.{same_source}
use Rattle.cq_model.specs.declared.query.Aggregate.{Aggregate}
use Rattle.cq_model.specs.declared.query.Aggregate.TheVariants.{CountAll, Count, CountDistinct, Sum, Min, Max}
use Rattle.cq_model.specs.declared.query.Equality.{Equality}
use Rattle.cq_model.specs.declared.query.Join.{Join}
use Rattle.cq_model.specs.declared.query.Source.{Source}
use Rattle.cq_model.specs.declared.query.Source.TheVariants.{Table, View}
use Rattle.cq_model_core.specs.Core.{same_equality, same_join}
use Rattle.cq_model_core.specs.Same.{same_aggregate, same_comparison, same_cond, same_expr, same_part, same_value}

-- ---- Tests that pass together
pub both_true : (a b : Bool) → (a && b) ≡ true → (a ≡ true) × (b ≡ true)
both_true true b h = (refl, h)
both_true false b h = absurd (cc h)

-- a test that only equals pass, and each with itself
abbrev told : {K : Type 0} (E : K → K → Bool) → ((a b : K) → E a b ≡ true → a ≡ b) → ((a : K) → E a a ≡ true) → (a b : K) → Decides (E a b) (a ≡ b)
told E is itself a b = (is a b, λ e. subst (λ c. E a c ≡ true) e (itself a))

-- ---- Numbers, values, parts of days and comparisons
number_told : (m n : ℕ) → Decides (nat_eq m n) (m ≡ n)
number_told m n = (eqb-true m n, eq-eqb m n)

is_tie : (o : Ordering) → is_eq o ≡ true → o ≡ Equal
is_tie Less e = absurd (cc e)
is_tie Equal e = refl
is_tie Greater e = absurd (cc e)

value_is : (v w : Value) → same_value v w ≡ true → v ≡ w
value_is v w h = value_cmp_same v w (is_tie (value_cmp v w) h)

value_itself : (v : Value) → same_value v v ≡ true
value_itself v = ap is_eq (tied_itself value_cmp_total v)

part_is : (p q : DayPart) → same_part p q ≡ true → p ≡ q
part_is part.Year part.Year h = refl
part_is part.Month part.Month h = refl
part_is part.Day part.Day h = refl
part_is p q h = absurd (cc h)

part_itself : (p : DayPart) → same_part p p ≡ true
part_itself part.Year = refl
part_itself part.Month = refl
part_itself part.Day = refl

comparison_is : (c d : Comparison) → same_comparison c d ≡ true → c ≡ d
comparison_is comparison.Equal comparison.Equal h = refl
comparison_is comparison.NotEqual comparison.NotEqual h = refl
comparison_is comparison.Less comparison.Less h = refl
comparison_is comparison.LessOrEqual comparison.LessOrEqual h = refl
comparison_is comparison.Greater comparison.Greater h = refl
comparison_is comparison.GreaterOrEqual comparison.GreaterOrEqual h = refl
comparison_is c d h = absurd (cc h)

comparison_itself : (c : Comparison) → same_comparison c c ≡ true
comparison_itself comparison.Equal = refl
comparison_itself comparison.NotEqual = refl
comparison_itself comparison.Less = refl
comparison_itself comparison.LessOrEqual = refl
comparison_itself comparison.Greater = refl
comparison_itself comparison.GreaterOrEqual = refl

-- ---- Expressions
expr_is : (a b : Expr) → same_expr a b ≡ true → a ≡ b
expr_is (Column i) (Column j) h = ap Column (eqb-true i j h)
expr_is (Literal v) (Literal w) h = ap Literal (value_is v w h)
expr_is (Negate a) (Negate b) h = ap Negate (expr_is a b h)
expr_is (Plus a b) (Plus c d) h = let p = both_true (same_expr a c) (same_expr b d) h in ap₂ Plus (expr_is a c p.0) (expr_is b d p.1)
expr_is (Times a b) (Times c d) h = let p = both_true (same_expr a c) (same_expr b d) h in ap₂ Times (expr_is a c p.0) (expr_is b d p.1)
expr_is (Extract p a) (Extract q b) h = let t = both_true (same_part p q) (same_expr a b) h in ap₂ Extract (part_is p q t.0) (expr_is a b t.1)
expr_is a b h = absurd (cc h)

expr_itself : (a : Expr) → same_expr a a ≡ true
expr_itself (Column i) = eq-eqb i i refl
expr_itself (Literal v) = value_itself v
expr_itself (Negate a) = expr_itself a
expr_itself (Plus a b) = ap₂ (λ s t. s && t) (expr_itself a) (expr_itself b)
expr_itself (Times a b) = ap₂ (λ s t. s && t) (expr_itself a) (expr_itself b)
expr_itself (Extract p a) = ap₂ (λ s t. s && t) (part_itself p) (expr_itself a)

pub expr_told : (a b : Expr) → Decides (same_expr a b) (a ≡ b)
expr_told = told same_expr expr_is expr_itself

-- ---- Conditions
cond_is : (a b : Cond) → same_cond a b ≡ true → a ≡ b
cond_is (Compare c a b) (Compare d e f) h =
    let p = both_true (same_comparison c d) _ h in
    let q = both_true (same_expr a e) (same_expr b f) p.1 in
    λ i. Compare (comparison_is c d p.0 i) (expr_is a e q.0 i) (expr_is b f q.1 i)
cond_is (IsNull a) (IsNull b) h = ap IsNull (expr_is a b h)
cond_is (Between a b c) (Between d e f) h =
    let p = both_true (same_expr a d) _ h in
    let q = both_true (same_expr b e) (same_expr c f) p.1 in
    λ i. Between (expr_is a d p.0 i) (expr_is b e q.0 i) (expr_is c f q.1 i)
cond_is (In a cs) (In b ds) h =
    let p = both_true (same_expr a b) _ h in ap₂ In (expr_is a b p.0) ((pointwise_decides expr_told cs ds).0 p.1)
cond_is (Like a p) (Like b q) h =
    let t = both_true (same_expr a b) _ h in ap₂ Like (expr_is a b t.0) ((bytes_decides p q).0 t.1)
cond_is (Not a) (Not b) h = ap Not (cond_is a b h)
cond_is (And a b) (And c d) h = let p = both_true (same_cond a c) (same_cond b d) h in ap₂ And (cond_is a c p.0) (cond_is b d p.1)
cond_is (Or a b) (Or c d) h = let p = both_true (same_cond a c) (same_cond b d) h in ap₂ Or (cond_is a c p.0) (cond_is b d p.1)
cond_is a b h = absurd (cc h)

cond_itself : (a : Cond) → same_cond a a ≡ true
cond_itself (Compare c a b) = ap₂ (λ s t. s && t) (comparison_itself c) (ap₂ (λ s t. s && t) (expr_itself a) (expr_itself b))
cond_itself (IsNull a) = expr_itself a
cond_itself (Between a b c) = ap₂ (λ s t. s && t) (expr_itself a) (ap₂ (λ s t. s && t) (expr_itself b) (expr_itself c))
cond_itself (In a cs) = ap₂ (λ s t. s && t) (expr_itself a) ((pointwise_decides expr_told cs cs).1 refl)
cond_itself (Like a p) = ap₂ (λ s t. s && t) (expr_itself a) ((bytes_decides p p).1 refl)
cond_itself (Not a) = cond_itself a
cond_itself (And a b) = ap₂ (λ s t. s && t) (cond_itself a) (cond_itself b)
cond_itself (Or a b) = ap₂ (λ s t. s && t) (cond_itself a) (cond_itself b)

-- ---- Aggregates
aggregate_is : (a b : Aggregate) → same_aggregate a b ≡ true → a ≡ b
aggregate_is CountAll CountAll h = refl
aggregate_is (Count a) (Count b) h = ap Count (expr_is a b h)
aggregate_is (CountDistinct a) (CountDistinct b) h = ap CountDistinct (expr_is a b h)
aggregate_is (Sum a) (Sum b) h = ap Sum (expr_is a b h)
aggregate_is (Min a) (Min b) h = ap Min (expr_is a b h)
aggregate_is (Max a) (Max b) h = ap Max (expr_is a b h)
aggregate_is a b h = absurd (cc h)

aggregate_itself : (a : Aggregate) → same_aggregate a a ≡ true
aggregate_itself CountAll = refl
aggregate_itself (Count a) = expr_itself a
aggregate_itself (CountDistinct a) = expr_itself a
aggregate_itself (Sum a) = expr_itself a
aggregate_itself (Min a) = expr_itself a
aggregate_itself (Max a) = expr_itself a

pub aggregate_told : (a b : Aggregate) → Decides (same_aggregate a b) (a ≡ b)
aggregate_told = told same_aggregate aggregate_is aggregate_itself

-- ---- Sources and joins
pub source_is : (s t : Source) → same_source s t ≡ true → s ≡ t
source_is (Table m) (Table n) h = ap Table (eqb-true m n h)
source_is (View m) (View n) h = ap View (eqb-true m n h)
source_is s t h = absurd (cc h)

pub source_itself : (s : Source) → same_source s s ≡ true
source_itself (Table n) = eq-eqb n n refl
source_itself (View n) = eq-eqb n n refl

equality_is : (e f : Equality) → same_equality e f ≡ true → e ≡ f
equality_is e f h =
    let p = both_true (e.left == f.left) (e.right == f.right) h in
    λ i. record { left = eqb-true e.left f.left p.0 i; right = eqb-true e.right f.right p.1 i }

equality_itself : (e : Equality) → same_equality e e ≡ true
equality_itself e = ap₂ (λ s t. s && t) (eq-eqb e.left e.left refl) (eq-eqb e.right e.right refl)

equality_told : (e f : Equality) → Decides (same_equality e f) (e ≡ f)
equality_told = told same_equality equality_is equality_itself

join_is : (j k : Join) → same_join j k ≡ true → j ≡ k
join_is j k h =
    let p = both_true (same_source j.source k.source) _ h in
    λ i. record { source = source_is j.source k.source p.0 i; on = (pointwise_decides equality_told j.on k.on).0 p.1 i }

join_itself : (j : Join) → same_join j j ≡ true
join_itself j = ap₂ (λ s t. s && t) (source_itself j.source) ((pointwise_decides equality_told j.on j.on).1 refl)

pub join_told : (j k : Join) → Decides (same_join j k) (j ≡ k)
join_told = told same_join join_is join_itself

-- ---- What may be absent
option_is : {K : Type 0} (E : K → K → Bool) → ((a b : K) → Decides (E a b) (a ≡ b)) → (o p : Option K) → option_eq E o p ≡ true → o ≡ p
option_is E each None None h = refl
option_is E each None (Some b) h = absurd (cc h)
option_is E each (Some a) None h = absurd (cc h)
option_is E each (Some a) (Some b) h = ap Some ((each a b).0 h)

option_itself : {K : Type 0} (E : K → K → Bool) → ((a b : K) → Decides (E a b) (a ≡ b)) → (o : Option K) → option_eq E o o ≡ true
option_itself E each None = refl
option_itself E each (Some a) = (each a a).1 refl

pub option_told : {K : Type 0} (E : K → K → Bool) → ((a b : K) → Decides (E a b) (a ≡ b)) → (o p : Option K) → Decides (option_eq E o p) (o ≡ p)
option_told E each = told (option_eq E) (option_is E each) (option_itself E each)

pub filter_told : (o p : Option Cond) → Decides (option_eq same_cond o p) (o ≡ p)
filter_told = option_told same_cond (told same_cond cond_is cond_itself)

pub keys_told : (o p : Option (List ℕ)) → Decides (option_eq (pointwise nat_eq) o p) (o ≡ p)
keys_told = option_told (pointwise nat_eq) (pointwise_decides number_told)
