-- MIN and MAX are the ends of the values that are counted.
use Rattle.std.proofs.Common.{◌≡◌, ℤ, pos, int_lt, Bool, true, false, not, List, [], ◌∷◌, ◌++◌, reverse, length, Option, None, Some, refl, sym, ◌∙◌, ap, subst, arith, ◌⊎◌, inl, inr, true≢false, Less}
use Rattle.std.specs.Ordering.{is_gt}
use Rattle.std.specs.Option.{option_map}
use Rattle.std.specs.List.{AllByRecursion, find}
use Rattle.std.specs.List.Sorted.{IsStrictlySortedBy}
use Rattle.std.specs.Map.{keys_of, lookup}
use Rattle.std.proofs.Math.IntN.{+ℤ_idl}
use Rattle.std.proofs.lemmas.Int.{ints}
use Rattle.std.proofs.lemmas.List.{reverse-append}
use Rattle.std.proofs.lemmas.Map.Keys.{sorted_head, sorted_tail}
use Rattle.std.specs.Map.Iter.{TakesLast}
use Rattle.std.specs.declared.iter.Rev.{Rev}
use Rattle.std.specs.Iterator.Adapters.{rev_source, rev_steps}
use Rattle.std.proofs.lemmas.Iterator.{YieldsList}
use Rattle.std.proofs.lemmas.Iterator.Consumers.{YieldsList-from_shown}
use Rattle.cq_values.specs.declared.value.Value.{Value}
use Rattle.cq_values.specs.declared.value.Value.TheVariants.{Null}
use Rattle.cq_values.specs.Value.{Row, column}
use Rattle.cq_values.specs.Order.{value_cmp, same_row}
use Rattle.cq_values.specs.Keys.{same_row-refl, same_row-same, same_row-equiv}
use Rattle.cq_model.specs.Condition.{is_null}
use Rattle.cq_model.specs.Group.{extreme, extreme_of, lower, higher}
use Rattle.cq_model_bags.specs.Bag.{Weighted, weight_of, SameBag, distinct_rows}
use Rattle.cq_model_bags.proofs.Totals.{by_test}
use Rattle.cq_model_bags.proofs.Bags.{same-sym}
use Rattle.cq_model_bags.proofs.Distincts.{is_among-distinct}
use Rattle.cq_model_laws.proofs.Groups.{kept_values-respect}
use Rattle.cq_deltas.specs.Extremes.{AreCounts, IsExtreme, alone, as_rows, held_of}
use Rattle.cq_deltas.proofs.Lookups.{Entries, listed, is_value, absent, at-first, at-rest, less-apart, listed-weight, nonzero-same, null-apart, some-none, value-itself}
use Rattle.cq_model.proofs.Occurring.{kept_values, row-from-test, row-to-test, value-from-rows, value-to-rows}
use Rattle.cq_model.proofs.Extremes.{IsChoice, IsDownTo, IsOne, IsUpTo, extreme-best, extreme-one, extreme-same, higher-choice, lower-choice, up_to-itself}
use Rattle.cq_model.proofs.Conditions.{null-value}

-- whether a value is counted
abbrev pub is_there : Value × ℤ → Bool
is_there e = int_lt (pos 0) e.1

-- a value is one of those that are counted
abbrev pub IsThere : Value → Entries → Type 0
IsThere v [] = ⊥
IsThere v (e ∷ es) = ((v ≡ e.0) × (is_there e ≡ true)) ⊎ IsThere v es

-- what holds of all values holds of those that are counted
all-there : (P : Value → Type 0) (es : Entries) (v : Value) → AllByRecursion P (keys_of es) → IsThere v es → P v
all-there P [] v h t = absurd t
all-there P (e ∷ es) v h (inl p) = subst P (sym p.0) h.0
all-there P (e ∷ es) v h (inr t) = all-there P es v h.1 t

-- ---- the counted values are those of positive weight
weight-there : (es : Entries) (r : Row) → IsStrictlySortedBy value_cmp (keys_of es) → int_lt (pos 0) (weight_of (as_rows es) r) ≡ true → (v : Value) × (r ≡ alone v) × IsThere v es
weight-there [] r sorted h = absurd (cc)
weight-there (e ∷ es) r sorted h = by_test (same_row (alone e.0) r)
    (λ k. let one : alone e.0 ≡ r = same_row-same (alone e.0) r k in
    let none : weight_of (as_rows es) r ≡ pos 0 = ap (weight_of (as_rows es)) (sym one) ∙ absent e.0 es (sorted_head value_cmp e.0 (keys_of es) sorted) in
    let all : weight_of (as_rows (e ∷ es)) r ≡ e.1 = rw (k, none) (omega (arith, ints)) in
    (e.0, sym one, inl (refl, sym (ap (int_lt (pos 0)) all) ∙ h)))
    (λ k. let all : weight_of (as_rows (e ∷ es)) r ≡ weight_of (as_rows es) r = rw k (+ℤ_idl _) in
    let q = weight-there es r (sorted_tail value_cmp e.0 (keys_of es) sorted) (sym (ap (int_lt (pos 0)) all) ∙ h) in
    (q.0, q.1, inr q.2))

there-weight : (es : Entries) (v : Value) → IsStrictlySortedBy value_cmp (keys_of es) → IsThere v es → int_lt (pos 0) (weight_of (as_rows es) (alone v)) ≡ true
there-weight [] v sorted t = absurd t
there-weight (e ∷ es) v sorted (inl p) =
    let none : weight_of (as_rows es) (alone e.0) ≡ pos 0 = absent e.0 es (sorted_head value_cmp e.0 (keys_of es) sorted) in
    let all : weight_of (as_rows (e ∷ es)) (alone e.0) ≡ e.1 = rw (same_row-refl (alone e.0), none) (omega (arith, ints)) in
    rw p.0 (ap (int_lt (pos 0)) all ∙ p.1)
there-weight (e ∷ es) v sorted (inr t) =
    let other = less-apart e.0 v (all-there (λ y. value_cmp e.0 y ≡ Less) es v (sorted_head value_cmp e.0 (keys_of es) sorted) t) in
    let all : weight_of (as_rows (e ∷ es)) (alone v) ≡ weight_of (as_rows es) (alone v) = rw other (+ℤ_idl _) in
    ap (int_lt (pos 0)) all ∙ there-weight es v (sorted_tail value_cmp e.0 (keys_of es) sorted) t

null-there : (es : Entries) → lookup (is_value Null) es ≡ None → IsThere Null es → ⊥
null-there [] none t = t
null-there (x ∷ es) none (inl p) = some-none x.1 (at-first Null x es None none (ap (is_value Null) (sym p.0) ∙ value-itself Null))
null-there (x ∷ es) none (inr t) = by_test (is_value Null x.0)
    (λ k. some-none x.1 (at-first Null x es None none k))
    (λ k. null-there es (at-rest Null x es None none k) t)

there-some : (es : Entries) (v : Value) → lookup (is_value Null) es ≡ None → IsThere v es → is_null v ≡ false
there-some es v none t = by_test (is_null v)
    (λ k. absurd (null-there es none (subst (λ (w : Value). IsThere w es) (null-value v k) t)))
    (λ k. k)

-- ---- so they are the values of which extremes are taken
abbrev pub values_in : Weighted → List Value
values_in bag = kept_values (λ r. column r 0) (λ v. not (is_null v)) (distinct_rows bag)

module _ (es : Entries) (n : ℤ) (a : AreCounts es) where
  values-there : (v : Value) → IsOne v (values_in (listed es n)) → IsThere v es
  values-there v h =
      let q = value-from-rows (λ r. column r 0) (λ w. not (is_null w)) (distinct_rows (listed es n)) v h in
      let there : int_lt (pos 0) (weight_of (listed es n) q.0) ≡ true = sym (is_among-distinct (listed es n) q.0) ∙ row-to-test q.0 (distinct_rows (listed es n)) q.1 in
      by_test (same_row (alone Null) q.0)
      (λ k. let null : Null ≡ v = ap (λ (r : Row). column r 0) (same_row-same (alone Null) q.0 k) ∙ q.2 in
      absurd (true≢false (sym q.3 ∙ ap (λ (w : Value). not (is_null w)) (sym null))))
      (λ k. let t = weight-there es q.0 a.ordered (sym (ap (int_lt (pos 0)) (listed-weight es n q.0 k)) ∙ there) in
      subst (λ (w : Value). IsThere w es) (sym (ap (λ (r : Row). column r 0) t.1) ∙ q.2) t.2)

  there-values : (v : Value) → IsThere v es → IsOne v (values_in (listed es n))
  there-values v t =
      let known = there-some es v a.known t in
      let apart = same_row-equiv.symm (alone Null) (alone v) ∙ null-apart v known in
      let there = is_among-distinct (listed es n) (alone v) ∙ ap (int_lt (pos 0)) (listed-weight es n (alone v) apart) ∙ there-weight es v a.ordered t in
      value-to-rows (λ r. column r 0) (λ w. not (is_null w)) (distinct_rows (listed es n)) (alone v) (row-from-test (alone v) (distinct_rows (listed es n)) there) (ap not known)

-- ---- extremes
module _ {best : Value → Value → Value} {R : Value → Value → Type 0} (c : IsChoice best R) where
  extreme-is : (vs : List Value) (v : Value) → IsOne v vs → ((u : Value) → IsOne u vs → R v u) → extreme best vs ≡ v
  extreme-is [] v h f = absurd h
  extreme-is (w ∷ ws) v h f = c.same (extreme best (w ∷ ws)) v (extreme-best c w ws v h) (f (extreme best (w ∷ ws)) (extreme-one c w ws))

  extreme-none : (vs : List Value) → ((u : Value) → IsOne u vs → ⊥) → extreme best vs ≡ Null
  extreme-none [] f = refl
  extreme-none (w ∷ ws) f = absurd (f w (inl refl))

  -- an extreme depends on the bag alone
  extreme_of-same : (xs ys : Weighted) → SameBag xs ys → extreme_of best xs ≡ extreme_of best ys
  extreme_of-same xs ys s = extreme-same c (values_in xs) (values_in ys)
      (kept_values-respect (λ r. column r 0) (λ v. not (is_null v)) xs ys s)
      (kept_values-respect (λ r. column r 0) (λ v. not (is_null v)) ys xs (same-sym xs ys s))

-- an end of the counted values in an order, and none where none is counted
abbrev pub IsEnd : (Value → Value → Type 0) → Entries → Option (Value × ℤ) → Type 0
IsEnd R es None = (u : Value) → IsThere u es → ⊥
IsEnd R es (Some e) = IsThere e.0 es × ((u : Value) → IsThere u es → R e.0 u)

-- the value of an end is the extreme
module _ {best : Value → Value → Value} {R : Value → Value → Type 0} (c : IsChoice best R) (es : Entries) (n : ℤ) (a : AreCounts es) where
  same-listed : (bag : Weighted) → SameBag (held_of es n).values bag → SameBag bag (listed es n)
  same-listed bag same = record { at = λ r. sym (same.at r) ∙ (nonzero-same (listed es n)).at r }

  pub end-extreme : (o : Option (Value × ℤ)) → IsEnd R es o → IsExtreme best (held_of es n).values (option_map (λ e. e.0) o)
  end-extreme None end = record {
    value = extreme_of-same c (held_of es n).values (listed es n) (nonzero-same (listed es n)) ∙ extreme-none c (values_in (listed es n)) (λ u h. end u (values-there es n a u h));
    of_bag = λ bag same.
        extreme_of-same c bag (listed es n) (same-listed bag same)
        ∙ extreme-none c (values_in (listed es n)) (λ u h. end u (values-there es n a u h));
    known = tt;
  }
  end-extreme (Some e) end = record {
    value =
        extreme_of-same c (held_of es n).values (listed es n) (nonzero-same (listed es n))
        ∙ extreme-is c (values_in (listed es n)) e.0 (there-values es n a e.0 end.0) (λ u h. end.1 u (values-there es n a u h));
    of_bag = λ bag same.
        extreme_of-same c bag (listed es n) (same-listed bag same)
        ∙ extreme-is c (values_in (listed es n)) e.0 (there-values es n a e.0 end.0) (λ u h. end.1 u (values-there es n a u h));
    known = there-some es e.0 a.known end.0;
  }

-- ---- the first and the last that are counted
not-there : (x : Value × ℤ) (es : Entries) → is_there x ≡ false → (u : Value) → IsThere u (x ∷ es) → IsThere u es
not-there x es k u (inl p) = absurd (true≢false (sym p.1 ∙ k))
not-there x es k u (inr t) = t

-- an entry that is not counted leaves the end
more : (R : Value → Value → Type 0) (x : Value × ℤ) (es : Entries) (o : Option (Value × ℤ)) → is_there x ≡ false → IsEnd R es o → IsEnd R (x ∷ es) o
more R x es None k end = λ u t. end u (not-there x es k u t)
more R x es (Some e) k end = (inr end.0, λ u t. end.1 u (not-there x es k u t))

-- the first value is not after another
first-best : (x : Value × ℤ) (es : Entries) → AllByRecursion (λ y. value_cmp x.0 y ≡ Less) (keys_of es) → (u : Value) → IsThere u (x ∷ es) → IsUpTo x.0 u
first-best x es head u (inl p) = subst (λ (w : Value). IsUpTo x.0 w) (sym p.0) (up_to-itself x.0)
first-best x es head u (inr t) = ap is_gt (all-there (λ y. value_cmp x.0 y ≡ Less) es u head t)

pub first-end : (es : Entries) → IsStrictlySortedBy value_cmp (keys_of es) → IsEnd IsUpTo es (find is_there es)
first-end [] sorted = λ u t. t
first-end (x ∷ es) sorted = by_test (is_there x)
    (λ k. rw k (inl (refl, k), first-best x es (sorted_head value_cmp x.0 (keys_of es) sorted)))
    (λ k. rw k (more IsUpTo x es (find is_there es) k (first-end es (sorted_tail value_cmp x.0 (keys_of es) sorted))))

-- what is found last with an entry in front
abbrev found_last : Value × ℤ → Option (Value × ℤ) → Option (Value × ℤ)
found_last x None = find is_there (x ∷ [])
found_last x (Some e) = Some e

find-append : (xs : Entries) (x : Value × ℤ) → find is_there (xs ++ x ∷ []) ≡ found_last x (find is_there xs)
find-append [] x = refl
find-append (y ∷ xs) x = by_test (is_there y) (λ k. rw k refl) (λ k. rw k (find-append xs x))

last-best : (x : Value × ℤ) (es : Entries) (e : Value × ℤ) → AllByRecursion (λ y. value_cmp x.0 y ≡ Less) (keys_of es) → IsEnd IsDownTo es (Some e)
    → (u : Value) → IsThere u (x ∷ es) → IsDownTo e.0 u
last-best x es e head end u (inl p) = subst (λ (w : Value). IsUpTo w e.0) (sym p.0) (ap is_gt (all-there (λ y. value_cmp x.0 y ≡ Less) es e.0 head end.0))
last-best x es e head end u (inr t) = end.1 u t

alone-best : (x : Value × ℤ) (es : Entries) → IsEnd IsDownTo es None → (u : Value) → IsThere u (x ∷ es) → IsDownTo x.0 u
alone-best x es end u (inl p) = subst (λ (w : Value). IsUpTo w x.0) (sym p.0) (up_to-itself x.0)
alone-best x es end u (inr t) = absurd (end u t)

in-front : (x : Value × ℤ) (es : Entries) (o : Option (Value × ℤ)) → AllByRecursion (λ y. value_cmp x.0 y ≡ Less) (keys_of es) → IsEnd IsDownTo es o → IsEnd IsDownTo (x ∷ es) (found_last x o)
in-front x es None head end = by_test (is_there x)
    (λ k. rw k (inl (refl, k), alone-best x es end))
    (λ k. rw k (λ u t. end u (not-there x es k u t)))
in-front x es (Some e) head end = (inr end.0, last-best x es e head end)

pub last-end : (es : Entries) → IsStrictlySortedBy value_cmp (keys_of es) → IsEnd IsDownTo es (find is_there (reverse es))
last-end [] sorted = λ u t. t
last-end (x ∷ es) sorted =
    let e : find is_there (reverse (x ∷ es)) ≡ found_last x (find is_there (reverse es)) = ap (find is_there) (reverse-append (x ∷ []) es) ∙ find-append (reverse es) x in
    subst (IsEnd IsDownTo (x ∷ es)) (sym e)
    (in-front x es (find is_there (reverse es)) (sorted_head value_cmp x.0 (keys_of es) sorted) (last-end es (sorted_tail value_cmp x.0 (keys_of es) sorted)))

-- ---- what a search from the front, or from the back, finds
pub least-found : (es : Entries) (n : ℤ) (o : Option (Value × ℤ)) → AreCounts es → o ≡ find is_there es → IsExtreme lower (held_of es n).values (option_map (λ e. e.0) o)
least-found es n o a found = end-extreme lower-choice es n a o (subst (IsEnd IsUpTo es) (sym found) (first-end es a.ordered))

pub greatest-found : (es : Entries) (n : ℤ) (o : Option (Value × ℤ)) → AreCounts es → o ≡ find is_there (reverse es) → IsExtreme higher (held_of es n).values (option_map (λ e. e.0) o)
greatest-found es n o a found = end-extreme higher-choice es n a o (subst (IsEnd IsDownTo es) (sym found) (last-end es a.ordered))

-- a map's iterator turned round gives its entries from the back
pub YieldsList-from_rev_rest : {A X : Type 0} {shows : A → X} {s : Rev (List X)} (xs : List X) → rev_source s ≡ xs → YieldsList (rev_steps (TakesLast shows)) shows s (reverse xs)
YieldsList-from_rev_rest {shows = shows} {s = s} xs e =
    subst (λ (ys : List _). YieldsList (rev_steps (TakesLast shows)) shows s (reverse ys)) e
    (YieldsList-from_shown (rev_steps (TakesLast shows)) shows (λ u. reverse (rev_source u)) (λ u t p. ap (λ l. length (reverse l)) p.0)
    (λ u x t p. ap reverse p ∙ reverse-append (rev_source t) (shows x ∷ [])) s)
