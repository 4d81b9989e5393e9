-- How many different values are counted.
use Rattle.std.proofs.Common.{◌≡◌, ℕ, ◌+◌, ◌-◌, ◌≤◌, ℤ, pos, ◌+ℤ◌, Bool, false, cond, int_lt, [], ◌∷◌, map, length, Option, None, Some, refl, sym, ◌∙◌, ap, arith, Less}
use Rattle.std.specs.Ordering.{is_eq}
use Rattle.std.specs.List.{AllByRecursion}
use Rattle.std.specs.List.Sorted.{IsStrictlySortedBy}
use Rattle.std.specs.Map.{keys_of, lookup, set_value, remove_entry}
use Rattle.std.specs.BTreeMap.{insert_entry}
use Rattle.std.proofs.lemmas.Int.{ints}
use Rattle.std.proofs.lemmas.List.Sums.{count_by-le-length, sum_by-cons}
use Rattle.std.proofs.lemmas.Map.Keys.{sorted_head, sorted_tail}
use Rattle.cq_values.specs.declared.value.Value.{Value}
use Rattle.cq_values.specs.declared.value.Value.TheVariants.{Null}
use Rattle.cq_values.specs.Value.{Row}
use Rattle.cq_values.specs.Order.{row_cmp, same_row, value_cmp}
use Rattle.cq_values.specs.Keys.{same_row-equiv, same_row-same}
use Rattle.cq_model.specs.Condition.{is_null}
use Rattle.cq_model.specs.Group.{distinct_values}
use Rattle.cq_model_bags.specs.Bag.{Weighted, SameBag, distinct, total, weight_of}
use Rattle.cq_model_bags.proofs.Distincts.{weight_of-distinct}
use Rattle.cq_model_bags.proofs.Lists.{all-weaker}
use Rattle.cq_model_bags.proofs.Totals.{by_test, total-respects}
use Rattle.cq_model_laws.proofs.DistinctValues.{distinct-counted, distinct_values-respect, one_unless_null}
use Rattle.cq_deltas.specs.Extremes.{AreCounts, IsCounted, alone, counted_entries, held_of, is_counted, nonzero}
use Rattle.cq_deltas.proofs.Lookups.{Entries, listed, is_value, at-first, at-rest, first-count, looked_up-known, nonzero-same, null-last, same-keys, some-none, value-itself}
use Rattle.cq_deltas.proofs.Writes.{before-listed, by_order}

-- ---- entries that are counted
-- one for a count above zero
abbrev pub one_if_counted : ℤ → ℕ
one_if_counted count = cond (int_lt (pos 0) count) 1 0

pub one-most : (count : ℤ) → one_if_counted count ≤ 1
one-most count = by_test (int_lt (pos 0) count) (λ k. rw k (omega arith)) (λ k. rw k (omega arith))

counted-cons : (x : Value × ℤ) (es : Entries) → counted_entries (x ∷ es) ≡ one_if_counted x.1 + counted_entries es
counted-cons x es = sum_by-cons (λ (e : Value × ℤ). cond (is_counted e) 1 0) x es

-- with another count a value counts by that
pub counted-set : (es : Entries) (v : Value) (c d : ℤ) → lookup (is_value v) es ≡ Some c
    → counted_entries (set_value (is_value v) es d) + one_if_counted c ≡ counted_entries es + one_if_counted d
counted-set [] v c d e = absurd (some-none c (sym e))
counted-set (x ∷ es) v c d e = by_test (is_value v x.0)
    (λ k. rw k (omega (arith, counted-cons (x.0, d) es, counted-cons x es, ap one_if_counted (first-count v x es c e k))))
    (λ k. rw k (omega (arith, counted-cons x (set_value (is_value v) es d), counted-cons x es, counted-set es v c d (at-rest v x es (Some c) e k))))

-- a new value of count zero does not count
pub counted-insert : (es : Entries) (v : Value) → lookup (is_value v) es ≡ None → counted_entries (insert_entry value_cmp es v (pos 0)) ≡ counted_entries es
counted-insert [] v none = counted-cons (v, pos 0) []
counted-insert (x ∷ es) v none = by_order (value_cmp v x.0)
    (λ k. rw k (omega (arith, counted-cons (v, pos 0) (x ∷ es))))
    (λ k. absurd (some-none x.1 (at-first v x es None none (ap is_eq k))))
    (λ k. rw k (omega (arith, counted-cons x (insert_entry value_cmp es v (pos 0)), counted-cons x es, counted-insert es v (at-rest v x es None none (ap is_eq k)))))

-- nor does one that goes with count zero
pub counted-remove : (es : Entries) (v : Value) → lookup (is_value v) es ≡ Some (pos 0) → counted_entries (remove_entry (is_value v) es) ≡ counted_entries es
counted-remove [] v e = refl
counted-remove (x ∷ es) v e = by_test (is_value v x.0)
    (λ k. rw k (omega (arith, counted-cons x es, ap one_if_counted (first-count v x es (pos 0) e k))))
    (λ k. rw k (omega (arith, counted-cons x (remove_entry (is_value v) es), counted-cons x es, counted-remove es v (at-rest v x es (Some (pos 0)) e k))))

-- a value that is counted is one of them
pub one-within : (es : Entries) (v : Value) (c : ℤ) → lookup (is_value v) es ≡ Some c → one_if_counted c ≤ counted_entries es
one-within [] v c e = absurd (some-none c (sym e))
one-within (x ∷ es) v c e = by_test (is_value v x.0)
    (λ k. omega (arith, counted-cons x es, ap one_if_counted (first-count v x es c e k)))
    (λ k. omega (arith, counted-cons x es, one-within es v c (at-rest v x es (Some c) e k)))

-- but for a value with an entry, fewer are counted than there are entries
pub others-fewer : (es : Entries) (v : Value) (c : ℤ) → lookup (is_value v) es ≡ Some c → counted_entries es + 1 ≤ length es + one_if_counted c
others-fewer [] v c e = absurd (some-none c (sym e))
others-fewer (x ∷ es) v c e = by_test (is_value v x.0)
    (λ k. omega (arith, counted-cons x es, count_by-le-length is_counted es, ap one_if_counted (first-count v x es c e k)))
    (λ k. omega (arith, counted-cons x es, one-most x.1, others-fewer es v c (at-rest v x es (Some c) e k)))

-- ---- counts that change
module _ (es fs : Entries) (n : ℕ) (v : Value) (is : IsCounted es n) where
  -- where a value has another count, what it counted for goes and what it counts for comes
  pub counted-again : (c d : ℤ) (before after : ℕ) → lookup (is_value v) es ≡ Some c → fs ≡ set_value (is_value v) es d → keys_of fs ≡ keys_of es
      → before ≡ one_if_counted c → after ≡ one_if_counted d → IsCounted fs (n - before + after)
  counted-again c d before after found set keys was now = record {
    are = same-keys es fs keys is.are;
    different = omega (arith, was, now, is.different, one-within es v c found, ap counted_entries set, counted-set es v c d found);
  }

  -- a new value other than NULL is there with count zero
  pub counted-with : lookup (is_value v) es ≡ None → is_null v ≡ false → IsStrictlySortedBy value_cmp (keys_of fs) → fs ≡ insert_entry value_cmp es v (pos 0)
      → lookup (is_value Null) fs ≡ cond (is_value v Null) (Some (pos 0)) (lookup (is_value Null) es) → IsCounted fs n
  counted-with none known ordered entries null = record {
    are = record {
      ordered = ordered;
      known = null ∙ ap (λ (b : Bool). cond b (Some (pos 0)) (lookup (is_value Null) es)) (ap is_eq (null-last v known)) ∙ is.are.known;
    };
    different = is.different ∙ sym (ap counted_entries entries ∙ counted-insert es v none);
  }

  -- and a value of count zero goes
  pub counted-without : lookup (is_value v) es ≡ Some (pos 0) → IsStrictlySortedBy value_cmp (keys_of fs) → fs ≡ remove_entry (is_value v) es
      → lookup (is_value Null) fs ≡ cond (is_value v Null) None (lookup (is_value Null) es) → IsCounted fs n
  counted-without found ordered entries null =
      let after : Bool → Option ℤ = λ b. cond b None (lookup (is_value Null) es) in
      record {
        are = record {
          ordered = ordered;
          known = null ∙ by_test (is_value v Null) (λ k. ap after k) (λ k. ap after k ∙ is.are.known);
        };
        different = is.different ∙ sym (ap counted_entries entries ∙ counted-remove es v found);
      }

-- ---- are the different values
-- each row once, if its weight is above zero
abbrev ones : Weighted → Weighted
ones xs = map (λ x. (x.0, cond (int_lt (pos 0) x.1) (pos 1) (pos 0))) xs

-- each row stands there once
abbrev AreApart : Weighted → Type 0
AreApart [] = Unit {0}
AreApart (x ∷ xs) = AllByRecursion (λ y. same_row x.0 y.0 ≡ false) xs × AreApart xs

-- beside others a row has no weight
weight-apart : (xs : Weighted) (q r : Row) → q ≡ r → AllByRecursion (λ y. same_row q y.0 ≡ false) xs → weight_of xs r ≡ pos 0
weight-apart [] q r e h = refl
weight-apart (y ∷ xs) q r e h =
    rw (same_row-equiv.symm y.0 r ∙ ap (λ (s : Row). same_row s y.0) (sym e) ∙ h.0, weight-apart xs q r e h.1) refl

-- so a row is there once by its own weight
ones-weight : (xs : Weighted) (r : Row) → AreApart xs → weight_of (ones xs) r ≡ cond (int_lt (pos 0) (weight_of xs r)) (pos 1) (pos 0)
ones-weight [] r h = refl
ones-weight (x ∷ xs) r h =
    let there : ℤ → ℤ = λ n. cond (int_lt (pos 0) n) (pos 1) (pos 0) in
    by_test (same_row x.0 r)
    (λ k.
    let none = weight-apart xs x.0 r (same_row-same x.0 r k) h.0 in
    let nothing : weight_of (ones xs) r ≡ pos 0 = ones-weight xs r h.1 ∙ ap there none in
    let own : x.1 +ℤ pos 0 ≡ x.1 = omega (arith, ints) in
    rw (k, nothing, none, own) (omega (arith, ints)))
    (λ k.
    let rest : pos 0 +ℤ weight_of xs r ≡ weight_of xs r = omega (arith, ints) in
    rw (k, rest) (omega (arith, ints, ones-weight xs r h.1)))

-- where NULL has no entry, the first value is another
first-other : (x : Value × ℤ) (es : Entries) → lookup (is_value Null) (x ∷ es) ≡ None → is_value Null x.0 ≡ false
first-other x es none = by_test (is_value Null x.0) (λ k. absurd (some-none x.1 (at-first Null x es None none k))) (λ k. k)

first-known : (x : Value × ℤ) (es : Entries) → lookup (is_value Null) (x ∷ es) ≡ None → is_null x.0 ≡ false
first-known x es none =
    looked_up-known (x ∷ es) x.0 x.1 none (ap (λ (b : Bool). cond b (Some x.1) (lookup (is_value x.0) es)) (value-itself x.0))

-- values and NULL stand apart
apart-listed : (es : Entries) (n : ℤ) → IsStrictlySortedBy value_cmp (keys_of es) → lookup (is_value Null) es ≡ None → AreApart (listed es n)
unfolding same_row
apart-listed [] n sorted none = (tt, tt)
apart-listed (x ∷ es) n sorted none = (
  all-weaker (λ y. row_cmp (alone x.0) y.0 ≡ Less) (λ y. same_row (alone x.0) y.0 ≡ false) (λ y h. ap is_eq h) (listed es n)
      (before-listed x.0 es n (first-known x es none) (sorted_head value_cmp x.0 (keys_of es) sorted)),
  apart-listed es n (sorted_tail value_cmp x.0 (keys_of es) sorted) (at-rest Null x es None none (first-other x es none)),
)

-- counted once each, they are so many
ones-total : (es : Entries) (n : ℤ) → lookup (is_value Null) es ≡ None → total one_unless_null (ones (listed es n)) ≡ pos (counted_entries es)
ones-total [] n none = by_test (int_lt (pos 0) n) (λ k. rw k refl) (λ k. rw k refl)
ones-total (x ∷ es) n none =
    let rest = ones-total es n (at-rest Null x es None none (first-other x es none)) in
    let known = first-known x es none in
    let first : total one_unless_null (ones (listed (x ∷ es) n)) ≡ pos (one_if_counted x.1) +ℤ total one_unless_null (ones (listed es n)) =
    by_test (int_lt (pos 0) x.1) (λ k. rw (known, k) (omega (arith, ints))) (λ k. rw (known, k) (omega (arith, ints))) in
    omega (arith, ints, first, rest, counted-cons x es)

pub different-counted : (es : Entries) (n : ℤ) → AreCounts es → length (distinct_values (held_of es n).values) ≡ counted_entries es
different-counted es n a =
    let xs = listed es n in
    let same : SameBag (distinct xs) (ones xs) = record { at = λ r. weight_of-distinct xs r ∙ sym (ones-weight xs r (apart-listed es n a.ordered a.known)) } in
    let is : pos (length (distinct_values (nonzero xs))) ≡ pos (counted_entries es) =
    distinct_values-respect (nonzero xs) xs (nonzero-same xs) ∙ distinct-counted xs
    ∙ total-respects one_unless_null (distinct xs) (ones xs) same ∙ ones-total es n a.known in
    omega (arith, ints, is)
