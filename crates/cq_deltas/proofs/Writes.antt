-- What a write to the counts does to what is held.
use Rattle.std.proofs.Common.{subst, ◌≡◌, ◌<◌, ◌+◌, ◌^◌, nat_abs, ℤ, pos, ◌+ℤ◌, Bool, true, false, cond, [], ◌∷◌, ◌++◌, Option, None, Some, is_some, int_eq, refl, sym, ◌∙◌, ap, arith, rules, FitsSigned, true≢false, Ordering, Less, Equal, Greater}
use Rattle.std.specs.Ordering.{is_eq, ordering_reverse}
use Rattle.std.specs.List.{AllByRecursion}
use Rattle.std.specs.List.Sorted.{IsStrictlySortedBy}
use Rattle.std.specs.Map.{keys_of, lookup, set_value, remove_entry}
use Rattle.std.specs.BTreeMap.{insert_entry}
use Rattle.std.specs.Cmp.{signed_Decides}
use Rattle.std.proofs.Math.IntN.{+ℤ_idl}
use mir.Val.{to_z, of_z}
use Rattle.std.specs.Int.{w128}
use Rattle.std.proofs.lemmas.Int.{ints, to_z-of_z}
use Rattle.std.proofs.lemmas.Cmp.{tied_itself}
use Rattle.std.proofs.lemmas.Map.Keys.{sorted_head, sorted_tail}
use Rattle.cq_values.specs.declared.value.Value.{Value}
use Rattle.cq_values.specs.declared.value.Value.TheVariants.{Null}
use Rattle.cq_values.specs.Value.{Row}
use Rattle.cq_values.specs.Order.{value_cmp, row_cmp, same_row}
use Rattle.cq_values.specs.Keys.{value_cmp_total, row_cmp_total, row_cmp_same}
use Rattle.cq_model.specs.Condition.{is_null}
use Rattle.cq_model_bags.specs.Bag.{Weighted, weight_of, SameBag}
use Rattle.cq_model_bags.proofs.Totals.{by_test, weight_of-append}
use Rattle.cq_deltas.specs.Extremes.{AreCounts, HasRoom, Held, IsAdded, IsGone, KeepsOtherRoom, KeepsRoom, alone, held_of, in_front, nonzero, with_more}
use Rattle.cq_deltas.proofs.Lookups.{Entries, listed, null-weight, value-weight, is_value, alone_cmp, same_alone, value-same, value-itself, null-last, null-after, some-none, at-first, at-rest, first-count, all-looked_up, zero-weight, found-room, room-found, no-entry}
use Rattle.cq_model.proofs.Conditions.{null-value}

pub by_order : {P : Type 0} (o : Ordering) → (o ≡ Less → P) → (o ≡ Equal → P) → (o ≡ Greater → P) → P
by_order Less f g h = f refl
by_order Equal f g h = g refl
by_order Greater f g h = h refl

is_zero-zero : (w : ℤ) → int_eq w (pos 0) ≡ true → w ≡ pos 0
is_zero-zero w e = (signed_Decides w (pos 0)).0 e

-- ---- a row with its weight added
in_front-weight : (r : Row) (w : ℤ) (xs : Weighted) (q : Row) → weight_of (in_front r w xs) q ≡ cond (same_row r q) w (pos 0) +ℤ weight_of xs q
in_front-weight r w xs q = by_test (int_eq w (pos 0))
    (λ k. rw k (sym (ap (λ (n : ℤ). n +ℤ weight_of xs q) (zero-weight (r, w) q k) ∙ +ℤ_idl (weight_of xs q))))
    (λ k. rw k refl)

with_more-weight : (r : Row) (w : ℤ) (xs : Weighted) (q : Row) → weight_of (with_more r w xs) q ≡ cond (same_row r q) w (pos 0) +ℤ weight_of xs q
with_more-weight r w [] q = in_front-weight r w [] q
with_more-weight r w (x ∷ xs) q = by_order (row_cmp r x.0)
    (λ k. rw k (in_front-weight r w (x ∷ xs) q))
    (λ k. let one : r ≡ x.0 = row_cmp_same r x.0 k in
    rw k (in_front-weight r (x.1 +ℤ w) xs q ∙ by_test (same_row r q)
    (λ s. rw (sym one, s) (omega (arith, ints)))
    (λ s. rw (sym one, s) (omega (arith, ints)))))
    (λ k. rw (k, with_more-weight r w xs q) (omega (arith, ints)))

-- it is in the bag so many times more
with_more-same : (r : Row) (w : ℤ) (xs : Weighted) → SameBag (with_more r w xs) (xs ++ (r, w) ∷ [])
with_more-same r w xs = record {
  at = λ q. with_more-weight r w xs q ∙ sym (weight_of-append xs ((r, w) ∷ []) q ∙ omega (arith, ints));
}

pub more-added : (r : Row) (w : ℤ) (old new : Weighted) → new ≡ with_more r w old → IsAdded r w old new
more-added r w old new e = record { list = e; bag = subst (λ (xs : Weighted). SameBag xs (old ++ (r, w) ∷ [])) (sym e) (with_more-same r w old) }

-- before all rows it stands in front
with_more-before : (r : Row) (w : ℤ) (xs : Weighted) → AllByRecursion (λ x. row_cmp r x.0 ≡ Less) xs → with_more r w xs ≡ in_front r w xs
with_more-before r w [] h = refl
with_more-before r w (x ∷ xs) h = rw h.0 refl

-- added to what stands in front it makes one with it
with_more-front : (r : Row) (c w : ℤ) (xs : Weighted) → AllByRecursion (λ x. row_cmp r x.0 ≡ Less) xs → with_more r w (in_front r c xs) ≡ in_front r (c +ℤ w) xs
with_more-front r c w xs h = by_test (int_eq c (pos 0))
    (λ z. rw z (with_more-before r w xs h ∙ ap (λ (n : ℤ). in_front r n xs) (sym (ap (λ (n : ℤ). n +ℤ w) (is_zero-zero c z) ∙ +ℤ_idl w))))
    (λ z. rw (z, tied_itself row_cmp_total r) refl)

-- behind a row that comes before
with_more-behind : (r : Row) (w : ℤ) (q : Row) (c : ℤ) (xs : Weighted) → row_cmp r q ≡ Greater → with_more r w (in_front q c xs) ≡ in_front q c (with_more r w xs)
with_more-behind r w q c xs k = by_test (int_eq c (pos 0)) (λ z. rw z refl) (λ z. rw (z, k) refl)

-- ---- what is listed of the entries
nonzero-cons : (x : Row × ℤ) (xs : Weighted) → nonzero (x ∷ xs) ≡ in_front x.0 x.1 (nonzero xs)
nonzero-cons x xs = by_test (int_eq x.1 (pos 0)) (λ z. rw z refl) (λ z. rw z refl)

before-nonzero : (P : Row × ℤ → Type 0) (xs : Weighted) → AllByRecursion P xs → AllByRecursion P (nonzero xs)
before-nonzero P [] h = h
before-nonzero P (x ∷ xs) h = by_test (int_eq x.1 (pos 0)) (λ z. rw z (before-nonzero P xs h.1)) (λ z. rw z (h.0, before-nonzero P xs h.1))

-- a value before all others comes before NULL, too
pub before-listed : (v : Value) (es : Entries) (n : ℤ) → is_null v ≡ false → AllByRecursion (λ y. value_cmp v y ≡ Less) (keys_of es) → AllByRecursion (λ x. row_cmp (alone v) x.0 ≡ Less) (listed es n)
before-listed v [] n known h = (alone_cmp v Null ∙ null-last v known, tt)
before-listed v (x ∷ es) n known h = (alone_cmp v x.0 ∙ h.0, before-listed v es n known h.1)

-- behind a smaller value more are listed behind it
set-behind : (v : Value) (x : Value × ℤ) (w : ℤ) (xs ys : Weighted) → value_cmp v x.0 ≡ Greater → ys ≡ with_more (alone v) w xs
    → in_front (alone x.0) x.1 ys ≡ with_more (alone v) w (in_front (alone x.0) x.1 xs)
set-behind v x w xs ys k e = ap (in_front (alone x.0) x.1) e ∙ sym (with_more-behind (alone v) w (alone x.0) x.1 xs (alone_cmp v x.0 ∙ k))

-- a count that is higher by w lists the value so many times more
pub set-listed : (es : Entries) (n : ℤ) (v : Value) (c w : ℤ) → is_null v ≡ false → IsStrictlySortedBy value_cmp (keys_of es) → lookup (is_value v) es ≡ Some c
    → nonzero (listed (set_value (is_value v) es (c +ℤ w)) n) ≡ with_more (alone v) w (nonzero (listed es n))
set-listed [] n v c w known sorted e = absurd (some-none c (sym e))
set-listed (x ∷ es) n v c w known sorted e = by_test (is_value v x.0)
    (λ k. let one = value-same v x.0 k in
    let front = with_more-front (alone x.0) c w (nonzero (listed es n))
    (before-nonzero (λ y. row_cmp (alone x.0) y.0 ≡ Less) (listed es n)
    (before-listed x.0 es n (sym (ap is_null one) ∙ known) (sorted_head value_cmp x.0 (keys_of es) sorted))) in
    rw k (nonzero-cons (alone x.0, c +ℤ w) (listed es n) ∙ sym front
    ∙ sym (λ i. with_more (alone (one i)) w (in_front (alone x.0) (first-count v x es c e k i) (nonzero (listed es n))))
    ∙ ap (with_more (alone v) w) (sym (nonzero-cons (alone x.0, x.1) (listed es n)))))
    (λ k. let less = all-looked_up (λ y. value_cmp x.0 y ≡ Less) es v c (sorted_head value_cmp x.0 (keys_of es) sorted) (at-rest v x es (Some c) e k) in
    rw k (nonzero-cons (alone x.0, x.1) (listed (set_value (is_value v) es (c +ℤ w)) n)
    ∙ set-behind v x w (nonzero (listed es n)) (nonzero (listed (set_value (is_value v) es (c +ℤ w)) n)) (value_cmp_total.antisymm v x.0 ∙ ap ordering_reverse less)
    (set-listed es n v c w known (sorted_tail value_cmp x.0 (keys_of es) sorted) (at-rest v x es (Some c) e k))
    ∙ ap (with_more (alone v) w) (sym (nonzero-cons (alone x.0, x.1) (listed es n)))))

-- so do more NULLs
pub null-listed : (es : Entries) (n w : ℤ) → lookup (is_value Null) es ≡ None → nonzero (listed es (n +ℤ w)) ≡ with_more (alone Null) w (nonzero (listed es n))
null-listed [] n w none =
    nonzero-cons (alone Null, n +ℤ w) [] ∙ sym (with_more-front (alone Null) n w [] tt) ∙ ap (with_more (alone Null) w) (sym (nonzero-cons (alone Null, n) []))
null-listed (x ∷ es) n w none =
    let other = by_test (is_value Null x.0) (λ k. absurd (some-none x.1 (at-first Null x es None none k))) (λ k. k) in
    let known = by_test (is_null x.0) (λ k. absurd (true≢false (sym (value-itself Null) ∙ ap (is_value Null) (sym (null-value x.0 k)) ∙ other))) (λ k. k) in
    nonzero-cons (alone x.0, x.1) (listed es (n +ℤ w))
    ∙ set-behind Null x w (nonzero (listed es n)) (nonzero (listed es (n +ℤ w))) (null-after x.0 known) (null-listed es n w (at-rest Null x es None none other))
    ∙ ap (with_more (alone Null) w) (sym (nonzero-cons (alone x.0, x.1) (listed es n)))

-- a new value of count zero is not listed
pub insert-listed : (es : Entries) (n : ℤ) (v : Value) → lookup (is_value v) es ≡ None → nonzero (listed (insert_entry value_cmp es v (pos 0)) n) ≡ nonzero (listed es n)
insert-listed [] n v none = refl
insert-listed (x ∷ es) n v none = by_order (value_cmp v x.0)
    (λ k. rw k refl)
    (λ k. absurd (some-none x.1 (at-first v x es None none (ap is_eq k))))
    (λ k. rw k (nonzero-cons (alone x.0, x.1) (listed (insert_entry value_cmp es v (pos 0)) n)
    ∙ ap (in_front (alone x.0) x.1) (insert-listed es n v (at-rest v x es None none (ap is_eq k)))
    ∙ sym (nonzero-cons (alone x.0, x.1) (listed es n))))

-- and one of count zero may go
pub remove-listed : (es : Entries) (n : ℤ) (v : Value) → lookup (is_value v) es ≡ Some (pos 0) → nonzero (listed (remove_entry (is_value v) es) n) ≡ nonzero (listed es n)
remove-listed [] n v e = refl
remove-listed (x ∷ es) n v e = by_test (is_value v x.0)
    (λ k. rw (k, first-count v x es (pos 0) e k) refl)
    (λ k. rw k (nonzero-cons (alone x.0, x.1) (listed (remove_entry (is_value v) es) n)
    ∙ ap (in_front (alone x.0) x.1) (remove-listed es n v (at-rest v x es (Some (pos 0)) e k))
    ∙ sym (nonzero-cons (alone x.0, x.1) (listed es n))))

-- ---- a value's entry is set, or let go
abbrev pub Sets : Entries → Value → Option ℤ → Entries → Type 0
Sets old v w new = (q : Value) → lookup (is_value q) new ≡ cond (is_value v q) w (lookup (is_value q) old)

module _ (old : Entries) (v : Value) (w : Option ℤ) (new : Entries) (sets : Sets old v w new) where
  set-at : lookup (is_value v) new ≡ w
  set-at = sets v ∙ ap (λ (b : Bool). cond b w (lookup (is_value v) old)) (value-itself v)

  pub other-room : KeepsOtherRoom v (keys_of old) (keys_of new)
  other-room q apart had known =
      found-room new q
      (ap is_some (sets q ∙ ap (λ (b : Bool). cond b w (lookup (is_value q) old)) (sym (same_alone v q) ∙ apart)) ∙ room-found old q known had) known

  pub settled : (n : ℤ) → w ≡ None → IsGone v (held_of new n) → ⊥
  settled n e gone = no-entry new n v (set-at ∙ e) gone

  pub has-room : is_some w ≡ true → HasRoom v (keys_of new)
  has-room e = found-room new v (ap is_some set-at ∙ e)

  pub all-room : is_some w ≡ true → KeepsRoom (keys_of old) (keys_of new)
  all-room e q had known = found-room new q (ap is_some (sets q) ∙ by_test (is_value v q) (λ k. rw k e) (λ k. rw k (room-found old q known had))) known

-- ---- a count that is added to
pub fits-sum : (a w : ℤ) → nat_abs a + nat_abs w < 2 ^ 127 → FitsSigned w128 (a +ℤ w)
fits-sum a w h = search rules

-- a sum of two numbers of 128 bits, as a function that stores it shows it
pub rounded : (a w : ℤ) → FitsSigned w128 a → FitsSigned w128 w → FitsSigned w128 (a +ℤ w)
    → to_z w128 (of_z w128 (to_z w128 (of_z w128 a) +ℤ to_z w128 (of_z w128 w))) ≡ a +ℤ w
rounded a w fa fw fs = (λ i. to_z w128 (of_z w128 (to_z-of_z w128 a fa i +ℤ to_z-of_z w128 w fw i))) ∙ to_z-of_z w128 (a +ℤ w) fs

pub fits-rounded : (a w : ℤ) → FitsSigned w128 a → FitsSigned w128 w → FitsSigned w128 (a +ℤ w)
    → FitsSigned w128 (to_z w128 (of_z w128 a) +ℤ to_z w128 (of_z w128 w))
fits-rounded a w fa fw fs = rw (to_z-of_z w128 a fa, to_z-of_z w128 w fw) fs

-- ---- a weight that is small enough beside what is held fits with it
module _ (es : Entries) (n : ℤ) (a : AreCounts es) (held : Held) (is : held_of es n ≡ held) (v : Value) (w : ℤ) (small : nat_abs (weight_of held.values (alone v)) + nat_abs w < 2 ^ 127) where
  sum-fits : (m : ℤ) → weight_of (held_of es n).values (alone v) ≡ m → FitsSigned w128 (m +ℤ w)
  sum-fits m weighs =
      fits-sum m w (subst (λ (k : ℤ). nat_abs k + nat_abs w < 2 ^ 127) (ap (λ (h : Held). weight_of h.values (alone v)) (sym is) ∙ weighs) small)

  -- beside NULLs
  pub null-fits : v ≡ Null → FitsSigned w128 (n +ℤ w)
  null-fits null = sum-fits n (ap (λ (u : Value). weight_of (held_of es n).values (alone u)) null ∙ null-weight es n a)

  -- beside a value that has a count
  pub value-fits : (count : ℤ) → lookup (is_value v) es ≡ Some count → FitsSigned w128 (count +ℤ w)
  value-fits count found = sum-fits count (value-weight es n v count a found)
