-- Counts of values, looked up, are the weights of rows of one column.
use Rattle.std.proofs.Common.{◌≡◌, ℤ, pos, ◌+ℤ◌, Bool, true, false, cond, List, [], ◌∷◌, ◌++◌, Option, None, Some, is_some, int_eq, refl, sym, ◌∙◌, ap, subst, arith, true≢false, Less, Greater}
use Rattle.std.specs.Ordering.{is_eq}
use Rattle.std.specs.List.{AllByRecursion, list_any}
use Rattle.std.specs.List.Sorted.{IsStrictlySortedBy}
use Rattle.std.specs.Map.{keys_of, lookup}
use Rattle.std.specs.BTreeMap.{is_at}
use Rattle.std.specs.Cmp.{signed_Decides}
use Rattle.std.proofs.Math.IntN.{+ℤ_idl}
use Rattle.std.proofs.lemmas.Int.{ints}
use Rattle.std.proofs.lemmas.Map.Keys.{sorted_head, sorted_tail}
use Rattle.cq_values.specs.declared.value.Value.{Value}
use Rattle.cq_values.specs.declared.value.Value.TheVariants.{Null, Number, Day, Text}
use Rattle.cq_values.specs.Value.{Row, column}
use Rattle.cq_values.specs.Order.{value_cmp, row_cmp, same_row}
use Rattle.cq_values.specs.Keys.{same_row-refl, same_row-same, same_row-equiv}
use Rattle.cq_model.specs.Condition.{is_null}
use Rattle.cq_model_bags.specs.Bag.{Weighted, weight_of, SameBag}
use Rattle.cq_model_bags.proofs.Totals.{by_test, weight_of-append}
use Rattle.cq_deltas.specs.Extremes.{AreCounts, HasRoom, IsGone, alone, as_rows, held_of, nonzero}
use Rattle.cq_model.proofs.Conditions.{null-value}
use Rattle.cq_model_bags.proofs.Widths.{then-equal}

-- values with their counts
abbrev pub Entries : Type 0
Entries = List (Value × ℤ)

-- each as a row of one column, and NULLs behind them
abbrev pub listed : Entries → ℤ → Weighted
listed es n = as_rows es ++ (alone Null, n) ∷ []

-- the test of one value
abbrev pub is_value : Value → Value → Bool
is_value v = is_at (value_cmp v)

-- ---- rows of one column
-- they are ordered as their values
pub alone_cmp : (v w : Value) → row_cmp (alone v) (alone w) ≡ value_cmp v w
alone_cmp v w = then-equal (value_cmp v w)

-- and are one where their values are
pub same_alone : (v w : Value) → same_row (alone v) (alone w) ≡ is_value v w
unfolding same_row
same_alone v w = ap is_eq (then-equal (value_cmp v w))

pub value-same : (v w : Value) → is_value v w ≡ true → v ≡ w
value-same v w e = ap (λ (r : Row). column r 0) (same_row-same (alone v) (alone w) (same_alone v w ∙ e))

pub value-itself : (v : Value) → is_value v v ≡ true
value-itself v = sym (same_alone v v) ∙ same_row-refl (alone v)

-- a value that comes later is another
pub less-apart : (v w : Value) → value_cmp v w ≡ Less → same_row (alone v) (alone w) ≡ false
less-apart v w e = same_alone v w ∙ ap is_eq e

-- ---- NULL
-- it comes after each other value
pub null-last : (v : Value) → is_null v ≡ false → value_cmp v Null ≡ Less
null-last Null h = absurd (true≢false h)
null-last (Number m) h = refl
null-last (Day d) h = refl
null-last (Text t) h = refl

pub null-after : (v : Value) → is_null v ≡ false → value_cmp Null v ≡ Greater
null-after Null h = absurd (true≢false h)
null-after (Number m) h = refl
null-after (Day d) h = refl
null-after (Text t) h = refl

pub null-apart : (v : Value) → is_null v ≡ false → same_row (alone v) (alone Null) ≡ false
null-apart v e = less-apart v Null (null-last v e)

-- ---- look-ups
some-same : (a b : ℤ) → Some a ≡ Some b → a ≡ b
some-same a b h = cc h

pub some-none : (a : ℤ) → Some a ≡ None → ⊥
some-none a h = absurd (cc)

pub none-there : (o : Option ℤ) → is_some o ≡ false → o ≡ None
none-there None e = refl
none-there (Some w) e = absurd (true≢false e)

some-there : (o : Option ℤ) → is_some o ≡ true → (c : ℤ) × (o ≡ Some c)
some-there None e = absurd (true≢false (sym e))
some-there (Some c) e = (c, refl)

module _ (v : Value) (x : Value × ℤ) (es : Entries) (o : Option ℤ) (e : lookup (is_value v) (x ∷ es) ≡ o) where
  -- the first entry is the value's, or the others are looked up
  pub at-first : is_value v x.0 ≡ true → Some x.1 ≡ o
  at-first k = sym (ap (λ (b : Bool). cond b (Some x.1) (lookup (is_value v) es)) k) ∙ e

  pub at-rest : is_value v x.0 ≡ false → lookup (is_value v) es ≡ o
  at-rest k = sym (ap (λ (b : Bool). cond b (Some x.1) (lookup (is_value v) es)) k) ∙ e

pub first-count : (v : Value) (x : Value × ℤ) (es : Entries) (c : ℤ) → lookup (is_value v) (x ∷ es) ≡ Some c → is_value v x.0 ≡ true → x.1 ≡ c
first-count v x es c e k = some-same x.1 c (at-first v x es (Some c) e k)

-- what holds of all values holds of one that is looked up
pub all-looked_up : (P : Value → Type 0) (es : Entries) (v : Value) (c : ℤ) → AllByRecursion P (keys_of es) → lookup (is_value v) es ≡ Some c → P v
all-looked_up P [] v c h e = absurd (some-none c (sym e))
all-looked_up P (x ∷ es) v c h e = by_test (is_value v x.0)
    (λ k. subst P (sym (value-same v x.0 k)) h.0)
    (λ k. all-looked_up P es v c h.1 (at-rest v x es (Some c) e k))

-- where NULL is not found, what is found is another value
pub looked_up-known : (es : Entries) (v : Value) (c : ℤ) → lookup (is_value Null) es ≡ None → lookup (is_value v) es ≡ Some c → is_null v ≡ false
looked_up-known es v c none e = by_test (is_null v)
    (λ k. absurd (some-none c (sym e ∙ ap (λ (w : Value). lookup (is_value w) es) (null-value v k) ∙ none)))
    (λ k. k)

-- ---- weights
-- an entry of weight zero adds nothing
pub zero-weight : (x : Row × ℤ) (r : Row) → int_eq x.1 (pos 0) ≡ true → cond (same_row x.0 r) x.1 (pos 0) ≡ pos 0
zero-weight x r e = by_test (same_row x.0 r) (λ s. rw s ((signed_Decides x.1 (pos 0)).0 e)) (λ s. rw s refl)

pub nonzero-weight : (xs : Weighted) (r : Row) → weight_of (nonzero xs) r ≡ weight_of xs r
nonzero-weight [] r = refl
nonzero-weight (x ∷ xs) r = by_test (int_eq x.1 (pos 0))
    (λ k. rw k (nonzero-weight xs r ∙ sym (ap (λ (n : ℤ). n +ℤ weight_of xs r) (zero-weight x r k) ∙ +ℤ_idl (weight_of xs r))))
    (λ k. rw k (ap (λ (n : ℤ). cond (same_row x.0 r) x.1 (pos 0) +ℤ n) (nonzero-weight xs r)))

pub nonzero-same : (xs : Weighted) → SameBag (nonzero xs) xs
nonzero-same xs = record { at = nonzero-weight xs }

-- NULLs count for NULL's row alone
pub listed-weight : (es : Entries) (n : ℤ) (r : Row) → same_row (alone Null) r ≡ false → weight_of (listed es n) r ≡ weight_of (as_rows es) r
listed-weight es n r k = weight_of-append (as_rows es) ((alone Null, n) ∷ []) r ∙ rw k (omega (arith, ints))

pub absent : (v : Value) (es : Entries) → AllByRecursion (λ y. value_cmp v y ≡ Less) (keys_of es) → weight_of (as_rows es) (alone v) ≡ pos 0
absent v [] h = refl
absent v (x ∷ es) h = rw (same_row-equiv.symm (alone x.0) (alone v) ∙ less-apart v x.0 h.0, absent v es h.1) refl

weight-at : (es : Entries) (v : Value) (c : ℤ) → IsStrictlySortedBy value_cmp (keys_of es) → lookup (is_value v) es ≡ Some c → weight_of (as_rows es) (alone v) ≡ c
weight-at [] v c sorted e = absurd (some-none c (sym e))
weight-at (x ∷ es) v c sorted e = by_test (is_value v x.0)
    (λ k. let none : weight_of (as_rows es) (alone v) ≡ pos 0 = ap (λ (w : Value). weight_of (as_rows es) (alone w)) (value-same v x.0 k) ∙ absent x.0 es (sorted_head value_cmp x.0 (keys_of es) sorted) in
    rw (same_row-equiv.symm (alone x.0) (alone v) ∙ same_alone v x.0 ∙ k, none, first-count v x es c e k) (omega (arith, ints)))
    (λ k. rw (same_row-equiv.symm (alone x.0) (alone v) ∙ same_alone v x.0 ∙ k) (+ℤ_idl (weight_of (as_rows es) (alone v)))
    ∙ weight-at es v c (sorted_tail value_cmp x.0 (keys_of es) sorted) (at-rest v x es (Some c) e k))

null-nowhere : (es : Entries) → lookup (is_value Null) es ≡ None → weight_of (as_rows es) (alone Null) ≡ pos 0
null-nowhere [] none = refl
null-nowhere (x ∷ es) none = by_test (is_value Null x.0)
    (λ k. absurd (some-none x.1 (at-first Null x es None none k)))
    (λ k. rw (same_row-equiv.symm (alone x.0) (alone Null) ∙ same_alone Null x.0 ∙ k, null-nowhere es (at-rest Null x es None none k)) refl)

-- the weight of a value is its count
pub value-weight : (es : Entries) (n : ℤ) (v : Value) (c : ℤ) → AreCounts es → lookup (is_value v) es ≡ Some c → weight_of (held_of es n).values (alone v) ≡ c
value-weight es n v c a e =
    nonzero-weight (listed es n) (alone v)
    ∙ listed-weight es n (alone v) (same_row-equiv.symm (alone Null) (alone v) ∙ null-apart v (looked_up-known es v c a.known e))
    ∙ weight-at es v c a.ordered e

pub null-weight : (es : Entries) (n : ℤ) → AreCounts es → weight_of (held_of es n).values (alone Null) ≡ n
null-weight es n a =
    nonzero-weight (listed es n) (alone Null) ∙ weight_of-append (as_rows es) ((alone Null, n) ∷ []) (alone Null)
    ∙ rw (null-nowhere es a.known, same_row-refl (alone Null)) (omega (arith, ints))

-- ---- room
there-keys : (v : Value) (es : Entries) → is_some (lookup (is_value v) es) ≡ list_any (λ w. same_row (alone v) (alone w)) (keys_of es)
there-keys v [] = refl
there-keys v (x ∷ es) = by_test (is_value v x.0)
    (λ k. rw (same_alone v x.0, k) refl)
    (λ k. rw (same_alone v x.0, k) (there-keys v es))

-- entries of the same values are counts as they are
pub same-keys : (es fs : Entries) → keys_of fs ≡ keys_of es → AreCounts es → AreCounts fs
same-keys es fs e a = record {
  ordered = subst (IsStrictlySortedBy value_cmp) (sym e) a.ordered;
  known = none-there _ (there-keys Null fs ∙ ap (list_any (λ w. same_row (alone Null) (alone w))) e ∙ sym (there-keys Null es) ∙ ap is_some a.known);
}

-- what is looked up has room
pub found-room : (es : Entries) (v : Value) → is_some (lookup (is_value v) es) ≡ true → HasRoom v (keys_of es)
found-room es v e known = sym (there-keys v es) ∙ e

-- what has room is found
pub room-found : (es : Entries) (v : Value) → is_null v ≡ false → HasRoom v (keys_of es) → is_some (lookup (is_value v) es) ≡ true
room-found es v known room = there-keys v es ∙ room known

pub null-room : (room : List Value) (v : Value) → is_null v ≡ true → HasRoom v room
null-room room v e known = absurd (true≢false (sym e ∙ known))

-- ---- values that are gone
pub is-gone : (es : Entries) (n : ℤ) (v : Value) (c : ℤ) → AreCounts es → lookup (is_value v) es ≡ Some c → c ≡ pos 0 → IsGone v (held_of es n)
is-gone es n v c a e zero = record {
  known = looked_up-known es v c a.known e;
  room = found-room es v (ap is_some e);
  none = value-weight es n v c a e ∙ zero;
}

pub not-gone : (es : Entries) (n : ℤ) (v : Value) (c : ℤ) → AreCounts es → lookup (is_value v) es ≡ Some c → IsGone v (held_of es n) → c ≡ pos 0
not-gone es n v c a e gone = sym (value-weight es n v c a e) ∙ gone.none

pub no-entry : (es : Entries) (n : ℤ) (v : Value) → lookup (is_value v) es ≡ None → IsGone v (held_of es n) → ⊥
no-entry es n v e gone = true≢false (sym (room-found es v gone.known gone.room) ∙ ap is_some e)

-- a value that is gone has an entry of count zero
pub gone-entry : (es : Entries) (n : ℤ) (v : Value) → AreCounts es → IsGone v (held_of es n) → lookup (is_value v) es ≡ Some (pos 0)
gone-entry es n v a gone =
    let found = some-there (lookup (is_value v) es) (room-found es v gone.known gone.room) in
    found.1 ∙ ap Some (not-gone es n v found.0 a found.1 gone)
