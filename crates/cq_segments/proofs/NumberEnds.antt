-- The ends of numbers of a kind.
use Rattle.std.proofs.Common.{◌≡◌, ◌⊎◌, ◌∙◌, ℕ, ◌+◌, ◌<◌, ℤ, pos, true, false, List, [], ◌∷◌, ◌++◌, None, Some, get_or, length, take, inl, inr, refl, sym, ap, ap₂, subst, arith}
use Rattle.std.specs.List.{AllByRecursion}
use Rattle.std.proofs.lemmas.List.{get_or-map, get_or_default, length-map, map-append}
use Rattle.cq_model.specs.Group.{higher, lower}
use Rattle.cq_model.proofs.Extremes.{higher-choice, lower-choice}
use Rattle.cq_model_bags.proofs.Lists.{all-at, all-push}
use Rattle.cq_values.specs.declared.value.Value.{Value}
use Rattle.cq_values.specs.declared.value.Value.TheVariants.{Day, Number}
use Rattle.cq_encodings_plain.specs.declared.kind.Kind.{Kind}
use Rattle.cq_encodings_plain.specs.declared.kind.Kind.TheVariants.{Days, Numbers}
use Rattle.cq_encodings_plain.specs.Kind.{IsOf, StandsFor, datum, number_values}
use Rattle.cq_encodings_numbers.proofs.Datums.{day_datum, number_known}
use Rattle.cq_encodings_numbers.specs.Bounds.{AreBounds, Ends}
use Rattle.cq_segments.specs.Numbers.{AreEnds, AreNumbers}
use Rattle.cq_segments.proofs.Ends.{with_value}

abbrev number_in : Value → ℤ
number_in (Number n) = n
number_in (Day n) = n
number_in v = pos 0

-- one of two numbers that is the better of their values, is it in every kind
module _ (best : Value → Value → Value) (one : (v w : Value) → (best v w ≡ v) ⊎ (best v w ≡ w)) (a b n : ℤ) (number : Number n ≡ best (Number a) (Number b)) (day : Day n ≡ best (Day a) (Day b)) where
  pub better_datum : (kind : Kind) → IsOf kind a → IsOf kind b → IsOf kind n → datum kind n false ≡ best (datum kind a false) (datum kind b false)
  better_datum Numbers of_a of_b of_n = number
  better_datum Days of_a of_b of_n = day_datum n of_n ∙ day ∙ ap₂ best (sym (day_datum a of_a)) (sym (day_datum b of_b))

  is_one : (n ≡ a) ⊎ (n ≡ b)
  is_one = by_value (one (Number a) (Number b))
    where
      by_value : (best (Number a) (Number b) ≡ Number a) ⊎ (best (Number a) (Number b) ≡ Number b) → (n ≡ a) ⊎ (n ≡ b)
      by_value (inl e) = inl (ap number_in (number ∙ e))
      by_value (inr e) = inr (ap number_in (number ∙ e))

  pub better_of : (kind : Kind) → IsOf kind a → IsOf kind b → IsOf kind n
  better_of kind of_a of_b = by_one is_one
    where
      by_one : (n ≡ a) ⊎ (n ≡ b) → IsOf kind n
      by_one (inl e) = subst (IsOf kind) (sym e) of_a
      by_one (inr e) = subst (IsOf kind) (sym e) of_b

-- the first number is both ends
pub first_ends : (kind : Kind) (numbers : List ℤ) (n : ℤ) → 0 < length numbers → n ≡ get_or numbers 0 n → IsOf kind n → AreEnds kind n n (take 1 (number_values kind numbers))
first_ends kind numbers n some is of =
    let f = λ (number : ℤ). datum kind number false in
    with_value (number_values kind numbers) 0 (f n) (omega (arith, some, length-map numbers f)) (ap f is ∙ sym (get_or-map f numbers 0 n (f n) some))
    false None (record { all = tt; known = tt; among = tt; null = refl }) (number_known kind n of)

-- and so are the better ones of the ends so far and the next number
pub next_ends : (kind : Kind) (numbers : List ℤ) (i : ℕ) (n least greatest low high : ℤ) → i < length numbers → n ≡ get_or numbers i n → IsOf kind n
    → datum kind low false ≡ lower (datum kind least false) (datum kind n false) → datum kind high false ≡ higher (datum kind greatest false) (datum kind n false)
    → AreEnds kind least greatest (take i (number_values kind numbers)) → AreEnds kind low high (take (i + 1) (number_values kind numbers))
next_ends kind numbers i n least greatest low high lt is of is_low is_high so_far =
    let f = λ (number : ℤ). datum kind number false in
    subst (λ (ends : Ends). AreBounds false ends (take (i + 1) (number_values kind numbers))) (ap₂ (λ (v w : Value). Some (v, w)) (sym is_low) (sym is_high))
    (with_value (number_values kind numbers) i (f n) (omega (arith, lt, length-map numbers f)) (ap f is ∙ sym (get_or-map f numbers i n (f n) lt))
    false (Some (f least, f greatest)) so_far (number_known kind n of))

-- ends of the kind, of the numbers up to a place
pub record NextEnds (kind : Kind) (numbers : List ℤ) (end : ℕ) (low high : ℤ) : Type 0 where
  pub of_low : IsOf kind low
  pub of_high : IsOf kind high
  pub ends : AreEnds kind low high (take end (number_values kind numbers))

-- the better ones of the ends so far and the next number
pub next_step : (kind : Kind) (numbers : List ℤ) (i : ℕ) (x least greatest lo hi low high : ℤ) → i < length numbers → x ≡ get_or numbers i (pos 0) → AllByRecursion (IsOf kind) numbers
    → IsOf kind least → IsOf kind greatest → AreEnds kind least greatest (take i (number_values kind numbers))
    → Number lo ≡ lower (Number least) (Number x) → Day lo ≡ lower (Day least) (Day x) → Number hi ≡ higher (Number greatest) (Number x) → Day hi ≡ higher (Day greatest) (Day x) → low ≡ lo → high ≡ hi
    → NextEnds kind numbers (i + 1) low high
next_step kind numbers i x least greatest lo hi low high lt is all of_least of_greatest so_far low_number low_day high_number high_day is_low is_high =
    let of_x : IsOf kind x = subst (IsOf kind) (sym is) (all-at (IsOf kind) numbers i (pos 0) lt all) in
    let of_lo : IsOf kind lo = better_of lower lower-choice.one least x lo low_number low_day kind of_least of_x in
    let of_hi : IsOf kind hi = better_of higher higher-choice.one greatest x hi high_number high_day kind of_greatest of_x in
    let next : NextEnds kind numbers (i + 1) lo hi = record {
      of_low = of_lo;
      of_high = of_hi;
      ends = next_ends kind numbers i x least greatest lo hi lt (is ∙ get_or_default numbers i (pos 0) x lt) of_x
          (better_datum lower lower-choice.one least x lo low_number low_day kind of_least of_x of_lo)
          (better_datum higher higher-choice.one greatest x hi high_number high_day kind of_greatest of_x of_hi) so_far;
    } in
    subst (λ (z : ℤ). NextEnds kind numbers (i + 1) z high) (sym is_low) (subst (λ (z : ℤ). NextEnds kind numbers (i + 1) lo z) (sym is_high) next)

-- one number and its value more
pub numbers_more : (kind : Kind) (numbers : List ℤ) (n : ℤ) (values : List Value) (v : Value) → AreNumbers kind numbers values → StandsFor kind n v → AreNumbers kind (numbers ++ n ∷ []) (values ++ v ∷ [])
numbers_more kind numbers n values v are stands = record {
  of = all-push (IsOf kind) numbers n are.of stands.of;
  same = map-append (λ (number : ℤ). datum kind number false) numbers (n ∷ []) ∙ ap₂ (λ (vs : List Value) (w : Value). vs ++ w ∷ []) are.same stands.same;
}
