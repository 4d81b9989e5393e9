-- The numbers of vectors whose values are all of one kind.
use Rattle.std.proofs.Common.{◌≡◌, ℕ, zero, suc, Bool, true, false, List, [], ◌∷◌, map, length, ℤ, pos, ◌+ℤ◌, ◌<◌, get_or, replicate, refl, sym, ap, ◌∙◌, arith}
use Rattle.std.proofs.lemmas.List.{length-map}
use Rattle.std.proofs.lemmas.Simd.{length-replicate}
use lib.Lanes.{zip2}
use Rattle.cq_values.specs.declared.value.Value.{Value}
use Rattle.cq_values.specs.declared.value.Value.TheVariants.{Day, Number}
use Rattle.cq_values.specs.Order.{number}
use Rattle.cq_model.specs.Condition.{is_null}
use Rattle.cq_prims.specs.Numbers.{ShowsNumbers, above, unless}

-- a column shows its numbers
pub column_shows : (days : Bool) (ns ms : List ℤ) (vs : List Value) → ns ≡ ms → ms ≡ map number vs → vs ≡ zip2 (unless days) ms (map is_null vs) → ShowsNumbers days ns vs
column_shows days ns ms vs is numbers whole = record {
  long = ap length (is ∙ numbers) ∙ length-map vs number;
  whole = whole ∙ ap (λ (l : List ℤ). zip2 (unless days) l (map is_null vs)) (sym is);
}

constant_whole : (days : Bool) (n : ℕ) (m : ℤ) → replicate n (unless days m false) ≡ zip2 (unless days) (replicate n m) (map is_null (replicate n (unless days m false)))
constant_whole days zero m = refl
constant_whole true (suc n) m = ap (λ (l : List Value). Day m ∷ l) (constant_whole true n m)
constant_whole false (suc n) m = ap (λ (l : List Value). Number m ∷ l) (constant_whole false n m)

-- a constant shows its number in each place
pub constant_shows : (days : Bool) (n : ℕ) (m : ℤ) (ns : List ℤ) → ns ≡ replicate n m → ShowsNumbers days ns (replicate n (unless days m false))
constant_shows days n m ns is = record {
  long = ap length is ∙ length-replicate n m ∙ sym (length-replicate n (unless days m false));
  whole = constant_whole days n m ∙ ap (λ (l : List ℤ). zip2 (unless days) l (map is_null (replicate n (unless days m false)))) (sym is);
}

above_whole : (make : ℤ → Bool → Value) (base : ℤ) (xs : List ℕ) (flags : List Bool) → zip2 (λ (o : ℕ) (flag : Bool). make (base +ℤ pos o) flag) xs flags ≡ zip2 make (above base xs) flags
above_whole make base [] flags = refl
above_whole make base (x ∷ xs) [] = refl
above_whole make base (x ∷ xs) (f ∷ flags) = ap (λ (l : List Value). make (base +ℤ pos x) f ∷ l) (above_whole make base xs flags)

-- a column above a base shows the numbers there
pub above_shows : (days : Bool) (base : ℤ) (xs : List ℕ) (vs : List Value) → length xs ≡ length vs → vs ≡ zip2 (λ (o : ℕ) (flag : Bool). unless days (base +ℤ pos o) flag) xs (map is_null vs) → ShowsNumbers days (above base xs) vs
above_shows days base xs vs long whole = record {
  long = length-map xs (λ o. base +ℤ pos o) ∙ long;
  whole = whole ∙ above_whole (unless days) base xs (map is_null vs);
}

-- the number of a place above a base
pub above-at : (base : ℤ) (xs : List ℕ) (i : ℕ) → i < length xs → get_or (above base xs) i (pos 0) ≡ base +ℤ pos (get_or xs i 0)
above-at base [] i lt = absurd (omega (arith, lt))
above-at base (x ∷ xs) zero lt = refl
above-at base (x ∷ xs) (suc i) lt = above-at base xs i (omega (arith, lt))
