-- What stands in the image of a row under SET.
use Rattle.std.proofs.Common.{◌≡◌, ◌+◌, ◌<◌, ◌++◌, ℕ, zero, suc, Bool, true, false, List, [], ◌∷◌, length, get_or, take, refl, sym, ap, ◌∙◌, arith, subst}
use Rattle.std.specs.Prelude.{◌==◌, if◌then◌else◌, slice_index_or, slice_set}
use Rattle.std.specs.List.{list_any}
use Rattle.std.proofs.lemmas.Bool.{eq-eqb, eqb-true}
use Rattle.std.proofs.lemmas.List.{take_more}
use Rattle.cq_values.specs.declared.value.Value.{Value}
use Rattle.cq_values.specs.declared.value.Value.TheVariants.{Null}
use Rattle.cq_values.specs.Value.{Row, column}
use Rattle.cq_model_bags.proofs.Totals.{by_test}
use Rattle.cq_model.specs.declared.assignment.Assignment.{Assignment}
use Rattle.cq_model.specs.Expr.{Expr}
use Rattle.cq_model.specs.Eval.{eval}
use Rattle.cq_model.specs.Write.{with_set}

-- ---- What stands in an image
-- a column that was set has its value
set_there : (row : Row) (i : ℕ) (v : Value) → i < length row → column (slice_set row i v) i ≡ v
set_there [] i v h = absurd (omega (arith, h))
set_there (x ∷ row) zero v h = refl
set_there (x ∷ row) (suc i) v h = set_there row i v (omega (arith, h))

-- and the others are as they were
set_elsewhere : (row : Row) (c i : ℕ) (v : Value) → (c ≡ i → ⊥) → column (slice_set row c v) i ≡ column row i
set_elsewhere [] c i v h = refl
set_elsewhere (x ∷ row) zero zero v h = absurd (h refl)
set_elsewhere (x ∷ row) zero (suc i) v h = refl
set_elsewhere (x ∷ row) (suc c) zero v h = refl
set_elsewhere (x ∷ row) (suc c) (suc i) v h = set_elsewhere row c i v (λ e. h (ap suc e))

column_set : (row : Row) (c i : ℕ) (v : Value) → i < length row → column (slice_set row c v) i ≡ (if c == i then v else column row i)
column_set row c i v h = by_test (c == i)
    (λ k. rw k (subst (λ n. column (slice_set row n v) i ≡ v) (sym (eqb-true c i k)) (set_there row i v h)))
    (λ k. rw k (set_elsewhere row c i v (λ e. absurd (let both : true ≡ false = sym (eq-eqb c i e) ∙ k in cc))))

-- setting a column leaves as many
length_set : (row : Row) (c : ℕ) (v : Value) → length (slice_set row c v) ≡ length row
length_set [] c v = refl
length_set (x ∷ row) zero v = refl
length_set (x ∷ row) (suc c) v = ap suc (length_set row c v)

pub length_with_set : (assignments : List Assignment) (old row : Row) → length (with_set assignments old row) ≡ length row
length_with_set [] old row = refl
length_with_set (a ∷ later) old row = length_with_set later old (slice_set row a.column (eval a.value old)) ∙ length_set row a.column (eval a.value old)

-- one assignment more sets its column, and leaves the others
set_more : (assignments : List Assignment) (i : ℕ) (a : Assignment) (old row : Row) (place : ℕ) → i < length assignments → slice_index_or assignments i a ≡ a → place < length row
    → column (with_set (take (suc i) assignments) old row) place ≡ (if a.column == place then eval a.value old else column (with_set (take i assignments) old row) place)
set_more [] i a old row place inside at within = absurd (omega (arith, inside))
set_more (b ∷ later) zero a old row place inside at within =
    ap (λ (x : Assignment). column (slice_set row x.column (eval x.value old)) place) at ∙ column_set row a.column place (eval a.value old) within
set_more (b ∷ later) (suc i) a old row place inside at within =
    set_more later i a old (slice_set row b.column (eval b.value old)) place (omega (arith, inside)) at (omega (arith, within, length_set row b.column (eval b.value old)))

pub value_more : (assignments : List Assignment) (i : ℕ) (a : Assignment) (old : Row) (place : ℕ) → i < length assignments → slice_index_or assignments i a ≡ a → place < length old
    → column (with_set (take (i + 1) assignments) old old) place ≡ (if a.column == place then eval a.value old else column (with_set (take i assignments) old old) place)
value_more assignments i a old place inside at within =
    let one : i + 1 ≡ suc i = omega arith in
    ap (λ (n : ℕ). column (with_set (take n assignments) old old) place) one ∙ set_more assignments i a old old place inside at within

-- one value more of a row
pub take_column : (row : Row) (i : ℕ) → i < length row → take (i + 1) row ≡ take i row ++ column row i ∷ []
take_column row i h = take_more row i Null h

-- ---- Lists in general
-- what is among the entries is seen
pub any_at : {X : Type 0} (p : X → Bool) (xs : List X) (i : ℕ) (x : X) → i < length xs → x ≡ get_or xs i x → p x ≡ true → list_any p xs ≡ true
any_at p [] i x h is hit = absurd (omega (arith, h))
any_at p (y ∷ xs) zero x h is hit = rw (ap p (sym is) ∙ hit) refl
any_at p (y ∷ xs) (suc i) x h is hit = by_test (p y) (λ k. rw k refl) (λ k. rw k (any_at p xs i x (omega (arith, h)) is hit))

-- and what is among the values of an expression in rows
pub any_value : (p : Value → Bool) (e : Expr) (rows : List Row) (i : ℕ) (row : Row) → i < length rows → row ≡ get_or rows i row → (v : Value) → v ≡ eval e row → true ≡ p v → true ≡ list_any (λ r. p (eval e r)) rows
any_value p e rows i row h is v value hit = sym (any_at (λ r. p (eval e r)) rows i row h is (sym (hit ∙ ap p value)))
