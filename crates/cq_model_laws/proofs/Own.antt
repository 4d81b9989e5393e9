-- WHERE implies a condition that is joined to the rest by AND.
use Rattle.std.proofs.Common.{◌≡◌, ℕ, ◌+◌, ◌-◌, ◌≤◌, ◌<◌, true, false, List, [], ◌∷◌, ◌++◌, length, get_or, replicate, Some, nat_le, nat_lt, refl, sym, ◌∙◌, ap, arith}
use Rattle.std.specs.List.{AllByRecursion}
use Rattle.std.proofs.Math.ListN.{get_or-append}
use Rattle.std.proofs.Math.Seq.{get_or-append_right}
use Rattle.std.proofs.lemmas.Bool.Decides.{nat_tests}
use Rattle.std.proofs.lemmas.List.{length-append, length-replicate}
use Rattle.cq_values.specs.declared.value.Value.TheVariants.{Null}
use Rattle.cq_values.specs.Truth.{is_true}
use Rattle.cq_values.specs.Value.{Row, column}
use Rattle.cq_model_bags.proofs.Totals.{by_test}
use Rattle.cq_model.specs.Expr.{Cond}
use Rattle.cq_model.specs.Condition.{holds}
use Rattle.cq_model.specs.Meaning.{keeps}
use Rattle.cq_model.specs.Own.{is_within, tests_only, IsPart, in_place, passes_own, AreOwn}
use Rattle.cq_model.specs.Pushed.{IsImplied}
use Rattle.cq_model_laws.proofs.Names.{both-first, both-second, holds-same}
use Rattle.cq_model.proofs.Conditions.{part-true}

-- the columns of a part are those of its row in place
pub column-part : (before wide : ℕ) (r s t : Row) → length r ≡ before → length s ≡ wide → (i : ℕ) → is_within before wide i ≡ true → column (r ++ s ++ t) i ≡ column (in_place before s) i
column-part before wide r s t e w i h =
    let low : before ≤ i = grind (arith, nat_tests, both-first (nat_le before i) (nat_lt i (before + wide)) h) in
    let high : i < before + wide = grind (arith, nat_tests, both-second (nat_le before i) (nat_lt i (before + wide)) h) in
    let from_r : length r ≤ i = omega (arith, e, low) in
    let from_nulls : length (replicate before Null) ≤ i = omega (arith, length-replicate before Null, low) in
    let inside : i < length (r ++ s) = omega (arith, length-append r s, e, w, high) in
    get_or-append (r ++ s) t Null i inside ∙ get_or-append_right r s i Null from_r
    ∙ ap (λ n. get_or s (i - n) Null) (e ∙ sym (length-replicate before Null))
    ∙ sym (get_or-append_right (replicate before Null) s i Null from_nulls)

-- where WHERE is True, the row in place passes
own-true : (filter : Cond) (before wide : ℕ) (r s t : Row) → length r ≡ before → length s ≡ wide → is_true (holds filter (r ++ s ++ t)) ≡ true
    → (cs : List Cond) → AllByRecursion (λ c. tests_only before wide c ≡ true) cs → AllByRecursion (λ c. IsPart c filter) cs → passes_own before cs s ≡ true
own-true filter before wide r s t e w h [] named parts = refl
own-true filter before wide r s t e w h (c ∷ cs) named parts =
    let there = part-true c filter parts.0 (r ++ s ++ t) h in
    let here : is_true (holds c (in_place before s)) ≡ true =
    ap is_true (sym (holds-same before wide (r ++ s ++ t) (in_place before s) (column-part before wide r s t e w) c named.0)) ∙ there in
    rw here (own-true filter before wide r s t e w h cs named.1 parts.1)

-- so WHERE implies a source's own conditions
pub own-implied : (filter : Cond) (before wide : ℕ) (cs : List Cond) → AreOwn filter before wide cs → IsImplied (keeps (Some filter)) (passes_own before cs) before wide
own-implied filter before wide cs own = record {
  at = λ r s t e w fails. by_test (is_true (holds filter (r ++ s ++ t)))
      (λ h. absurd (let k : true ≡ false = sym (own-true filter before wide r s t e w h cs own.named own.parts) ∙ fails in cc))
      (λ h. h);
}
