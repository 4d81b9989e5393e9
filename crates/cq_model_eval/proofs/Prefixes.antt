-- A '%' lets the search go on from the first place where what is before it fits.
use Rattle.std.proofs.Common.{◌≡◌, ℕ, ◌+◌, ◌<◌, Bool, true, false, ◌||◌, eqb, List, [], ◌∷◌, ◌++◌, length, refl, sym, ◌∙◌, ap, arith, append_assoc}
use Rattle.std.proofs.lemmas.Str.{chars-nil}
use Rattle.std.specs.List.{list_any}
use Rattle.std.specs.Str.{chars}
use Rattle.cq_model.specs.Like.{percent, underscore, ends_of, after_one, like, fits_some_end}
use Rattle.cq_model_eval.specs.PatternPrefix.{Found, misfit, whole, open_end, prefix_match}
use Rattle.cq_model_eval.proofs.Likes.{any_end, one_of}
use Rattle.cq_model_bags.proofs.Totals.{by_test}

-- what fits the whole text fits an end of it
any_whole : (test : List ℕ → Bool) (text : List ℕ) → test text ≡ true → list_any test (ends_of text) ≡ true
any_whole test [] k = rw k refl
any_whole test (c ∷ text) k = rw k refl

-- an end of an end is an end
any_longer : (test : List ℕ → Bool) (front text : List ℕ) → list_any test (ends_of text) ≡ true → list_any test (ends_of (front ++ text)) ≡ true
any_longer test [] text k = k
any_longer test (c ∷ front) text k = by_test (test (c ∷ (front ++ text))) (λ j. rw j refl) (λ j. rw j (any_longer test front text k))

-- what a test of the first character finds
one_met : (test : ℕ → Bool) (more : List ℕ → Bool) (c : ℕ) (text : List ℕ) → test c ≡ true → after_one test more (c ∷ text) ≡ more text
one_met test more c text k = rw k refl

-- a sign that meets the character is taken off with it
like_met : (p : ℕ) (pattern : List ℕ) (c : ℕ) (text : List ℕ) → eqb p percent ≡ false → (eqb p underscore || eqb c p) ≡ true → like (p ∷ pattern) (c ∷ text) ≡ like pattern text
like_met p pattern c text k m = by_test (eqb p underscore) (λ j. rw (k, j) refl) (λ j. rw (k, j) (one_met (λ d. eqb d p) (like pattern) c text (rw j at m)))

like_unmet : (p : ℕ) (pattern : List ℕ) (c : ℕ) (text : List ℕ) → eqb p percent ≡ false → (eqb p underscore || eqb c p) ≡ false → like (p ∷ pattern) (c ∷ text) ≡ false
like_unmet p pattern c text k m = by_test (eqb p underscore) (λ j. absurd (let e : true ≡ false = rw j at m in cc)) (λ j. let e : eqb c p ≡ false = rw j at m in rw (k, j, e) refl)

like_short : (p : ℕ) (pattern : List ℕ) → eqb p percent ≡ false → like (p ∷ pattern) [] ≡ false
like_short p pattern k = by_test (eqb p underscore) (λ j. rw (k, j) refl) (λ j. rw (k, j) refl)

-- whether the pattern fits, by what its prefix found
abbrev pub fits_by : Found → Bool
fits_by misfit = false
fits_by whole = true
fits_by (open_end pattern text) = fits_some_end pattern text

pub like_prefix : (pattern text : List ℕ) → like pattern text ≡ fits_by (prefix_match pattern text)
like_prefix [] [] = refl
like_prefix [] (c ∷ text) = refl
like_prefix (p ∷ pattern) [] = by_test (eqb p percent) (λ k. rw k refl) (λ k. like_short p pattern k ∙ rw k refl)
like_prefix (p ∷ pattern) (c ∷ text) = by_test (eqb p percent)
    (λ k. rw k refl)
    (λ k. by_test (eqb p underscore || eqb c p)
    (λ m. like_met p pattern c text k m ∙ like_prefix pattern text ∙ rw (k, m) refl)
    (λ m. like_unmet p pattern c text k m ∙ rw (k, m) refl))

-- behind a '%' is the rest of the pattern, and the text as it is
open_many : (p : ℕ) (pattern text signs rest : List ℕ) → eqb p percent ≡ true → open_end signs rest ≡ prefix_match (p ∷ pattern) text → (signs ≡ pattern) × (rest ≡ text)
open_many p pattern [] signs rest k e = let same = rw k at e in (cc, cc)
open_many p pattern (c ∷ text) signs rest k e = let same = rw k at e in (cc, cc)

-- what is found behind another sign is found behind the next character
open_one : (p : ℕ) (pattern text signs rest : List ℕ) → eqb p percent ≡ false → open_end signs rest ≡ prefix_match (p ∷ pattern) text
    → (c : ℕ) × (after : List ℕ) × (text ≡ c ∷ after) × (open_end signs rest ≡ prefix_match pattern after)
open_one p pattern [] signs rest k e = absurd (let same : open_end signs rest ≡ misfit = rw k at e in cc)
open_one p pattern (c ∷ text) signs rest k e = by_test (eqb p underscore || eqb c p)
    (λ m. (c, text, refl, rw (k, m) at e))
    (λ m. absurd (let same : open_end signs rest ≡ misfit = rw (k, m) at e in cc))

-- a sign other than '%' takes one character
like_one : (p : ℕ) (pattern text : List ℕ) → eqb p percent ≡ false → like (p ∷ pattern) text ≡ true → (c : ℕ) × (after : List ℕ) × (text ≡ c ∷ after) × (like pattern after ≡ true)
like_one p pattern text k h = by_test (eqb p underscore)
    (λ j. let q = one_of (λ c. true) (like pattern) text (rw (k, j) at h) in (q.0, q.1, q.2, q.4))
    (λ j. let q = one_of (λ c. eqb c p) (like pattern) text (rw (k, j) at h) in (q.0, q.1, q.2, q.4))

-- an end without its first character is an end of the text without its own
end_after : (front text : List ℕ) (c d : ℕ) (whole_after after : List ℕ) → front ++ text ≡ c ∷ whole_after → text ≡ d ∷ after → (longer : List ℕ) × (whole_after ≡ longer ++ after)
end_after [] text c d whole_after after e is = ([], cc)
end_after (x ∷ front) text c d whole_after after e is = (
  front ++ d ∷ [],
  let same : whole_after ≡ front ++ text = cc in same ∙ ap (λ (xs : List ℕ). front ++ xs) is ∙ sym (append_assoc front (d ∷ []) after),
)

-- where the pattern fits an end of the text, what is left of the pattern fits an end of what is left of the text
open_longer : (pattern front text signs rest : List ℕ) → open_end signs rest ≡ prefix_match pattern (front ++ text) → like pattern text ≡ true → fits_some_end signs rest ≡ true
open_longer [] [] [] signs rest e h = absurd (cc)
open_longer [] [] (c ∷ text) signs rest e h = absurd (cc)
open_longer [] (c ∷ front) text signs rest e h = absurd (cc)
open_longer (p ∷ pattern) front text signs rest e h = by_test (eqb p percent)
    (λ k. let same = open_many p pattern (front ++ text) signs rest k e in
    let found : list_any (like pattern) (ends_of text) ≡ true = rw k at h in
    rw (same.0, same.1) (any_longer (like pattern) front text found))
    (λ k. let step = open_one p pattern (front ++ text) signs rest k e in
    let taken = like_one p pattern text k h in
    let longer = end_after front text step.0 taken.0 step.1 taken.1 step.2 taken.2 in
    open_longer pattern longer.0 taken.1 signs rest (step.3 ∙ ap (prefix_match pattern) longer.1) taken.3)

same_answer : (a b : Bool) → (a ≡ true → b ≡ true) → (b ≡ true → a ≡ true) → a ≡ b
same_answer true b f g = sym (f refl)
same_answer false true f g = g refl
same_answer false false f g = refl

-- behind a '%' the first place that was found serves for every other
pub open_same : (pattern text signs rest : List ℕ) → open_end signs rest ≡ prefix_match pattern text → fits_some_end signs rest ≡ fits_some_end pattern text
open_same pattern text signs rest e = same_answer (fits_some_end signs rest) (fits_some_end pattern text)
    (λ h. any_whole (like pattern) text (like_prefix pattern text ∙ ap fits_by (sym e) ∙ h))
    (λ h. let q = any_end (like pattern) text h in open_longer pattern q.0 q.1 signs rest (e ∙ ap (prefix_match pattern) q.2) q.3)

pub open_shorter : (pattern text signs rest : List ℕ) → open_end signs rest ≡ prefix_match pattern text → length signs + length rest < length pattern + length text
open_shorter [] [] signs rest e = absurd (cc)
open_shorter [] (c ∷ text) signs rest e = absurd (cc)
open_shorter (p ∷ pattern) text signs rest e = by_test (eqb p percent)
    (λ k. let same = open_many p pattern text signs rest k e in omega (arith, ap {B = ℕ} length same.0, ap {B = ℕ} length same.1))
    (λ k. let step = open_one p pattern text signs rest k e in omega (arith, ap {B = ℕ} length step.2, open_shorter pattern step.1 signs rest step.3))

pub whole_fits : (pattern text : List ℕ) → whole ≡ prefix_match pattern text → fits_some_end pattern text ≡ true
whole_fits pattern text e = any_whole (like pattern) text (like_prefix pattern text ∙ ap fits_by (sym e))

-- where the pattern does not fit the whole text, it fits an end without the first character or none
pub misfit_next : (pattern : List ℕ) (c : ℕ) (rest text : List ℕ) → text ≡ c ∷ rest → misfit ≡ prefix_match pattern text → fits_some_end pattern rest ≡ fits_some_end pattern text
misfit_next pattern c rest text is e = let no : like pattern text ≡ false = like_prefix pattern text ∙ ap fits_by (sym e) in rw is (let none : like pattern (c ∷ rest) ≡ false = rw is at no in rw none refl)

pub misfit_last : (pattern text : List ℕ) → text ≡ [] → misfit ≡ prefix_match pattern text → false ≡ fits_some_end pattern text
misfit_last pattern text is e = let no : like pattern text ≡ false = like_prefix pattern text ∙ ap fits_by (sym e) in rw is (let none : like pattern [] ≡ false = rw is at no in rw none refl)

empty_end : (text : List ℕ) → fits_some_end [] text ≡ true
empty_end [] = refl
empty_end (c ∷ text) = empty_end text

-- the empty pattern fits the empty end
pub empty_fits : (bytes text : List ℕ) → length bytes ≡ 0 → fits_some_end (chars bytes) text ≡ true
empty_fits [] text h = rw chars-nil (empty_end text)
empty_fits (b ∷ bytes) text h = absurd (omega arith)
