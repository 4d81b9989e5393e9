-- The test for LIKE decides the relation.
use Rattle.std.proofs.Common.{◌≡◌, ℕ, Bool, true, false, ◌&&◌, ◌||◌, eqb, List, [], ◌∷◌, ◌++◌, length, refl, sym, ◌∙◌, ap, arith, eqb-true, eq-eqb}
use Rattle.std.specs.List.{list_any}
use Rattle.cq_model.specs.Like.{percent, underscore, StandsFor, Fits, ends_of, is_nil, after_one, like}
use Rattle.cq_model_eval.specs.Laws.{LikeDecides}
use Rattle.cq_model_bags.proofs.Totals.{by_test}

-- some end of the text passes
pub any_end : (t : List ℕ → Bool) (text : List ℕ) → list_any t (ends_of text) ≡ true → (front : List ℕ) × (rest : List ℕ) × (text ≡ front ++ rest) × (t rest ≡ true)
any_end t [] h = by_test (t []) (λ k. ([], [], refl, k)) (λ k. absurd (let e : false ≡ true = sym (ap (λ b. b || false) k) ∙ h in cc))
any_end t (c ∷ cs) h = by_test (t (c ∷ cs))
    (λ k. ([], c ∷ cs, refl, k))
    (λ k. let q = any_end t cs (sym (ap (λ b. b || list_any t (ends_of cs)) k) ∙ h) in (c ∷ q.0, q.1, ap (λ (xs : List ℕ). c ∷ xs) q.2, q.3))

end_any : (t : List ℕ → Bool) (front rest : List ℕ) → t rest ≡ true → list_any t (ends_of (front ++ rest)) ≡ true
end_any t [] [] k = rw k refl
end_any t [] (c ∷ rest) k = rw k refl
end_any t (c ∷ front) rest k = by_test (t (c ∷ (front ++ rest))) (λ j. rw j refl) (λ j. rw j (end_any t front rest k))

pub one_of : (test : ℕ → Bool) (more : List ℕ → Bool) (text : List ℕ) → after_one test more text ≡ true → (c : ℕ) × (rest : List ℕ) × (text ≡ c ∷ rest) × (test c ≡ true) × (more rest ≡ true)
one_of test more [] h = absurd (cc)
one_of test more (c ∷ cs) h = by_test (test c)
    (λ k. (c, cs, refl, k, sym (ap (λ b. b && more cs) k) ∙ h))
    (λ k. absurd (let e : false ≡ true = sym (ap (λ b. b && more cs) k) ∙ h in cc))

stands_many : (p : ℕ) (front : List ℕ) → eqb p percent ≡ true → StandsFor p front
stands_many p front k = rw k tt

stands_one : (p c : ℕ) → eqb p percent ≡ false → eqb p underscore ≡ true → StandsFor p (c ∷ [])
stands_one p c k j = rw (k, j) (omega arith)

stands_itself : (p c : ℕ) → eqb p percent ≡ false → eqb p underscore ≡ false → eqb c p ≡ true → StandsFor p (c ∷ [])
stands_itself p c k j e = rw (k, j) (ap (λ (x : ℕ). x ∷ []) (eqb-true c p e))

pub Fits-from_like : (pattern text : List ℕ) → like pattern text ≡ true → Fits pattern text
Fits-from_like [] [] h = refl
Fits-from_like [] (c ∷ cs) h = absurd (cc)
Fits-from_like (p ∷ pattern) text h = by_test (eqb p percent)
    (λ k. let q = any_end (like pattern) text (rw k at h) in (q.0, q.1, q.2, stands_many p q.0 k, Fits-from_like pattern q.1 q.3))
    (λ k. by_test (eqb p underscore)
    (λ j. let q = one_of (λ c. true) (like pattern) text (rw (k, j) at h) in (q.0 ∷ [], q.1, q.2, stands_one p q.0 k j, Fits-from_like pattern q.1 q.4))
    (λ j. let q = one_of (λ c. eqb c p) (like pattern) text (rw (k, j) at h) in
    (q.0 ∷ [], q.1, q.2, stands_itself p q.0 k j q.3, Fits-from_like pattern q.1 q.4)))

-- what a character stands for is taken by the test
take_one : (p : ℕ) (pattern front rest : List ℕ) → StandsFor p front → like pattern rest ≡ true → like (p ∷ pattern) (front ++ rest) ≡ true
take_one p pattern front rest s h = by_test (eqb p percent)
    (λ k. rw k (end_any (like pattern) front rest h))
    (λ k. by_test (eqb p underscore)
    (λ j. rw (k, j) (one_taken front (rw (k, j) at s)))
    (λ j. rw (k, j) (itself_taken front (rw (k, j) at s))))
  where
    one_taken : (f : List ℕ) → length f ≡ 1 → after_one (λ c. true) (like pattern) (f ++ rest) ≡ true
    one_taken [] e = absurd (omega arith)
    one_taken (c ∷ []) e = h
    one_taken (c ∷ d ∷ f) e = absurd (omega arith)

    itself_taken : (f : List ℕ) → f ≡ p ∷ [] → after_one (λ c. eqb c p) (like pattern) (f ++ rest) ≡ true
    itself_taken f e = ap (λ (xs : List ℕ). after_one (λ c. eqb c p) (like pattern) (xs ++ rest)) e ∙ ap (λ b. b && like pattern rest) (eq-eqb p p refl) ∙ h

pub like-from_Fits : (pattern text : List ℕ) → Fits pattern text → like pattern text ≡ true
like-from_Fits [] text h = ap is_nil h
like-from_Fits (p ∷ pattern) text h = ap (like (p ∷ pattern)) h.2 ∙ take_one p pattern h.0 h.1 h.3 (like-from_Fits pattern h.1 h.4)

pub like_decides : LikeDecides
like_decides pattern text = (Fits-from_like pattern text, like-from_Fits pattern text)
