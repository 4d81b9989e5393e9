-- Chains that are compared from their end.
use Rattle.std.proofs.Common.{◌≡◌, ◌∙◌, ◌<◌, ◌≤◌, ℕ, zero, suc, Bool, true, false, List, [], ◌∷◌, length, get_or, take, refl, sym, ap, arith}
use Rattle.std.specs.Prelude.{◌&&◌}
use Rattle.std.specs.List.{fold}
use Rattle.std.proofs.lemmas.List.{take_all}

-- as many parts as there are before a place, and the one there
chained-take : {K : Type 0} (join : K → K → K) (e : K) (xs : List K) (n : ℕ) (d : K) → n < length xs → fold join e (take (suc n) xs) ≡ join (fold join e (take n xs)) (get_or xs n d)
chained-take join e [] n d h = absurd (omega (arith, h))
chained-take join e (x ∷ xs) zero d h = refl
chained-take join e (x ∷ xs) (suc n) d h = chained-take join (join e x) xs n d (omega (arith, h))

and-true : (b : Bool) → (b && true) ≡ b
and-true true = refl
and-true false = refl

and-false : (b : Bool) → (b && false) ≡ false
and-false true = refl
and-false false = refl

module _ {K : Type 0} (same : K → K → Bool) (join : K → K → K) (xs : List K) (p : K) where
  -- so many parts of a chain are left to compare with this, which is left of another one
  abbrev pub Left : ℕ → K → Type 0
  Left n w = (e : K) → same (fold join e xs) p ≡ same (fold join e (take n xs)) w

  -- at first all of them
  pub all-left : (n : ℕ) → length xs ≤ n → Left n p
  all-left n h e = ap (λ (ys : List K). same (fold join e ys) p) (sym (take_all n xs h))

  -- two chains of one kind are one where their last parts are, and what stands before these
  module _ (pairs : (a x b y : K) → same (join a x) (join b y) ≡ (same a b && same x y)) (n : ℕ) (w : K) (inside : n < length xs) (left : Left (suc n) w) where
    last-of : (d : K) (e : K) → same (fold join e xs) p ≡ same (join (fold join e (take n xs)) (get_or xs n d)) w
    last-of d e = left e ∙ ap (λ (c : K). same c w) (chained-take join e xs n d inside)

    -- the other one has no last part of that kind
    pub none-left : K → ((a b : K) → same (join a b) w ≡ false) → (e : K) → same (fold join e xs) p ≡ false
    none-left d other e = last-of d e ∙ other (fold join e (take n xs)) (get_or xs n d)

    module _ (x b y : K) (is : x ≡ get_or xs n x) (ends : w ≡ join b y) where
      both-last : (e : K) → same (fold join e xs) p ≡ (same (fold join e (take n xs)) b && same x y)
      both-last e =
          last-of x e ∙ ap (λ (c : K). same (join (fold join e (take n xs)) c) w) (sym is) ∙ ap (same (join (fold join e (take n xs)) x)) ends
          ∙ pairs (fold join e (take n xs)) x b y

      -- the last parts are one
      pub less-left : same x y ≡ true → Left n b
      less-left k e = both-last e ∙ ap (λ (c : Bool). same (fold join e (take n xs)) b && c) k ∙ and-true (same (fold join e (take n xs)) b)

      -- or they are not
      pub other-left : same x y ≡ false → (e : K) → same (fold join e xs) p ≡ false
      other-left k e = both-last e ∙ ap (λ (c : Bool). same (fold join e (take n xs)) b && c) k ∙ and-false (same (fold join e (take n xs)) b)
