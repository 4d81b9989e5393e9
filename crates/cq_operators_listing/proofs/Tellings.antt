-- What ranks tell of how values and rows compare.
use Rattle.std.proofs.Common.{if◌then◌else◌, ◌≡◌, ◌<◌, ◌≤◌, ℕ, zero, suc, ◌+◌, ◌*◌, ◌-◌, ◌%◌, ◌^◌, ◌/◌, ℤ, Bool, true, false, List, [], ◌∷◌, refl, sym, ◌∙◌, ap, subst, arith, Ordering, Less, Equal, Greater, nat_cmp, int_cmp, nat_lt}
use mathlib.Core.Logic.{◌⊎◌, inl, inr, ⊎_elim}
use Rattle.std.specs.Ordering.{ordering_then}
use Rattle.std.specs.Cmp.{nat_cmp_is, int_cmp_is}
use Rattle.std.specs.Cmp.Lexicographic.{slice_cmp}
use Rattle.std.proofs.lemmas.Bool.{ltb-true, ltb-false}
use Rattle.std.proofs.lemmas.Bool.Decides.{nat_tests}
use Rattle.std.proofs.Math.Nat.{mul-le-mul_right, add-mul, mul_assoc, mul_left_comm}
use Rattle.cq_values.specs.declared.value.Value.{Value}
use Rattle.cq_values.specs.declared.value.Value.TheVariants.{Null, Number, Text, Day}
use Rattle.cq_values.specs.Order.{value_cmp}
use Rattle.cq_model_bags.specs.Listing.{directed}
use Rattle.cq_model_bags.proofs.Totals.{by_test}
use Rattle.cq_operators_listing.specs.Ranks.{is_own, number_rank, texts_of, text_rank, value_rank, directed_rank, joined}
use Rattle.cq_model_bags.proofs.Widths.{then-equal}

-- what two ranks tell of how their values compare
pub record Tells (p q : ℕ) (o : Ordering) : Type 0 where
  pub less : p < q → o ≡ Less
  pub greater : q < p → o ≡ Greater
  pub equal : p ≡ q → is_own p ≡ true → o ≡ Equal

-- ---- comparisons of numbers
nat_less : (a b : ℕ) → a < b → nat_cmp a b ≡ Less
nat_less a b h = sym (nat_cmp_is a b Less h)

nat_equal : (a b : ℕ) → a ≡ b → nat_cmp a b ≡ Equal
nat_equal a b h = sym (nat_cmp_is a b Equal h)

nat_greater : (a b : ℕ) → b < a → nat_cmp a b ≡ Greater
nat_greater a b h = sym (nat_cmp_is a b Greater h)

-- an even number is twice its half
own-even : (p : ℕ) → is_own p ≡ true → p % 2 ≡ 0
own-even p h = grind (arith, nat_tests, h)

-- ---- ranks that tell all
below : (p q : ℕ) → p < q → Tells p q Less
below p q h = record { less = λ k. refl; greater = λ k. absurd (omega (arith, h, k)); equal = λ k e. absurd (omega (arith, h, k)) }

above : (p q : ℕ) → q < p → Tells p q Greater
above p q h = record { less = λ k. absurd (omega (arith, h, k)); greater = λ k. refl; equal = λ k e. absurd (omega (arith, h, k)) }

-- an even number more on both sides
shifted : (j p q : ℕ) (o : Ordering) → Tells p q o → Tells (2 * j + p) (2 * j + q) o
shifted j p q o t = record {
  less = λ k. t.less (omega (arith, k));
  greater = λ k. t.greater (omega (arith, k));
  equal = λ k e. t.equal (omega (arith, k)) (own-less j p e);
}
  where
    own-less : (j p : ℕ) → is_own (2 * j + p) ≡ true → is_own p ≡ true
    own-less j p e = let k = own-even (2 * j + p) e in grind (arith, nat_tests, k)

-- ---- numbers
number-tells : (m n : ℤ) → Tells (number_rank m) (number_rank n) (int_cmp m n)
number-tells m n = record {
  less = λ h. sym (int_cmp_is m n Less (grind (arith, h)));
  greater = λ h. sym (int_cmp_is m n Greater (grind (arith, h)));
  equal = λ h e. sym (int_cmp_is m n Equal (let k = own-even (number_rank m) e in grind (arith, h, k)));
}

number-small : (n : ℤ) → number_rank n < 2 ^ 62
number-small n = grind arith

-- ---- texts
pub text-small : (n : ℕ) (t : List ℕ) → text_rank n t < texts_of n
text-small zero [] = omega arith
text-small zero (b ∷ t) = omega arith
text-small (suc n) [] = let h = text-small n [] in omega (arith, h)
text-small (suc n) (b ∷ t) = by_test (nat_lt b 256)
    (λ k. rw k (let e = mul-le-mul_right {m = b + 1} {n = 256} (texts_of n) (let l = ltb-true b 256 k in omega (arith, l)) in omega (arith, e, text-small n t)))
    (λ k. rw k (let h = text-small n [] in omega (arith, h)))

-- a text that is not empty has a rank above 0
text-some : (n b : ℕ) (t : List ℕ) → 0 < text_rank (suc n) (b ∷ t)
text-some n b t = by_test (nat_lt b 256)
    (λ k. rw k (let e = mul-le-mul_right {m = 1} {n = b + 1} (texts_of n) (omega arith) in let w = text-small n [] in omega (arith, e, w)))
    (λ k. rw k (let w = text-small n [] in omega (arith, w)))

texts-even : (n : ℕ) → texts_of n ≡ 2 * (texts_of n / 2)
texts-even zero = refl
texts-even (suc n) = let h = texts-even n in omega (arith, h)

-- texts of the same front share a rank that is odd
odd-last : (n p : ℕ) → p ≡ texts_of (suc n) - 1 → is_own p ≡ true → ⊥
odd-last n p h e = let w = texts-even n in let k = own-even p e in let s = text-small n [] in omega (arith, h, w, k, s)

-- a greater first byte has no smaller rank
no_less : (n a b : ℕ) (s t : List ℕ) → a < b → text_rank (suc n) (b ∷ t) < text_rank (suc n) (a ∷ s) → ⊥
no_less n a b s t h k = let r = risen n a b s t h in omega (arith, r, k)
  where
    risen : (n a b : ℕ) (s t : List ℕ) → a < b → text_rank (suc n) (a ∷ s) ≤ text_rank (suc n) (b ∷ t)
    risen n a b s t h = by_test (nat_lt b 256)
        (λ k. by_test (nat_lt a 256)
        (λ j. rw (k, j) (let e = mul-le-mul_right {m = a + 2} {n = b + 1} (texts_of n) (omega (arith, h)) in omega (arith, e, add-mul (a + 1) 1 (texts_of n), text-small n s)))
        (λ j. let p = ltb-true b 256 k in let q = ltb-false a 256 j in absurd (omega (arith, p, q, h))))
        (λ k. let p = text-small (suc n) (a ∷ s) in rw k (omega (arith, p)))

-- nor the same one, where it is that of one value
no_tie : (n a b : ℕ) (s t : List ℕ) → a < b → text_rank (suc n) (a ∷ s) ≡ text_rank (suc n) (b ∷ t) → is_own (text_rank (suc n) (a ∷ s)) ≡ true → ⊥
no_tie n a b s t h e own = by_test (nat_lt b 256)
    (λ k. by_test (nat_lt a 256)
    (λ j. let d = rw (k, j) at e in let m = mul-le-mul_right {m = a + 2} {n = b + 1} (texts_of n) (omega (arith, h)) in omega (arith, d, m, add-mul (a + 1) 1 (texts_of n), text-small n s))
    (λ j. let p = ltb-true b 256 k in let q = ltb-false a 256 j in absurd (omega (arith, p, q, h))))
    (λ k. let d = rw k at e in odd-last n (text_rank (suc n) (a ∷ s)) d own)

-- behind the same byte the rest decides
same_byte : (n a : ℕ) (s t : List ℕ) (o : Ordering) → Tells (text_rank n s) (text_rank n t) o → Tells (text_rank (suc n) (a ∷ s)) (text_rank (suc n) (a ∷ t)) o
same_byte n a s t o rest = by_test (nat_lt a 256)
    (λ k. rw k (let w = texts-even n in let m = mul_assoc (a + 1) 2 (texts_of n / 2) in shifted_by ((a + 1) * texts_of n) ((a + 1) * (texts_of n / 2)) _ _ o (double (a + 1) (texts_of n) (texts_of n / 2) w) rest))
    (λ k. rw k (record { less = λ h. absurd (omega (arith, h)); greater = λ h. absurd (omega (arith, h)); equal = λ h e. absurd (odd-last n (texts_of (suc n) - 1) refl e) }))
  where
    shifted_by : (c j p q : ℕ) (o : Ordering) → c ≡ 2 * j → Tells p q o → Tells (c + p) (c + q) o
    shifted_by c j p q o e t = subst (λ (c : ℕ). Tells (c + p) (c + q) o) (sym e) (shifted j p q o t)

    double : (a w h : ℕ) → w ≡ 2 * h → a * w ≡ 2 * (a * h)
    double a w h e = ap (λ (n : ℕ). a * n) e ∙ mul_left_comm a 2 h

-- the first byte decides, unless it is the same
first_byte : (n a b : ℕ) (s t : List ℕ) → Tells (text_rank n s) (text_rank n t) (slice_cmp nat_cmp s t)
    → Tells (text_rank (suc n) (a ∷ s)) (text_rank (suc n) (b ∷ t)) (ordering_then (nat_cmp a b) (slice_cmp nat_cmp s t))
first_byte n a b s t rest = by_test (nat_lt a b) rises (λ k. by_test (nat_lt b a) falls (λ j. same (let p = ltb-false a b k in let q = ltb-false b a j in omega (arith, p, q))))
  where
    rises : nat_lt a b ≡ true → Tells (text_rank (suc n) (a ∷ s)) (text_rank (suc n) (b ∷ t)) (ordering_then (nat_cmp a b) (slice_cmp nat_cmp s t))
    rises k = rw (nat_less a b (ltb-true a b k)) (record { less = λ h. refl; greater = λ h. absurd (no_less n a b s t (ltb-true a b k) h); equal = λ h e. absurd (no_tie n a b s t (ltb-true a b k) h e) })

    falls : nat_lt b a ≡ true → Tells (text_rank (suc n) (a ∷ s)) (text_rank (suc n) (b ∷ t)) (ordering_then (nat_cmp a b) (slice_cmp nat_cmp s t))
    falls k = rw (nat_greater a b (ltb-true b a k)) (record { less = λ h. absurd (no_less n b a t s (ltb-true b a k) h); greater = λ h. refl; equal = λ h e. absurd (no_tie n b a t s (ltb-true b a k) (sym h) (subst (λ (p : ℕ). is_own p ≡ true) h e)) })

    same : a ≡ b → Tells (text_rank (suc n) (a ∷ s)) (text_rank (suc n) (b ∷ t)) (ordering_then (nat_cmp a b) (slice_cmp nat_cmp s t))
    same e = subst (λ (z : ℕ). Tells (text_rank (suc n) (a ∷ s)) (text_rank (suc n) (z ∷ t)) (ordering_then (nat_cmp a z) (slice_cmp nat_cmp s t))) e (rw (nat_equal a a refl) (same_byte n a s t _ rest))

text-tells : (n : ℕ) (s t : List ℕ) → Tells (text_rank n s) (text_rank n t) (slice_cmp nat_cmp s t)
text-tells n [] [] = record { less = λ k. absurd (omega (arith, k)); greater = λ k. absurd (omega (arith, k)); equal = λ k e. refl }
text-tells zero [] (b ∷ t) = below 0 1 (omega arith)
text-tells zero (a ∷ s) [] = above 1 0 (omega arith)
text-tells zero (a ∷ s) (b ∷ t) = record { less = λ k. absurd (omega (arith, k)); greater = λ k. absurd (omega (arith, k)); equal = λ k e. absurd (cc e) }
text-tells (suc n) [] (b ∷ t) = below 0 (text_rank (suc n) (b ∷ t)) (text-some n b t)
text-tells (suc n) (a ∷ s) [] = above (text_rank (suc n) (a ∷ s)) 0 (text-some n a s)
text-tells (suc n) (a ∷ s) (b ∷ t) = first_byte n a b s t (text-tells n s t)

-- ---- values
-- what tells of an order tells of the same order written otherwise
told_as : (p q : ℕ) (o r : Ordering) → o ≡ r → Tells p q o → Tells p q r
told_as p q o r e t = subst (Tells p q) e t

pub value-tells : (v w : Value) → Tells (value_rank v) (value_rank w) (value_cmp v w)
value-tells (Number m) (Number n) = told_as _ _ (int_cmp m n) _ (sym (then-equal (int_cmp m n))) (number-tells m n)
value-tells (Number m) (Day n) = below _ _ (omega (arith, number-small m))
value-tells (Number m) (Text t) = below _ _ (omega (arith, number-small m))
value-tells (Number m) Null = below _ _ (omega (arith, number-small m))
value-tells (Day m) (Number n) = above _ _ (omega (arith, number-small n))
value-tells (Day m) (Day n) = told_as _ _ (int_cmp m n) _ (sym (then-equal (int_cmp m n))) (shifted (2 ^ 61) _ _ (int_cmp m n) (number-tells m n))
value-tells (Day m) (Text t) = below _ _ (omega (arith, number-small m))
value-tells (Day m) Null = below _ _ (omega (arith, number-small m))
value-tells (Text t) (Number n) = above _ _ (omega (arith, number-small n))
value-tells (Text t) (Day n) = above _ _ (omega (arith, number-small n))
value-tells (Text s) (Text t) = shifted (2 ^ 62) _ _ (slice_cmp nat_cmp s t) (text-tells 7 s t)
value-tells (Text t) Null = below _ _ (omega (arith, text-small 7 t))
value-tells Null (Number n) = above _ _ (omega (arith, number-small n))
value-tells Null (Day n) = above _ _ (omega (arith, number-small n))
value-tells Null (Text t) = above _ _ (omega (arith, text-small 7 t))
value-tells Null Null = record { less = λ k. absurd (omega (arith, k)); greater = λ k. absurd (omega (arith, k)); equal = λ k e. refl }

pub value-small : (v : Value) → value_rank v < 2 ^ 64
value-small (Number n) = omega (arith, number-small n)
value-small (Day n) = omega (arith, number-small n)
value-small (Text t) = omega (arith, text-small 7 t)
value-small Null = omega arith

-- ---- where different numbers lead, the order follows
pub record Leads (p q : ℕ) (o : Ordering) : Type 0 where
  pub less : p < q → o ≡ Less
  pub greater : q < p → o ≡ Greater

-- so they may be compared first
pub led : (p q : ℕ) (o : Ordering) → Leads p q o → ordering_then (nat_cmp p q) o ≡ o
led p q o l = by_test (nat_lt p q)
    (λ k. let h = ltb-true p q k in rw (nat_less p q h) (sym (l.less h)))
    (λ k. by_test (nat_lt q p)
    (λ j. let h = ltb-true q p j in rw (nat_greater p q h) (sym (l.greater h)))
    (λ j. rw (nat_equal p q (let a = ltb-false p q k in let b = ltb-false q p j in omega (arith, a, b))) refl))

pub directed-small : (descending : Bool) (rank : ℕ) → rank < 2 ^ 64 → directed_rank descending rank < 2 ^ 64
directed-small false rank h = h
directed-small true rank h = omega arith

pub directed-leads : (descending : Bool) (v w : Value) → Leads (directed_rank descending (value_rank v)) (directed_rank descending (value_rank w)) (directed descending v w)
directed-leads false v w = let t = value-tells v w in record { less = t.less; greater = t.greater }
directed-leads true v w =
    let t = value-tells w v in
    record { less = λ h. t.less (omega (arith, h)); greater = λ h. t.greater (omega (arith, h)) }

-- values of the same own rank tie
directed-ties : (descending : Bool) (v w : Value) → value_rank v ≡ value_rank w → is_own (value_rank v) ≡ true → directed descending v w ≡ Equal
directed-ties false v w e own = (value-tells v w).equal e own
directed-ties true v w e own = (value-tells w v).equal (sym e) (subst (λ (p : ℕ). is_own p ≡ true) e own)

-- ---- two ranks as one number
undirected : (descending : Bool) (p q : ℕ) → p < 2 ^ 64 → q < 2 ^ 64 → directed_rank descending p ≡ directed_rank descending q → p ≡ q
undirected false p q hp hq e = e
undirected true p q hp hq e = omega (arith, hp, hq, e)

-- a smaller number whose first part is not smaller has the same first part and a smaller second one
tied_first : (a b x y : ℕ) → y < 2 ^ 64 → b ≤ a → a * 2 ^ 64 + x < b * 2 ^ 64 + y → (a ≡ b) × (x < y)
tied_first a b x y small n h =
    let e : a ≡ b = omega (arith, small, n, h) in
    (e, omega (arith, e, h))

-- the second rank, where it counts
abbrev counted : Bool → ℕ → ℕ
counted own x = if own then x else 0

counted-small : (own : Bool) (x : ℕ) → x < 2 ^ 64 → counted own x < 2 ^ 64
counted-small true x h = h
counted-small false x h = omega arith

-- of a smaller number the first rank goes before, or it is the same of one value and the second is smaller
joined-less : (descending : Bool) (p q x y : ℕ) → p < 2 ^ 64 → q < 2 ^ 64 → y < 2 ^ 64 → joined descending p x < joined descending q y
    → (directed_rank descending p < directed_rank descending q) ⊎ ((p ≡ q) × (is_own p ≡ true) × (x < y))
joined-less descending p q x y hp hq hy h = by_test (nat_lt (directed_rank descending p) (directed_rank descending q)) (λ k. inl (ltb-true _ _ k)) (λ k. inr (tied (ltb-false _ _ k)))
  where
    tied : directed_rank descending q ≤ directed_rank descending p → (p ≡ q) × (is_own p ≡ true) × (x < y)
    tied k =
        let r = tied_first _ _ (counted (is_own p) x) (counted (is_own q) y) (counted-small (is_own q) y hy) k h in
        let e : p ≡ q = undirected descending p q hp hq r.0 in
        let s : counted (is_own p) x < counted (is_own p) y = subst (λ (n : ℕ). counted (is_own p) x < counted (is_own n) y) (sym e) r.1 in
        by_test (is_own p) (λ own. (e, own, let t = rw own at s in t)) (λ own. let t = rw own at s in absurd (omega (arith, t)))

pub joined-leads : (descending : Bool) (v w : Value) (x y : ℕ) (o : Ordering) → x < 2 ^ 64 → y < 2 ^ 64 → Leads x y o
    → Leads (joined descending (value_rank v) x) (joined descending (value_rank w) y) (ordering_then (directed descending v w) o)
joined-leads descending v w x y o hx hy l = record {
  less = λ h. ⊎_elim (λ k. rw ((directed-leads descending v w).less k) refl) (λ k. rw (directed-ties descending v w k.0 k.1) (l.less k.2))
      (joined-less descending (value_rank v) (value_rank w) x y (value-small v) (value-small w) hy h);
  greater = λ h. ⊎_elim (λ k. rw ((directed-leads descending v w).greater k) refl)
      (λ k. rw (directed-ties descending v w (sym k.0) (subst (λ (p : ℕ). is_own p ≡ true) k.0 k.1)) (l.greater k.2))
      (joined-less descending (value_rank w) (value_rank v) y x (value-small w) (value-small v) hx h);
}
