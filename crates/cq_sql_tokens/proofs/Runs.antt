-- Bytes that begin nothing, in front of a script.
use Rattle.std.proofs.Common.{◌≡◌, ℕ, ◌+◌, ◌==◌, ◌&&◌, ◌||◌, not, Bool, true, false, cond, List, [], ◌∷◌, length, take, drop, get_or, Option, Some, None, refl, sym, ap, ap₂, ◌∙◌, arith}
use Rattle.std.proofs.Math.Nat.{zero-add}
use Rattle.std.proofs.Math.Numerals.{one-add}
use Rattle.std.proofs.Math.Bool.{or-false}
use Rattle.std.specs.List.{prefix_len, list_all}
use Rattle.std.specs.Prelude.{unwrap_or}
use Rattle.std.proofs.lemmas.List.Sums.{prefix_len_is}
use Rattle.memchr.specs.Find.{IsFirstByte}
use Rattle.cq_sql_language.specs.Characters.{is_blank, is_quote, is_dash}
use Rattle.cq_sql_tokens.specs.declared.cutting.Context.{Context}
use Rattle.cq_sql_tokens.specs.declared.cutting.Context.TheVariants.{Outside}
use Rattle.cq_sql_tokens.specs.Cutting.{ends_piece, cut_end, cut_blank, is_blank_end, stays_blank, context_after}
use Rattle.cq_sql_tokens.specs.Runs.{is_plain}

-- a test that does not pass fails
fails : (v : Bool) → (v ≡ true → ⊥) → not v ≡ true
fails true h = absurd (h refl)
fails false h = refl

-- the first byte that passes a test stands behind the longest part where none does
pub first_is_prefix : (test : ℕ → Bool) (hay : List ℕ) (r : Option ℕ) → IsFirstByte test hay r → unwrap_or r (length hay) ≡ prefix_len (λ b. not (test b)) hay
first_is_prefix test hay None h =
    sym (prefix_len_is (λ b. not (test b)) hay (length hay) 0 (omega arith) (λ k less. fails (test (get_or hay k 0)) (h k (omega arith) less)) (λ more. absurd (omega arith)))
first_is_prefix test hay (Some n) h =
    sym (prefix_len_is (λ b. not (test b)) hay n 0 (omega (arith, h.0.high)) (λ k less. fails (test (get_or hay k 0)) (h.0.before k (omega arith) less)) (λ more. ap not h.1))

-- what a plain byte is not
plain_parts : (s q d : Bool) → not (s || q || d) ≡ true → (s ≡ false) × (q ≡ false) × (d ≡ false)
plain_parts true q d e = absurd cc
plain_parts false true d e = absurd cc
plain_parts false false true e = absurd cc
plain_parts false false false e = (refl, refl, refl)

-- a plain byte ends no piece
plain_goes_on : (b : ℕ) → is_plain b ≡ true → ends_piece Outside b ≡ false
plain_goes_on b e = (plain_parts (b == 59) (is_quote b) (is_dash b) e).0

-- what follows a plain byte stands outside
plain_stays : (b : ℕ) → is_plain b ≡ true → context_after Outside b ≡ Outside
plain_stays b e = let p = plain_parts (b == 59) (is_quote b) (is_dash b) e in rw (p.1, p.2) refl

-- a plain byte stays blank where it is blank
plain_blank : (b : ℕ) → is_plain b ≡ true → stays_blank Outside b ≡ is_blank b
plain_blank b e = let p = plain_parts (b == 59) (is_quote b) (is_dash b) e in rw p.2 (or-false (is_blank b))

and_three : (u v w : Bool) → (u && (v && w)) ≡ ((u && v) && w)
and_three true v w = refl
and_three false v w = refl

-- a byte in front, by whether it is plain
end_here : (b : ℕ) (bs : List ℕ) (v : Bool) → is_plain b ≡ v → cut_end Outside bs ≡ prefix_len is_plain bs + cut_end Outside (drop (prefix_len is_plain bs) bs)
    → cond (ends_piece Outside b) 0 (1 + cut_end (context_after Outside b) bs) ≡ cond v (1 + prefix_len is_plain bs) 0 + cut_end Outside (drop (cond v (1 + prefix_len is_plain bs) 0) (b ∷ bs))
end_here b bs true e more =
    let n = prefix_len is_plain bs in
    let last : cut_end Outside (drop (1 + n) (b ∷ bs)) ≡ cut_end Outside (drop n bs) = ap (λ (k : ℕ). cut_end Outside (drop k (b ∷ bs))) (one-add n) in
    ap (λ (u : Bool). cond u 0 (1 + cut_end (context_after Outside b) bs)) (plain_goes_on b e) ∙ ap (λ (c : Context). 1 + cut_end c bs) (plain_stays b e) ∙ omega (arith, more, last)
end_here b bs false e more = sym (zero-add (cond (ends_piece Outside b) 0 (1 + cut_end (context_after Outside b) bs)))

-- the first cut is found behind the plain bytes in front
pub cut_end-plain : (bs : List ℕ) → cut_end Outside bs ≡ prefix_len is_plain bs + cut_end Outside (drop (prefix_len is_plain bs) bs)
cut_end-plain [] = refl
cut_end-plain (b ∷ bs) = end_here b bs (is_plain b) refl (cut_end-plain bs)

blank_here : (b : ℕ) (bs : List ℕ) (v : Bool) → is_plain b ≡ v → cut_blank Outside bs ≡ (list_all is_blank (take (prefix_len is_plain bs) bs) && cut_blank Outside (drop (prefix_len is_plain bs) bs))
    → cond (ends_piece Outside b) (is_blank_end Outside) (stays_blank Outside b && cut_blank (context_after Outside b) bs)
    ≡ (list_all is_blank (take (cond v (1 + prefix_len is_plain bs) 0) (b ∷ bs)) && cut_blank Outside (drop (cond v (1 + prefix_len is_plain bs) 0) (b ∷ bs)))
blank_here b bs true e more =
    let n = prefix_len is_plain bs in
    let last : (list_all is_blank (take (1 + n) (b ∷ bs)) && cut_blank Outside (drop (1 + n) (b ∷ bs))) ≡ ((is_blank b && list_all is_blank (take n bs)) && cut_blank Outside (drop n bs)) =
    ap (λ (k : ℕ). list_all is_blank (take k (b ∷ bs)) && cut_blank Outside (drop k (b ∷ bs))) (one-add n) in
    ap (λ (u : Bool). cond u (is_blank_end Outside) (stays_blank Outside b && cut_blank (context_after Outside b) bs)) (plain_goes_on b e)
    ∙ ap₂ (λ (u : Bool) (c : Context). u && cut_blank c bs) (plain_blank b e) (plain_stays b e)
    ∙ ap (λ (u : Bool). is_blank b && u) more
    ∙ and_three (is_blank b) (list_all is_blank (take n bs)) (cut_blank Outside (drop n bs))
    ∙ sym last
blank_here b bs false e more = refl

-- a piece is blank where the plain bytes in front are blank and what follows leaves it so
pub cut_blank-plain : (bs : List ℕ) → cut_blank Outside bs ≡ (list_all is_blank (take (prefix_len is_plain bs) bs) && cut_blank Outside (drop (prefix_len is_plain bs) bs))
cut_blank-plain [] = refl
cut_blank-plain (b ∷ bs) = blank_here b bs (is_plain b) refl (cut_blank-plain bs)

-- the cut behind the plain bytes in front is the first cut
module _ (bytes rest : List ℕ) (n : ℕ) (n_is : n ≡ prefix_len is_plain bytes) (rest_is : rest ≡ drop n bytes) where
  pub end_behind : (end : ℕ) → end ≡ cut_end Outside rest → n + end ≡ cut_end Outside bytes
  end_behind end end_is = rw (end_is, rest_is, n_is) (sym (cut_end-plain bytes))

  pub blank_behind : (front : List ℕ) (all stays : Bool) → front ≡ take n bytes → all ≡ list_all is_blank front → stays ≡ cut_blank Outside rest → (all && stays) ≡ cut_blank Outside bytes
  blank_behind front all stays front_is all_is stays_is = rw (all_is, stays_is, front_is, rest_is, n_is) (sym (cut_blank-plain bytes))
