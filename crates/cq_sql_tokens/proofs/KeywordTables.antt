-- The tables of keywords.
use Rattle.std.proofs.Common.{◌≡◌, ℕ, ◌+◌, ◌<◌, ◌≤◌, ◌==◌, ◌&&◌, nat_le, Bool, true, false, cond, List, [], ◌∷◌, length, get_or, drop, map, Option, Some, None, ◌↔◌, refl, sym, ap, ◌∙◌, arith}
use Rattle.std.specs.Prelude.{IsTrue}
use Rattle.std.specs.List.{filter, find, list_all}
use Rattle.std.specs.Char.{to_ascii_lowercase}
use Rattle.std.specs.Cmp.Lexicographic.{bytes_decides}
use Rattle.std.proofs.lemmas.Bool.{and_parts, cond-false, false_from_ne_true, false≢true}
use Rattle.std.proofs.lemmas.Bool.Decides.{same_from_decides, nat_tests}
use Rattle.std.proofs.lemmas.List.{at_drop_more, length-map}
use denote.Ref.{Bor}
use Rattle.cq_values.specs.Texts.{is_text}
use Rattle.cq_sql_language.specs.declared.token.Keyword.{Keyword}
use Rattle.cq_sql_language.specs.Keywords.{all_keywords, keyword_of, keyword_spelling}
use Rattle.cq_sql_tokens.specs.Lexing.{found_in}

abbrev Entry : Type 0
Entry = Keyword × Bor (List ℕ)

-- a test that tells whether two texts are one is that of the definition
same_word : (r : Bool) (word spelling : List ℕ) → IsTrue r ↔ (word ≡ spelling) → is_text spelling word ≡ r
same_word r word spelling h =
    let texts = bytes_decides spelling word in
    same_from_decides (is_text spelling word) r texts (λ e. sym (h.0 e), λ e. h.1 (sym e))

module _ (table : List Entry) (word : List ℕ) (i : ℕ) (d : Entry) (r : Bool) (all : Option Keyword) (in_range : i < length table)
    (test : IsTrue r ↔ (map to_ascii_lowercase word ≡ map to_ascii_lowercase (get_or table i d).1.now)) (so_far : found_in (drop i table) word ≡ all) where
  -- the entry at the place, or those behind it
  turn : cond r (Some (get_or table i d).0) (found_in (drop (i + 1) table) word) ≡ all
  turn = sym (at_drop_more (λ (es : List Entry). found_in es word) table i d in_range ∙ rw (same_word r _ _ test) refl) ∙ so_far

  pub is_here : r ≡ true → Some (get_or table i d).0 ≡ all
  is_here e = rw e at turn

  pub is_behind : r ≡ false → found_in (drop (i + 1) table) word ≡ all
  is_behind e = rw e at turn

-- ---- keywords by their length

-- the word, in lower case, is the keyword
abbrev spells : List ℕ → Keyword → Bool
spells word k = is_text (keyword_spelling k) word

abbrev has_len : ℕ → Keyword → Bool
has_len n k = length (keyword_spelling k) == n

-- a word has the length of the keyword that it is
spelled_len : (word : List ℕ) (n : ℕ) (k : Keyword) → length word ≡ n → spells word k ≡ true → has_len n k ≡ true
spelled_len word n k len e =
    let same : length (keyword_spelling k) ≡ length word = ap (λ (xs : List ℕ). length xs) ((bytes_decides (keyword_spelling k) word).0 e) in
    grind (arith, nat_tests)

-- one keyword more, which has the length of the word or is not the word
one_more : (test : Keyword → Bool) (k : Keyword) (some all : List Keyword) (l : Bool) → (test k ≡ true → l ≡ true) → find test some ≡ find test all
    → find test (cond l (k ∷ some) some) ≡ find test (k ∷ all)
one_more test k some all true only e = ap (λ (r : Option Keyword). cond (test k) (Some k) r) e
one_more test k some all false only e = e ∙ sym (cond-false (test k) (Some k) (find test all) (false_from_ne_true (test k) (λ h. false≢true (only h))))

-- a word is looked for among the keywords of its length
found_by_len : (word : List ℕ) (n : ℕ) → length word ≡ n → (ks : List Keyword) → find (spells word) (filter (has_len n) ks) ≡ find (spells word) ks
found_by_len word n len [] = refl
found_by_len word n len (k ∷ ks) = one_more (spells word) k (filter (has_len n) ks) ks (has_len n k) (spelled_len word n k len) (found_by_len word n len ks)

pub keyword_by_len : (word : List ℕ) (n : ℕ) → length word ≡ n
    → find (λ k. is_text (keyword_spelling k) (map to_ascii_lowercase word)) (filter (λ k. length (keyword_spelling k) == n) all_keywords) ≡ keyword_of (map to_ascii_lowercase word)
unfolding keyword_of
keyword_by_len word n len = found_by_len (map to_ascii_lowercase word) n (length-map word to_ascii_lowercase ∙ len) all_keywords

-- a keyword has two letters at least, and eight at most
abbrev has_letters : Keyword → Bool
has_letters k = nat_le 2 (length (keyword_spelling k)) && nat_le (length (keyword_spelling k)) 8

not_spelled : (word : List ℕ) (k : Keyword) → has_letters k ≡ true → (2 ≤ length word → length word ≤ 8 → ⊥) → spells word k ≡ true → ⊥
not_spelled word k letters other e =
    let same : length (keyword_spelling k) ≡ length word = ap (λ (xs : List ℕ). length xs) ((bytes_decides (keyword_spelling k) word).0 e) in
    let parts = and_parts (nat_le 2 (length (keyword_spelling k))) (nat_le (length (keyword_spelling k)) 8) letters in
    other (grind (arith, nat_tests)) (grind (arith, nat_tests))

none_spelled : (word : List ℕ) (ks : List Keyword) → list_all has_letters ks ≡ true → (2 ≤ length word → length word ≤ 8 → ⊥) → find (spells word) ks ≡ None
none_spelled word [] letters other = refl
none_spelled word (k ∷ ks) letters other =
    let parts = and_parts (has_letters k) (list_all has_letters ks) letters in
    cond-false (spells word k) (Some k) (find (spells word) ks) (false_from_ne_true (spells word k) (not_spelled word k parts.0 other)) ∙ none_spelled word ks parts.1 other

-- so a word of another length is no keyword
pub no_keyword : (word : List ℕ) → (2 ≤ length word → length word ≤ 8 → ⊥) → None ≡ keyword_of (map to_ascii_lowercase word)
unfolding keyword_of
no_keyword word other = sym (none_spelled (map to_ascii_lowercase word) all_keywords refl (λ low high. other (omega (arith, length-map word to_ascii_lowercase)) (omega (arith, length-map word to_ascii_lowercase))))
