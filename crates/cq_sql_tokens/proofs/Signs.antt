-- The symbol in front of a text.
use Rattle.std.proofs.Common.{◌≡◌, ℕ, ◌<◌, ◌==◌, ◌||◌, ◌&&◌, true, false, cond, List, [], ◌∷◌, ◌++◌, length, drop, Option, Some, None, refl, sym, ap, ◌∙◌, subst, arith}
use Rattle.std.specs.Str.{IsUtf8, IsCharBoundary, IsAscii}
use Rattle.std.proofs.lemmas.Str.Ascii.{IsAscii-nil, IsAscii-cons}
use Rattle.cq_sql_language.specs.declared.token.Symbol.{Symbol}
use Rattle.cq_sql_language.specs.declared.token.Symbol.TheVariants as symbols
use Rattle.cq_sql_language.specs.Characters.{begins, is_blank, is_dash}
use Rattle.cq_sql_language.specs.Lexemes.{symbol_spelling, lengthens}
use Rattle.cq_sql_tokens.specs.Lexing.{symbol_at, less_at, greater_at, gap_at}
use Rattle.cq_sql_tokens.proofs.Decisions.{either, second_false}
use Rattle.cq_sql_tokens.proofs.Boundaries.{after_ascii_part}
use Rattle.std.proofs.lemmas.Bool.{eqb-true, or_from, or_parts}

abbrev Sign : Type 0
Sign = Symbol × ℕ

abbrev IsSpelling : List ℕ → Type 0
IsSpelling bs = IsAscii bs × (0 < length bs)

one : (b : ℕ) → b < 128 → IsSpelling (b ∷ [])
one b low = (IsAscii-cons b [] low IsAscii-nil, omega arith)

two : (b c : ℕ) → b < 128 → c < 128 → IsSpelling (b ∷ c ∷ [])
two b c low lower = (IsAscii-cons b (c ∷ []) low (IsAscii-cons c [] lower IsAscii-nil), omega arith)

-- a symbol is written in ASCII, and it is not empty
pub spelling_is_ascii : (s : Symbol) → IsAscii (symbol_spelling s) × (0 < length (symbol_spelling s))
spelling_is_ascii symbols.Open = one 40 (omega arith)
spelling_is_ascii symbols.Close = one 41 (omega arith)
spelling_is_ascii symbols.Comma = one 44 (omega arith)
spelling_is_ascii symbols.Dot = one 46 (omega arith)
spelling_is_ascii symbols.Equal = one 61 (omega arith)
spelling_is_ascii symbols.NotEqual = two 60 62 (omega arith) (omega arith)
spelling_is_ascii symbols.Less = one 60 (omega arith)
spelling_is_ascii symbols.LessOrEqual = two 60 61 (omega arith) (omega arith)
spelling_is_ascii symbols.Greater = one 62 (omega arith)
spelling_is_ascii symbols.GreaterOrEqual = two 62 61 (omega arith) (omega arith)
spelling_is_ascii symbols.Plus = one 43 (omega arith)
spelling_is_ascii symbols.Minus = one 45 (omega arith)
spelling_is_ascii symbols.Star = one 42 (omega arith)

none_longer : (bs : List ℕ) → begins (λ b. false) bs ≡ false
none_longer [] = refl
none_longer (b ∷ bs) = refl

-- the symbol and its length are these, and what follows does not lengthen it, where the text begins with no comment
pub record IsSign (text : List ℕ) (s : Symbol) (n : ℕ) : Type 0 where
  pub spelling : text ≡ symbol_spelling s ++ drop n text
  pub len : n ≡ length (symbol_spelling s)
  pub ends : gap_at text ≡ None → begins (lengthens s) (drop n text) ≡ false

abbrev sign : Symbol → ℕ → Option Sign
sign s n = Some (s, n)

symbol_of : Option Sign → Symbol
symbol_of (Some r) = r.0
symbol_of None = symbols.Star

len_of : Option Sign → ℕ
len_of (Some r) = r.1
len_of None = 0

same_sign : (s t : Symbol) (m n : ℕ) → sign s m ≡ sign t n → (s ≡ t) × (m ≡ n)
unfolding symbol_of len_of
same_sign s t m n e = (ap symbol_of e, ap len_of e)

moved : (text : List ℕ) (s t : Symbol) (m n : ℕ) → sign s m ≡ sign t n → IsSign text s m → IsSign text t n
moved text s t m n e h =
    let same = same_sign s t m n e in
    subst (λ (u : Symbol). IsSign text u n) same.0 (subst (λ (k : ℕ). IsSign text s k) same.1 h)

single : (b k : ℕ) (bs : List ℕ) (s : Symbol) → (b == k) ≡ true → symbol_spelling s ≡ k ∷ [] → (gap_at (b ∷ bs) ≡ None → begins (lengthens s) bs ≡ false) → IsSign (b ∷ bs) s 1
single b k bs s here is last = record {
  spelling = ap (λ (x : ℕ). x ∷ bs) (eqb-true b k here) ∙ ap (λ (xs : List ℕ). xs ++ bs) (sym is);
  len = sym (ap (λ (xs : List ℕ). length xs) is);
  ends = last;
}

double : (b c : ℕ) (bs : List ℕ) (s : Symbol) → symbol_spelling s ≡ b ∷ c ∷ [] → begins (lengthens s) bs ≡ false → IsSign (b ∷ c ∷ bs) s 2
double b c bs s is last = record {
  spelling = ap (λ (xs : List ℕ). xs ++ bs) (sym is);
  len = sym (ap (λ (xs : List ℕ). length xs) is);
  ends = λ _. last;
}

-- where no comment begins, a dash does not follow a dash
no_second_dash : (b : ℕ) (bs : List ℕ) → is_dash b ≡ true → gap_at (b ∷ bs) ≡ None → begins is_dash bs ≡ false
unfolding gap_at
no_second_dash b bs here none =
    either (is_blank b) (Some bs) _ None none (λ _ is. absurd cc)
    (λ _ more. either (is_dash b && begins is_dash bs) _ None None more (λ _ is. absurd cc) (λ no _. second_false (is_dash b) (begins is_dash bs) here no))

less_is : (bs : List ℕ) (t : Symbol) (n : ℕ) → Some (less_at bs) ≡ sign t n → IsSign (60 ∷ bs) t n
less_is [] t n e = moved (60 ∷ []) symbols.Less t 1 n e (single 60 60 [] symbols.Less refl refl (λ _. refl))
less_is (b ∷ bs) t n e =
    either (b == 62) (symbols.NotEqual, 2) (cond (b == 61) (symbols.LessOrEqual, 2) (symbols.Less, 1)) (less_at (b ∷ bs)) refl
    (λ here is. moved (60 ∷ b ∷ bs) symbols.NotEqual t 2 n (ap (λ (r : Sign). Some r) is ∙ e) (subst (λ (x : ℕ). IsSign (60 ∷ x ∷ bs) symbols.NotEqual 2) (sym (eqb-true b 62 here)) (double 60 62 bs symbols.NotEqual refl (none_longer bs))))
    (λ other more. either (b == 61) (symbols.LessOrEqual, 2) (symbols.Less, 1) (less_at (b ∷ bs)) more
    (λ here is. moved (60 ∷ b ∷ bs) symbols.LessOrEqual t 2 n (ap (λ (r : Sign). Some r) is ∙ e) (subst (λ (x : ℕ). IsSign (60 ∷ x ∷ bs) symbols.LessOrEqual 2) (sym (eqb-true b 61 here)) (double 60 61 bs symbols.LessOrEqual refl (none_longer bs))))
    (λ another is. moved (60 ∷ b ∷ bs) symbols.Less t 1 n (ap (λ (r : Sign). Some r) is ∙ e) (single 60 60 (b ∷ bs) symbols.Less refl refl (λ _. or_from (b == 62) (b == 61) other another))))

greater_is : (bs : List ℕ) (t : Symbol) (n : ℕ) → Some (greater_at bs) ≡ sign t n → IsSign (62 ∷ bs) t n
greater_is [] t n e = moved (62 ∷ []) symbols.Greater t 1 n e (single 62 62 [] symbols.Greater refl refl (λ _. refl))
greater_is (b ∷ bs) t n e =
    either (b == 61) (symbols.GreaterOrEqual, 2) (symbols.Greater, 1) (greater_at (b ∷ bs)) refl
    (λ here is. moved (62 ∷ b ∷ bs) symbols.GreaterOrEqual t 2 n (ap (λ (r : Sign). Some r) is ∙ e) (subst (λ (x : ℕ). IsSign (62 ∷ x ∷ bs) symbols.GreaterOrEqual 2) (sym (eqb-true b 61 here)) (double 62 61 bs symbols.GreaterOrEqual refl (none_longer bs))))
    (λ other is. moved (62 ∷ b ∷ bs) symbols.Greater t 1 n (ap (λ (r : Sign). Some r) is ∙ e) (single 62 62 (b ∷ bs) symbols.Greater refl refl (λ _. other)))

-- a symbol that is read is spelled so
pub sign_only : (text : List ℕ) (t : Symbol) (n : ℕ) → symbol_at text ≡ Some (t, n) → IsSign text t n
unfolding symbol_at
sign_only [] t n e = absurd cc
sign_only (b ∷ bs) t n e =
    either (b == 40) (sign symbols.Open 1) _ (sign t n) e (λ here is. moved (b ∷ bs) symbols.Open t 1 n is (single b 40 bs symbols.Open here refl (λ _. none_longer bs))) (λ _ e1.
    either (b == 41) (sign symbols.Close 1) _ (sign t n) e1 (λ here is. moved (b ∷ bs) symbols.Close t 1 n is (single b 41 bs symbols.Close here refl (λ _. none_longer bs))) (λ _ e2.
    either (b == 44) (sign symbols.Comma 1) _ (sign t n) e2 (λ here is. moved (b ∷ bs) symbols.Comma t 1 n is (single b 44 bs symbols.Comma here refl (λ _. none_longer bs))) (λ _ e3.
    either (b == 46) (sign symbols.Dot 1) _ (sign t n) e3 (λ here is. moved (b ∷ bs) symbols.Dot t 1 n is (single b 46 bs symbols.Dot here refl (λ _. none_longer bs))) (λ _ e4.
    either (b == 61) (sign symbols.Equal 1) _ (sign t n) e4 (λ here is. moved (b ∷ bs) symbols.Equal t 1 n is (single b 61 bs symbols.Equal here refl (λ _. none_longer bs))) (λ _ e5.
    either (b == 60) (Some (less_at bs)) _ (sign t n) e5 (λ here is. subst (λ (x : ℕ). IsSign (x ∷ bs) t n) (sym (eqb-true b 60 here)) (less_is bs t n is)) (λ _ e6.
    either (b == 62) (Some (greater_at bs)) _ (sign t n) e6 (λ here is. subst (λ (x : ℕ). IsSign (x ∷ bs) t n) (sym (eqb-true b 62 here)) (greater_is bs t n is)) (λ _ e7.
    either (b == 43) (sign symbols.Plus 1) _ (sign t n) e7 (λ here is. moved (b ∷ bs) symbols.Plus t 1 n is (single b 43 bs symbols.Plus here refl (λ _. none_longer bs))) (λ _ e8.
    either (b == 45) (sign symbols.Minus 1) _ (sign t n) e8 (λ here is. moved (b ∷ bs) symbols.Minus t 1 n is (single b 45 bs symbols.Minus here refl (no_second_dash b bs here))) (λ _ e9.
    either (b == 42) (sign symbols.Star 1) None (sign t n) e9 (λ here is. moved (b ∷ bs) symbols.Star t 1 n is (single b 42 bs symbols.Star here refl (λ _. none_longer bs))) (λ _ e10. absurd cc))))))))))

-- behind a symbol the text may be cut
pub after_sign : (text : List ℕ) (s : Symbol) (n : ℕ) → IsUtf8 text → symbol_at text ≡ Some (s, n) → IsCharBoundary text n
after_sign text s n utf8 e =
    let read : IsSign text s n = sign_only text s n e in
    subst (IsCharBoundary text) (sym read.len) (after_ascii_part text (symbol_spelling s) (drop n text) read.spelling (spelling_is_ascii s).0 utf8)

less_alone : (b : ℕ) (bs : List ℕ) → ((b == 62) || (b == 61)) ≡ false → less_at (b ∷ bs) ≡ (symbols.Less, 1)
less_alone b bs h = let parts = or_parts (b == 62) (b == 61) h in rw (parts.0, parts.1) refl

-- a symbol that is spelled is read
pub sign_found : (s : Symbol) (rest : List ℕ) → begins (lengthens s) rest ≡ false → symbol_at (symbol_spelling s ++ rest) ≡ Some (s, length (symbol_spelling s))
unfolding symbol_at
sign_found symbols.Open rest h = refl
sign_found symbols.Close rest h = refl
sign_found symbols.Comma rest h = refl
sign_found symbols.Dot rest h = refl
sign_found symbols.Equal rest h = refl
sign_found symbols.NotEqual rest h = refl
sign_found symbols.Less [] h = refl
sign_found symbols.Less (b ∷ bs) h = ap (λ (r : Sign). Some r) (less_alone b bs h)
sign_found symbols.LessOrEqual rest h = refl
sign_found symbols.Greater [] h = refl
sign_found symbols.Greater (b ∷ bs) h = rw h refl
sign_found symbols.GreaterOrEqual rest h = refl
sign_found symbols.Plus rest h = refl
sign_found symbols.Minus rest h = refl
sign_found symbols.Star rest h = refl
