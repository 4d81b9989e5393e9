-- What stands behind a clause of a query: each clause has its place, and the words of later clauses end it.
use Rattle.std.proofs.Common.{◌≡◌, ℕ, ◌≤◌, ◌<◌, List, [], ◌∷◌, ◌++◌, Option, Some, None, refl, sym, ap, subst, ◌∙◌, append_assoc, arith, inl, inr, ◌⊎◌}
use Rattle.cq_sql_language.specs.declared.token.Keyword.{Keyword}
use Rattle.cq_sql_language.specs.declared.token.Keyword.TheVariants as keywords
use Rattle.cq_sql_language.specs.declared.token.Symbol.{Symbol}
use Rattle.cq_sql_language.specs.declared.token.Token.{Token}
use Rattle.cq_sql_language.specs.declared.token.Token.TheVariants as tokens
use Rattle.cq_sql_language.specs.Parts.{◌before◌, IsWord, IsCondition, IsListBy}
use Rattle.cq_sql_language.specs.Query.{IsLimit}
use Rattle.cq_sql_language.specs.Written.{Written}
use Rattle.cq_sql_expressions.proofs.Conditions.{EndsExpression}
use Rattle.cq_sql_expressions.proofs.Tight.{joint}
use Rattle.cq_sql_expressions.specs.Lists.{after_join}
use Rattle.cq_sql_expressions.specs.Read.{after_keyword, after_symbol}
use Rattle.cq_sql_expressions.proofs.Exact.{Takes, keyword_takes, symbol_takes}
use Rattle.cq_sql.specs.Parts.{name_at}

-- the place of the clause that the word begins; no clause is 0
abbrev pub place_of : Keyword → ℕ
place_of keywords.Join = 1
place_of keywords.Inner = 1
place_of keywords.Where = 2
place_of keywords.Group = 3
place_of keywords.Having = 4
place_of keywords.Order = 5
place_of keywords.Limit = 6
place_of word = 0

-- the place of the clause that begins in front of the tokens; the end is behind each
abbrev pub place : List Token → ℕ
place [] = 7
place (tokens.Keyword word ∷ ts) = place_of word
place (t ∷ ts) = 0

-- a function that takes one token takes nothing where that token is not in front
not_taken : {token : Token} (after : List Token → Option (List Token)) (ts : List Token) → Takes token after → ((us : List Token) → ts ≡ token ∷ us → ⊥) → after ts ≡ None
not_taken after ts takes other = by_after (after ts) refl where
  by_after : (left : Option (List Token)) → after ts ≡ left → after ts ≡ None
  by_after None there = there
  by_after (Some us) there = absurd (other us (takes.only ts us there))

-- a word of an earlier place does not stand in front
pub not_word : (word : Keyword) (ts : List Token) → place_of word < place ts → after_keyword word ts ≡ None
not_word word ts lt = not_taken (after_keyword word) ts (keyword_takes word) (λ us is. omega (arith, lt, ap place is))

-- where a clause begins or nothing is left, no symbol stands in front
pub not_symbol : (symbol : Symbol) (ts : List Token) → 0 < place ts → after_symbol symbol ts ≡ None
not_symbol symbol ts lt = not_taken (after_symbol symbol) ts (symbol_takes symbol) (λ us is. omega (arith, lt, ap place is))

-- nor a name
pub not_name : (ts : List Token) → 0 < place ts → name_at ts ≡ None
not_name (tokens.Name name ∷ ts) lt = absurd (omega (arith, lt))
not_name ts lt = refl

-- nor JOIN from WHERE on
pub not_join : (ts : List Token) → 1 < place ts → after_join ts ≡ None
not_join (tokens.Keyword keywords.Join ∷ ts) lt = absurd (omega (arith, lt))
not_join (tokens.Keyword keywords.Inner ∷ ts) lt = absurd (omega (arith, lt))
not_join ts lt = refl

-- no word of a clause goes on with an expression
word_ends : (word : Keyword) → 0 < place_of word → joint (tokens.Keyword word) ≡ 0
word_ends keywords.Join lt = refl
word_ends keywords.Inner lt = refl
word_ends keywords.Where lt = refl
word_ends keywords.Group lt = refl
word_ends keywords.Having lt = refl
word_ends keywords.Order lt = refl
word_ends keywords.Limit lt = refl
word_ends word lt = absurd (omega (arith, lt))

-- where a clause begins or nothing is left, an expression ends
pub ends_expression : (ts : List Token) → 0 < place ts → EndsExpression ts
ends_expression [] lt = refl
ends_expression (tokens.Keyword word ∷ ts) lt = word_ends word lt
ends_expression (t ∷ ts) lt = absurd (omega (arith, lt))

-- ---- Clauses that may be left out
-- no tokens, or the word in front
abbrev pub MayStart : Keyword → List Token → Type 0
MayStart word ts = (ts ≡ []) ⊎ ((us : List Token) × (ts ≡ tokens.Keyword word ∷ us))

-- the word and more start with the word
pub word_starts : {More : List Token → Type 0} (word : Keyword) (ts : List Token) → (IsWord word before More) ts → MayStart word ts
word_starts word ts h = inr (h.1, rw (h.2, h.3) refl)

-- a condition may start with its word
pub condition_starts : (word : Keyword) (condition : Option Written) (ts : List Token) → IsCondition word condition ts → MayStart word ts
condition_starts word None ts h = inl h
condition_starts word (Some condition) ts h = word_starts word ts h

-- a list behind a word may start with it
pub list_starts : {A : Type 0} (Is : A → List Token → Type 0) (word : Keyword) (xs : List A) (ts : List Token) → IsListBy word Is xs ts → MayStart word ts
list_starts Is word [] ts h = inl h
list_starts Is word (x ∷ xs) ts h = word_starts word ts h

-- a limit may start with LIMIT
pub limit_starts : (limit : Option ℕ) (ts : List Token) → IsLimit limit ts → MayStart keywords.Limit ts
limit_starts None ts h = inl h
limit_starts (Some n) ts h = word_starts keywords.Limit ts h

-- what may start with a word stands at its place, or what follows it does
pub start_place : (n : ℕ) (word : Keyword) (ts rest : List Token) → MayStart word ts → n ≤ place_of word → n ≤ place rest → n ≤ place (ts ++ rest)
start_place n word ts rest (inl h) there next = rw h next
start_place n word ts rest (inr h) there next = rw h.1 there

-- so does what stands in front of other clauses
pub before_place : {Is More : List Token → Type 0} (n : ℕ) (word : Keyword) (rest : List Token) → ((ts : List Token) → Is ts → MayStart word ts) → n ≤ place_of word → ((ts : List Token) → More ts → n ≤ place (ts ++ rest))
    → (ts : List Token) → (Is before More) ts → n ≤ place (ts ++ rest)
before_place n word rest starts there next ts h =
    let split : ts ++ rest ≡ h.0 ++ (h.1 ++ rest) = ap (λ (us : List Token). us ++ rest) h.2 ∙ append_assoc h.0 h.1 rest in
    subst (λ (us : List Token). n ≤ place us) (sym split) (start_place n word h.0 (h.1 ++ rest) (starts h.0 h.3) there (next h.1 h.4))
