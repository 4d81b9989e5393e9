-- Readers that find exactly what a relation says.
use Rattle.std.proofs.Common.{◌≡◌, ◌<◌, Bool, true, false, List, [], ◌∷◌, ◌++◌, length, Option, Some, None, refl, ap, ◌∙◌, arith, inl, inr}
use Rattle.std.specs.Prelude.{if◌then◌else◌}
use denote.Enum.Bare.{sameb, same_true, true_same}
use Rattle.cq_sql_language.specs.contracts.token.Keyword as keyword
use Rattle.cq_sql_language.specs.contracts.token.Symbol as symbol
use Rattle.cq_sql_language.specs.declared.token.Keyword.{Keyword}
use Rattle.cq_sql_language.specs.declared.token.Keyword.TheVariants as keywords
use Rattle.cq_sql_language.specs.declared.token.Symbol.{Symbol}
use Rattle.cq_sql_language.specs.declared.token.Token.{Token}
use Rattle.cq_sql_language.specs.declared.token.Token.TheVariants as tokens
use Rattle.cq_sql_language.specs.Parts.{IsWord, IsSign}
use Rattle.cq_sql_language.specs.Query.{AreJoinWords}
use Rattle.cq_sql_expressions.specs.Lists.{after_join}
use Rattle.cq_sql_expressions.specs.Read.{◌>>=◌, Reader, after_keyword, after_symbol}

-- ---- What is stated of readers
-- the reader finds exactly what the relation says, where what follows ends it
pub record Reads {A : Type 0} (Ends : List Token → Type 0) (Is : A → List Token → Type 0) (item : Reader A) : Type 0 where
  pub found : (x : A) (front rest : List Token) → Is x front → Ends rest → item (front ++ rest) ≡ Some (x, rest)
  pub only : (x : A) (ts rest : List Token) → item ts ≡ Some (x, rest) → (front : List Token) × (ts ≡ front ++ rest) × Is x front

-- the reader finds exactly the parts that the relation says, and makes one thing of them
pub record Makes {X Y : Type 0} (Ends : List Token → Type 0) (Are : X → List Token → Type 0) (make : X → Y) (item : Reader Y) : Type 0 where
  pub found : (x : X) (front rest : List Token) → Are x front → Ends rest → item (front ++ rest) ≡ Some (make x, rest)
  pub only : (y : Y) (ts rest : List Token) → item ts ≡ Some (y, rest) → (x : X) × (front : List Token) × (make x ≡ y) × (ts ≡ front ++ rest) × Are x front

-- the function takes exactly what the relation says, which is not empty
pub record Leads (Is : List Token → Type 0) (after : List Token → Option (List Token)) : Type 0 where
  pub found : (front rest : List Token) → Is front → after (front ++ rest) ≡ Some rest
  pub only : (ts rest : List Token) → after ts ≡ Some rest → (front : List Token) × (ts ≡ front ++ rest) × Is front
  pub some : (front : List Token) → Is front → 0 < length front

-- the function takes exactly this token, and what it leaves is the rest
pub record Takes (token : Token) (after : List Token → Option (List Token)) : Type 0 where
  pub found : (rest : List Token) → after (token ∷ rest) ≡ Some rest
  pub only : (ts rest : List Token) → after ts ≡ Some rest → ts ≡ token ∷ rest

-- anything may follow
abbrev pub Anything : List Token → Type 0
Anything rest = Unit {0}

-- nothing may follow
abbrev pub Nothing : List Token → Type 0
Nothing rest = rest ≡ []

-- ---- Steps of readers
-- a step that was taken: what it had, and what it went on to
pub bind_some : {A B : Type 0} (o : Option A) (f : A → Option B) (y : B) → (o >>= f) ≡ Some y → (x : A) × (o ≡ Some x) × (f x ≡ Some y)
bind_some (Some x) f y e = (x, refl, e)
bind_some None f y e = absurd cc

-- the test was passed, and these are the tokens behind
if_some : (b : Bool) (ts rest : List Token) → (if b then Some ts else None) ≡ Some rest → (b ≡ true) × (ts ≡ rest)
if_some true ts rest e = (refl, cc)
if_some false ts rest e = absurd cc

-- ---- Words and signs
-- `after_keyword` takes its keyword and nothing else
pub keyword_takes : (k : Keyword) → Takes (tokens.Keyword k) (after_keyword k)
keyword_takes k = record { found = keyword_found k; only = keyword_only k } where
  keyword_found : (k : Keyword) (rest : List Token) → after_keyword k (tokens.Keyword k ∷ rest) ≡ Some rest
  keyword_found k rest = rw (true_same keyword.the_type k k refl) refl

  keyword_only : (k : Keyword) (ts rest : List Token) → after_keyword k ts ≡ Some rest → ts ≡ tokens.Keyword k ∷ rest
  keyword_only k [] rest e = absurd cc
  keyword_only k (tokens.Keyword first ∷ ts) rest e =
      let p = if_some (sameb keyword.the_type first k) ts rest e in
      let same : first ≡ k = same_true keyword.the_type tt first k p.0 in
      rw (same, p.1) refl
  keyword_only k (t ∷ ts) rest e = absurd cc

-- `after_symbol` takes its symbol and nothing else
pub symbol_takes : (s : Symbol) → Takes (tokens.Symbol s) (after_symbol s)
symbol_takes s = record { found = symbol_found s; only = symbol_only s } where
  symbol_found : (s : Symbol) (rest : List Token) → after_symbol s (tokens.Symbol s ∷ rest) ≡ Some rest
  symbol_found s rest = rw (true_same symbol.the_type s s refl) refl

  symbol_only : (s : Symbol) (ts rest : List Token) → after_symbol s ts ≡ Some rest → ts ≡ tokens.Symbol s ∷ rest
  symbol_only s [] rest e = absurd cc
  symbol_only s (tokens.Symbol first ∷ ts) rest e =
      let p = if_some (sameb symbol.the_type first s) ts rest e in
      let same : first ≡ s = same_true symbol.the_type tt first s p.0 in
      rw (same, p.1) refl
  symbol_only s (t ∷ ts) rest e = absurd cc

-- a function that takes one token takes what is that token alone
token_leads : (token : Token) (after : List Token → Option (List Token)) → Takes token after → Leads (λ ts. ts ≡ token ∷ []) after
token_leads token after takes = record {
  found = λ front rest h. ap (λ (ts : List Token). after (ts ++ rest)) h ∙ takes.found rest;
  only = λ ts rest e. (token ∷ [], takes.only ts rest e, refl);
  some = λ front h. omega (arith, ap (λ (ts : List Token). length ts) h);
}

-- a keyword is taken exactly
pub word_leads : (word : Keyword) → Leads (IsWord word) (after_keyword word)
word_leads word = token_leads (tokens.Keyword word) (after_keyword word) (keyword_takes word)

-- a symbol is taken exactly
pub sign_leads : (sign : Symbol) → Leads (IsSign sign) (after_symbol sign)
sign_leads sign = token_leads (tokens.Symbol sign) (after_symbol sign) (symbol_takes sign)

-- JOIN and INNER JOIN are taken exactly
pub join_leads : Leads AreJoinWords after_join
join_leads = record { found = found; only = only; some = some } where
  found : (front rest : List Token) → AreJoinWords front → after_join (front ++ rest) ≡ Some rest
  found front rest (inl h) = rw h refl
  found front rest (inr h) = rw (h.2, h.3, h.4) refl

  only : (ts rest : List Token) → after_join ts ≡ Some rest → (front : List Token) × (ts ≡ front ++ rest) × AreJoinWords front
  only (tokens.Keyword keywords.Join ∷ ts) rest e = (tokens.Keyword keywords.Join ∷ [], rw (the_rest ts rest e) refl, inl refl) where
    the_rest : (ts rest : List Token) → ◌≡◌ {A = Option (List Token)} (Some ts) (Some rest) → ts ≡ rest
    the_rest ts rest e = cc
  only (tokens.Keyword keywords.Inner ∷ tokens.Keyword keywords.Join ∷ ts) rest e = (
    tokens.Keyword keywords.Inner ∷ tokens.Keyword keywords.Join ∷ [],
    rw (the_rest ts rest e) refl,
    inr (tokens.Keyword keywords.Inner ∷ [], tokens.Keyword keywords.Join ∷ [], refl, refl, refl),
  ) where
    the_rest : (ts rest : List Token) → ◌≡◌ {A = Option (List Token)} (Some ts) (Some rest) → ts ≡ rest
    the_rest ts rest e = cc
  only ts rest e = absurd cc

  some : (front : List Token) → AreJoinWords front → 0 < length front
  some front (inl h) = omega (arith, ap (λ (ts : List Token). length ts) h)
  some front (inr h) =
      let whole : front ≡ tokens.Keyword keywords.Inner ∷ tokens.Keyword keywords.Join ∷ [] = rw (h.2, h.3, h.4) refl in
      omega (arith, ap (λ (ts : List Token). length ts) whole)
