-- Names, numbers, texts and names of columns are read exactly.
use Rattle.std.proofs.Common.{◌≡◌, ℕ, List, [], ◌∷◌, ◌++◌, Option, Some, None, refl, ap, ◌∙◌}
use Rattle.cq_sql_language.specs.declared.token.Symbol.TheVariants as symbols
use Rattle.cq_sql_language.specs.declared.token.Token.{Token}
use Rattle.cq_sql_language.specs.declared.token.Token.TheVariants as tokens
use Rattle.cq_sql_language.specs.declared.written.ColumnName.{ColumnName}
use Rattle.cq_sql_language.specs.Parts.{IsName, IsNumber, IsText}
use Rattle.cq_sql_language.specs.Query.{IsColumnName}
use Rattle.cq_sql_language.specs.Spelling.{column_tokens}
use Rattle.cq_sql_expressions.specs.Read.{Reader, after_symbol}
use Rattle.cq_sql_expressions.proofs.Exact.{Reads, Anything}
use Rattle.cq_sql.specs.Parts.{name_at, number_at, text_at, column_name_at}
use Rattle.std.proofs.lemmas.Option.{some_pair_parts}

-- ---- Readers of one token
-- what was read is the token in front
in_front : {A : Type 0} (token_of : A → Token) (x y : A) (ts rest : List Token) → ◌≡◌ {A = Option (A × List Token)} (Some (y, ts)) (Some (x, rest)) → token_of y ∷ ts ≡ token_of x ∷ rest
in_front token_of x y ts rest e =
    let p = some_pair_parts y x ts rest e in
    rw (p.0, p.1) refl

-- a reader that takes the token of a thing, and nothing else, reads it exactly
token_reads : {A : Type 0} (token_of : A → Token) (item : Reader A) → ((x : A) (rest : List Token) → item (token_of x ∷ rest) ≡ Some (x, rest))
    → ((x : A) (ts rest : List Token) → item ts ≡ Some (x, rest) → ts ≡ token_of x ∷ rest) → Reads Anything (λ x ts. ts ≡ token_of x ∷ []) item
token_reads token_of item found only = record {
  found = λ x front rest h end. ap (λ (ts : List Token). item (ts ++ rest)) h ∙ found x rest;
  only = λ x ts rest e. (token_of x ∷ [], only x ts rest e, refl);
}

-- names are read exactly
pub name_reads : Reads Anything IsName name_at
name_reads = token_reads tokens.Name name_at (λ n rest. refl) only where
  only : (n : List ℕ) (ts rest : List Token) → name_at ts ≡ Some (n, rest) → ts ≡ tokens.Name n ∷ rest
  only n (tokens.Name m ∷ ts) rest e = in_front tokens.Name n m ts rest e
  only n ts rest e = absurd cc

-- numbers without a sign are read exactly
pub number_reads : Reads Anything IsNumber number_at
number_reads = token_reads tokens.Number number_at (λ n rest. refl) only where
  only : (n : ℕ) (ts rest : List Token) → number_at ts ≡ Some (n, rest) → ts ≡ tokens.Number n ∷ rest
  only n (tokens.Number m ∷ ts) rest e = in_front tokens.Number n m ts rest e
  only n ts rest e = absurd cc

-- texts are read exactly
pub text_reads : Reads Anything IsText text_at
text_reads = token_reads tokens.Text text_at (λ t rest. refl) only where
  only : (t : List ℕ) (ts rest : List Token) → text_at ts ≡ Some (t, rest) → ts ≡ tokens.Text t ∷ rest
  only t (tokens.Text text ∷ ts) rest e = in_front tokens.Text t text ts rest e
  only t ts rest e = absurd cc

-- no dot follows
abbrev pub EndsColumn : List Token → Type 0
EndsColumn rest = after_symbol symbols.Dot rest ≡ None

-- the name of a column is found, where no dot follows
column_found : (source : Option (List ℕ)) (name : List ℕ) (rest : List Token) → EndsColumn rest → column_name_at (column_tokens source name ++ rest) ≡ Some (record { source = source; name = name }, rest)
column_found (Some source) name rest end = refl
column_found None name [] end = refl
column_found None name (tokens.Symbol symbols.Dot ∷ rest) end = absurd (cc end)
column_found None name (t ∷ rest) end = refl

-- names of columns are read exactly, where no dot follows
pub column_name_reads : Reads EndsColumn IsColumnName column_name_at
column_name_reads = record { found = found; only = only } where
  found : (c : ColumnName) (front rest : List Token) → IsColumnName c front → EndsColumn rest → column_name_at (front ++ rest) ≡ Some (c, rest)
  found c front rest h end = rw h (column_found c.source c.name rest end)

  only : (c : ColumnName) (ts rest : List Token) → column_name_at ts ≡ Some (c, rest) → (front : List Token) × (ts ≡ front ++ rest) × IsColumnName c front
  only c (tokens.Name source ∷ tokens.Symbol symbols.Dot ∷ tokens.Name name ∷ ts) rest e =
      let p = some_pair_parts (record { source = Some source; name = name }) c ts rest e in (
        tokens.Name source ∷ tokens.Symbol symbols.Dot ∷ tokens.Name name ∷ [],
        ap (λ (us : List Token). tokens.Name source ∷ tokens.Symbol symbols.Dot ∷ tokens.Name name ∷ us) p.1,
        ap (λ (x : ColumnName). column_tokens x.source x.name) p.0,
      )
  only c (tokens.Name name ∷ ts) rest e =
      let p = some_pair_parts (record { source = None; name = name }) c ts rest e in
      (tokens.Name name ∷ [], ap (λ (us : List Token). tokens.Name name ∷ us) p.1, ap (λ (x : ColumnName). column_tokens x.source x.name) p.0)
  only c ts rest e = absurd cc
