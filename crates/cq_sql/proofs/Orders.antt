-- What a result is sorted by is read exactly.
use Rattle.std.proofs.Common.{◌≡◌, Bool, true, false, List, [], ◌∷◌, ◌++◌, Some, None, refl, ap, subst, inl, inr}
use Rattle.cq_sql_language.specs.declared.statement.OrderKey.{OrderKey}
use Rattle.cq_sql_language.specs.declared.statement.OutputColumn.{OutputColumn}
use Rattle.cq_sql_language.specs.declared.statement.OutputColumn.TheVariants as outputs
use Rattle.cq_sql_language.specs.declared.token.Keyword.TheVariants as keywords
use Rattle.cq_sql_language.specs.declared.token.Token.{Token}
use Rattle.cq_sql_language.specs.declared.token.Token.TheVariants as tokens
use Rattle.cq_sql_language.specs.Parts.{◌before◌}
use Rattle.cq_sql_language.specs.Query.{output_token, IsDirection, IsOrderKey}
use Rattle.cq_sql_expressions.specs.Read.{after_keyword}
use Rattle.cq_sql_expressions.proofs.Exact.{Reads, Anything}
use Rattle.cq_sql_expressions.proofs.Steps.{by_same, last_makes, made_reads, next_makes}
use Rattle.cq_sql.specs.Queries.{output_at, direction_at, order_key_at}
use Rattle.std.proofs.lemmas.Option.{some_pair_parts}

-- name or int
abbrev IsOutput : OutputColumn → List Token → Type 0
IsOutput column ts = ts ≡ output_token column ∷ []

-- columns of the result are read exactly
output_reads : Reads Anything IsOutput output_at
output_reads = record { found = found; only = only } where
  found : (column : OutputColumn) (front rest : List Token) → IsOutput column front → Anything rest → output_at (front ++ rest) ≡ Some (column, rest)
  found (outputs.Named name) front rest h end = rw h refl
  found (outputs.At n) front rest h end = rw h refl

  only : (column : OutputColumn) (ts rest : List Token) → output_at ts ≡ Some (column, rest) → (front : List Token) × (ts ≡ front ++ rest) × IsOutput column front
  only column (tokens.Name name ∷ ts) rest e =
      let p = some_pair_parts (outputs.Named name) column ts rest e in
      (tokens.Name name ∷ [], ap (λ (us : List Token). tokens.Name name ∷ us) p.1, ap (λ (x : OutputColumn). output_token x ∷ []) p.0)
  only column (tokens.Number n ∷ ts) rest e =
      let p = some_pair_parts (outputs.At n) column ts rest e in
      (tokens.Number n ∷ [], ap (λ (us : List Token). tokens.Number n ∷ us) p.1, ap (λ (x : OutputColumn). output_token x ∷ []) p.0)
  only column ts rest e = absurd cc

-- neither ASC nor DESC follows
abbrev pub EndsOrderKey : List Token → Type 0
EndsOrderKey rest = (after_keyword keywords.Asc rest ≡ None) × (after_keyword keywords.Desc rest ≡ None)

-- where no word of a direction stands in front, it rises
no_direction : (ts : List Token) → EndsOrderKey ts → direction_at ts ≡ Some (false, ts)
no_direction (tokens.Keyword keywords.Desc ∷ ts) end = absurd (cc end.1)
no_direction (tokens.Keyword keywords.Asc ∷ ts) end = absurd (cc end.0)
no_direction ts end = refl

-- directions are read exactly, where neither ASC nor DESC follows
direction_reads : Reads EndsOrderKey IsDirection direction_at
direction_reads = record { found = found; only = only } where
  found : (is_descending : Bool) (front rest : List Token) → IsDirection is_descending front → EndsOrderKey rest → direction_at (front ++ rest) ≡ Some (is_descending, rest)
  found true front rest h end = rw h refl
  found false front rest (inl h) end = rw h (no_direction rest end)
  found false front rest (inr h) end = rw h refl

  only : (is_descending : Bool) (ts rest : List Token) → direction_at ts ≡ Some (is_descending, rest) → (front : List Token) × (ts ≡ front ++ rest) × IsDirection is_descending front
  only b (tokens.Keyword keywords.Desc ∷ ts) rest e =
      let p = some_pair_parts true b ts rest e in
      (tokens.Keyword keywords.Desc ∷ [], ap (λ (us : List Token). tokens.Keyword keywords.Desc ∷ us) p.1, subst (λ (x : Bool). IsDirection x (tokens.Keyword keywords.Desc ∷ [])) p.0 refl)
  only b (tokens.Keyword keywords.Asc ∷ ts) rest e =
      let p = some_pair_parts false b ts rest e in
      (tokens.Keyword keywords.Asc ∷ [], ap (λ (us : List Token). tokens.Keyword keywords.Asc ∷ us) p.1, subst (λ (x : Bool). IsDirection x (tokens.Keyword keywords.Asc ∷ [])) p.0 (inr refl))
  only b ts rest e =
      let p = some_pair_parts false b ts rest e in
      ([], p.1, subst (λ (x : Bool). IsDirection x []) p.0 (inl refl))

-- (name | int) [ASC | DESC]
abbrev IsOrderKeyOf : OrderKey → List Token → Type 0
IsOrderKeyOf k = IsOutput k.column before IsDirection k.is_descending

-- the parts of a key are read exactly
order_key_parts : Reads EndsOrderKey IsOrderKeyOf order_key_at
unfolding order_key_at
order_key_parts =
    made_reads {make = λ x. record { column = x.0; is_descending = x.1 }} (λ (k : OrderKey). (k.column, k.is_descending)) (λ k. refl) (λ x. refl) (next_makes output_reads (λ column. last_makes (λ is_descending. record { column = column; is_descending = is_descending }) direction_reads))

-- what a result is sorted by is read exactly, where neither ASC nor DESC follows
pub order_key_reads : Reads EndsOrderKey IsOrderKey order_key_at
order_key_reads = by_same order_key_parts to from where
  to : (k : OrderKey) (ts : List Token) → IsOrderKey k ts → IsOrderKeyOf k ts
  to k ts h = (output_token k.column ∷ [], h.0, h.1, refl, h.2)

  from : (k : OrderKey) (ts : List Token) → IsOrderKeyOf k ts → IsOrderKey k ts
  from k ts h = (h.1, rw (h.2, h.3) refl, h.4)
