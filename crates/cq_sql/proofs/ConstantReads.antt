-- Constants and rows are read exactly.
use Rattle.std.proofs.Common.{◌≡◌, ℕ, Bool, true, false, List, [], ◌∷◌, ◌++◌, Some, refl, ap, subst, ◌∙◌}
use Rattle.cq_sql_language.specs.declared.statement.Constant.{Constant}
use Rattle.cq_sql_language.specs.declared.statement.Constant.TheVariants as constants
use Rattle.cq_sql_language.specs.declared.statement.Literal.{Literal}
use Rattle.cq_sql_language.specs.declared.token.Keyword.TheVariants as keywords
use Rattle.cq_sql_language.specs.declared.token.Symbol.TheVariants as symbols
use Rattle.cq_sql_language.specs.declared.token.Token.{Token}
use Rattle.cq_sql_language.specs.declared.token.Token.TheVariants as tokens
use Rattle.cq_sql_language.specs.Parts.{IsLiteral, IsConstant, IsRow, sign_tokens}
use Rattle.cq_sql_expressions.proofs.Exact.{Reads, Makes, Anything, sign_leads}
use Rattle.cq_sql_expressions.proofs.Steps.{last_makes, lead_last, lead_makes, made_reads, part_makes}
use Rattle.cq_sql_expressions.proofs.Lists.{comma_reads}
use Rattle.cq_sql.specs.Parts.{literal_at, number_constant_at, constant_at, row_at}
use Rattle.std.proofs.lemmas.Option.{some_pair_parts}

-- whole numbers are read exactly, with their signs
literal_reads : Reads Anything IsLiteral literal_at
literal_reads = record { found = λ l front rest h end. by_sign l.is_negative l.magnitude front rest h; only = only } where
  by_sign : (b : Bool) (n : ℕ) (front rest : List Token) → front ≡ sign_tokens b ++ tokens.Number n ∷ [] → literal_at (front ++ rest) ≡ Some (record { is_negative = b; magnitude = n }, rest)
  by_sign true n front rest h = rw h refl
  by_sign false n front rest h = rw h refl

  only : (l : Literal) (ts rest : List Token) → literal_at ts ≡ Some (l, rest) → (front : List Token) × (ts ≡ front ++ rest) × IsLiteral l front
  only l (tokens.Number n ∷ ts) rest e =
      let p = some_pair_parts (record { is_negative = false; magnitude = n }) l ts rest e in
      (tokens.Number n ∷ [], ap (λ (us : List Token). tokens.Number n ∷ us) p.1, ap (λ (x : Literal). sign_tokens x.is_negative ++ tokens.Number x.magnitude ∷ []) p.0)
  only l (tokens.Symbol symbols.Minus ∷ tokens.Number n ∷ ts) rest e =
      let p = some_pair_parts (record { is_negative = true; magnitude = n }) l ts rest e in (
        tokens.Symbol symbols.Minus ∷ tokens.Number n ∷ [],
        ap (λ (us : List Token). tokens.Symbol symbols.Minus ∷ tokens.Number n ∷ us) p.1,
        ap (λ (x : Literal). sign_tokens x.is_negative ++ tokens.Number x.magnitude ∷ []) p.0,
      )
  only l ts rest e = absurd cc

-- a whole number is read exactly as a constant
number_makes : Makes Anything IsLiteral constants.Number number_constant_at
unfolding number_constant_at
number_makes = last_makes constants.Number literal_reads

-- constants are read exactly, by their first token
constant_reads : Reads Anything IsConstant constant_at
unfolding constant_at
constant_reads = record { found = found; only = only } where
  by_sign : (b : Bool) (n : ℕ) (front rest : List Token) → front ≡ sign_tokens b ++ tokens.Number n ∷ [] → constant_at (front ++ rest) ≡ number_constant_at (front ++ rest)
  by_sign true n front rest h = rw h refl
  by_sign false n front rest h = rw h refl

  found : (c : Constant) (front rest : List Token) → IsConstant c front → Anything rest → constant_at (front ++ rest) ≡ Some (c, rest)
  found constants.Null front rest h end = rw h refl
  found (constants.Number l) front rest h end = by_sign l.is_negative l.magnitude front rest h ∙ number_makes.found l front rest h end
  found (constants.Text text) front rest h end = rw h refl
  found (constants.Date text) front rest h end = rw h refl

  only : (c : Constant) (ts rest : List Token) → constant_at ts ≡ Some (c, rest) → (front : List Token) × (ts ≡ front ++ rest) × IsConstant c front
  only c (tokens.Keyword keywords.Null ∷ ts) rest e =
      let p = some_pair_parts constants.Null c ts rest e in
      (tokens.Keyword keywords.Null ∷ [], ap (λ (us : List Token). tokens.Keyword keywords.Null ∷ us) p.1, subst (λ (x : Constant). IsConstant x (tokens.Keyword keywords.Null ∷ [])) p.0 refl)
  only c (tokens.Text text ∷ ts) rest e =
      let p = some_pair_parts (constants.Text text) c ts rest e in
      (tokens.Text text ∷ [], ap (λ (us : List Token). tokens.Text text ∷ us) p.1, subst (λ (x : Constant). IsConstant x (tokens.Text text ∷ [])) p.0 refl)
  only c (tokens.Keyword keywords.Date ∷ tokens.Text text ∷ ts) rest e =
      let p = some_pair_parts (constants.Date text) c ts rest e in (
        tokens.Keyword keywords.Date ∷ tokens.Text text ∷ [],
        ap (λ (us : List Token). tokens.Keyword keywords.Date ∷ tokens.Text text ∷ us) p.1,
        subst (λ (x : Constant). IsConstant x (tokens.Keyword keywords.Date ∷ tokens.Text text ∷ [])) p.0 refl,
      )
  only c ts rest e =
      let o = number_makes.only c ts rest e in
      (o.1, o.3, subst (λ (x : Constant). IsConstant x o.1) o.2 o.4)

-- a number without a sign is read as it stands
pub whole_number_read : (n : ℕ) (ts : List Token) → constant_at (tokens.Number n ∷ ts) ≡ Some (constants.Number (record { is_negative = false; magnitude = n }), ts)
unfolding constant_at number_constant_at
whole_number_read n ts = refl

-- rows are read exactly
pub row_reads : Reads Anything IsRow row_at
unfolding row_at
row_reads =
    made_reads {X = List Constant × Unit {0}} {make = λ x. x.0} (λ row. (row, tt)) (λ row. refl) (λ x. refl) (lead_makes (sign_leads symbols.Open) (part_makes (comma_reads constant_reads (λ ts. tt)) (λ x back rest h end. (tt, rw h refl)) (λ row. lead_last row (sign_leads symbols.Close))))
