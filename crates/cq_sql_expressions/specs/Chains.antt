-- Chains of parts, as readers on lists: what stands between the parts, and what they make.
use Rattle.std.specs.Prelude.{List, [], ◌∷◌, ◌++◌, length, fold, Option, Some, None}
use Rattle.std.specs.Option.{option_map}
use Rattle.cq_sql_language.specs.declared.token.Keyword.TheVariants as keywords
use Rattle.cq_sql_language.specs.declared.token.Symbol.TheVariants as symbols
use Rattle.cq_sql_language.specs.declared.token.Token.{Token}
use Rattle.cq_sql_language.specs.declared.token.Token.TheVariants as tokens
use Rattle.cq_sql_language.specs.declared.written.Sign.{Sign}
use Rattle.cq_sql_language.specs.declared.written.Sign.TheVariants as signs
use Rattle.cq_sql_language.specs.Written.{Written, Parens, Extract, Aggregate, Times, And, Or, signed}
use Rattle.cq_sql_expressions.specs.declared.atoms.Opening.{Opening}
use Rattle.cq_sql_expressions.specs.declared.atoms.Opening.TheVariants as openings
use Rattle.cq_sql_expressions.specs.declared.separators.Operator.{Operator}
use Rattle.cq_sql_expressions.specs.declared.separators.Operator.TheVariants as operators
use Rattle.cq_sql_expressions.specs.declared.separators.Separator.{Separator}
use Rattle.cq_sql_expressions.specs.declared.separators.Separator.TheVariants as separators
use Rattle.cq_sql_expressions.specs.Lists.{chain_from, one_more_behind}
use Rattle.cq_sql_expressions.specs.Read.{◌>>=◌, Reader, done, followed_by, after_keyword, after_symbol}

-- the tokens behind this separator, if it stands in front
abbrev pub after_separator : Separator → List Token → Option (List Token)
after_separator (separators.Operator operators.Or) = after_keyword keywords.Or
after_separator (separators.Operator operators.And) = after_keyword keywords.And
after_separator (separators.Operator operators.Times) = after_symbol symbols.Star
after_separator separators.Comma = after_symbol symbols.Comma

-- takes the sign of a later term from the front
abbrev pub sign_at : Reader Sign
sign_at (tokens.Symbol symbols.Plus ∷ ts) = Some (signs.Plus, ts)
sign_at (tokens.Symbol symbols.Minus ∷ ts) = Some (signs.Minus, ts)
sign_at ts = None

-- what an operator makes of the parts on its two sides
abbrev pub join : Operator → Written → Written → Written
join operators.Or = Or
join operators.And = And
join operators.Times = Times

-- what an opening makes of what stands in the parentheses
abbrev pub enclosed : Opening → Written → Written
enclosed openings.Parens w = Parens w
enclosed (openings.Extract part) w = Extract part w
enclosed (openings.Aggregate function) w = Aggregate function w

-- one more part, where the separator stands in front of it
abbrev pub separated_part : Separator → Reader Written → List Written → List Token → Option (Option (List Written × List Token))
separated_part separator part = one_more_behind (after_separator separator) part

-- takes the later parts of a chain, behind those that were read before
unfoldable pub more_parts : Separator → Reader Written → List Written → Reader (List Written)
more_parts separator part ws ts = chain_from (separated_part separator part) (length ts) ws ts

-- takes a chain of parts with this operator between them
unfoldable pub joined_at : Operator → Reader Written → Reader Written
joined_at operator part =
    followed_by part (λ first. followed_by (more_parts (separators.Operator operator) part []) (λ others. done (fold (join operator) first others)))

-- one more term, where a sign stands in front of it
unfoldable pub signed_term : Reader Written → Written → List Token → Option (Option (Written × List Token))
signed_term term w ts = option_map (λ s. term s.1 >>= λ r. Some (signed s.0 w r.0, r.1)) (sign_at ts)

-- takes the later terms of a sum, behind what was read before
unfoldable pub more_terms : Reader Written → Written → Reader Written
more_terms term w ts = chain_from (signed_term term) (length ts) w ts
