-- How lists and things that may be left out are read, as functions on lists.
use Rattle.std.specs.Prelude.{ℕ, zero, suc, List, [], ◌∷◌, ◌++◌, length, Option, Some, None}
use Rattle.std.specs.Option.{option_map}
use Rattle.cq_sql_language.specs.declared.token.Keyword.{Keyword}
use Rattle.cq_sql_language.specs.declared.token.Keyword.TheVariants as keywords
use Rattle.cq_sql_language.specs.declared.token.Symbol.TheVariants as symbols
use Rattle.cq_sql_language.specs.declared.token.Token.{Token}
use Rattle.cq_sql_language.specs.declared.token.Token.TheVariants as tokens
use Rattle.cq_sql_expressions.specs.declared.leads.Lead.{Lead}
use Rattle.cq_sql_expressions.specs.declared.leads.Lead.TheVariants as leads
use Rattle.cq_sql_expressions.specs.Read.{◌>>=◌, Reader, followed_by, behind, after_keyword, after_symbol}

-- ---- Loops
-- what was read so far where nothing more follows, and otherwise more
abbrev pub stop_or_go : {W : Type 0} → (W → Reader W) → W → List Token → Option (Option (W × List Token)) → Option (W × List Token)
stop_or_go more w ts None = Some (w, ts)
stop_or_go more w ts (Some read) = read >>= λ r. more r.0 r.1

-- goes on with what was read as long as more of it follows, and at most n times
unfoldable pub chain_from : {W : Type 0} → (W → List Token → Option (Option (W × List Token))) → ℕ → W → Reader W
chain_from next zero w ts = Some (w, ts)
chain_from next (suc n) w ts = stop_or_go (chain_from next n) w ts (next w ts)

-- ---- Lists
-- the tokens behind JOIN or INNER JOIN, if it stands in front
abbrev pub after_join : List Token → Option (List Token)
after_join (tokens.Keyword keywords.Join ∷ ts) = Some ts
after_join (tokens.Keyword keywords.Inner ∷ tokens.Keyword keywords.Join ∷ ts) = Some ts
after_join ts = None

-- the tokens behind this lead, if it stands in front
abbrev pub after_lead : Lead → List Token → Option (List Token)
after_lead leads.Comma = after_symbol symbols.Comma
after_lead leads.And = after_keyword keywords.And
after_lead leads.Join = after_join

-- one more entry, where what is taken by the first function stands in front of it
unfoldable pub one_more_behind : {A : Type 0} → (List Token → Option (List Token)) → Reader A → List A → List Token → Option (Option (List A × List Token))
one_more_behind after item xs ts = option_map (λ us. item us >>= λ r. Some (xs ++ r.0 ∷ [], r.1)) (after ts)

-- one more entry, where its lead stands in front of it
abbrev pub led : {A : Type 0} → Lead → Reader A → List A → List Token → Option (Option (List A × List Token))
led lead item = one_more_behind (after_lead lead) item

-- takes more entries, behind those that were read before
unfoldable pub more_at : {A : Type 0} → Lead → Reader A → List A → Reader (List A)
more_at lead item xs ts = chain_from (led lead item) (length ts) xs ts

-- takes at least one entry, and each later one behind its lead
unfoldable pub list_at : {A : Type 0} → Lead → Reader A → Reader (List A)
list_at lead item = followed_by item (λ x. more_at lead item (x ∷ []))

-- ---- What may be left out
-- an item where its keyword was there, and otherwise none
abbrev pub some_or_none : {A : Type 0} → Reader A → List Token → Option (List Token) → Option (Option A × List Token)
some_or_none item ts (Some after) = item after >>= λ r. Some (Some r.0, r.1)
some_or_none item ts None = Some (None, ts)

-- takes an item behind its keyword, or nothing where there is none
unfoldable pub tail_at : {A : Type 0} → Keyword → Reader A → Reader (Option A)
tail_at first item ts = some_or_none item ts (after_keyword first ts)

-- a thing where its keyword was there, and otherwise this one
abbrev pub read_or : {A : Type 0} → A → Reader A → List Token → Option (List Token) → Option (A × List Token)
read_or x item ts (Some after) = item after
read_or x item ts None = Some (x, ts)

-- takes a thing behind its keyword, or nothing, which stands for this one
unfoldable pub tail_or : {A : Type 0} → Keyword → A → Reader A → Reader A
tail_or first x item ts = read_or x item ts (after_keyword first ts)

-- takes the list behind a keyword and BY, or no tokens, which stand for the empty list
unfoldable pub list_behind : {A : Type 0} → Keyword → Reader A → Reader (List A)
list_behind first item = tail_or first [] (behind (after_keyword keywords.By) (list_at leads.Comma item))
