-- What FROM names, and the sources that are joined to it, are read exactly.
use Rattle.std.proofs.Common.{◌≡◌, ℕ, List, [], ◌∷◌, ◌++◌, Option, Some, None, refl, sym, ap, subst, ◌∙◌, inl, inr}
use Rattle.cq_sql_language.specs.declared.statement.FromSource.{FromSource}
use Rattle.cq_sql_language.specs.declared.statement.JoinedSource.{JoinedSource}
use Rattle.cq_sql_language.specs.declared.statement.OnEquality.{OnEquality}
use Rattle.cq_sql_language.specs.declared.token.Keyword.TheVariants as keywords
use Rattle.cq_sql_language.specs.declared.token.Symbol.TheVariants as symbols
use Rattle.cq_sql_language.specs.declared.token.Token.{Token}
use Rattle.cq_sql_language.specs.declared.token.Token.TheVariants as tokens
use Rattle.cq_sql_language.specs.Parts.{◌before◌, IsName, IsWord, Each, SeparatedBy}
use Rattle.cq_sql_language.specs.Query.{IsAlias, IsKnownAs, IsSource, IsEquality, AreJoinWords, IsJoin}
use Rattle.cq_sql_expressions.specs.declared.leads.Lead.TheVariants as leads
use Rattle.cq_sql_expressions.specs.Read.{after_keyword}
use Rattle.cq_sql_expressions.proofs.Exact.{Reads, Anything, sign_leads, word_leads}
use Rattle.cq_sql_expressions.proofs.Lists.{EndsList, and_reads, more_reads}
use Rattle.cq_sql_expressions.proofs.Steps.{by_same, last_makes, lead_makes, made_reads, next_makes, part_makes}
use Rattle.cq_sql_expressions.proofs.Tails.{EndsTail, IsTail, tail_reads}
use Rattle.cq_sql.specs.Parts.{name_at}
use Rattle.cq_sql.specs.Queries.{alias_at, known_as_at, source_at, equality_at, joined_source_at, joins_at}
use Rattle.cq_sql.proofs.NameReads.{EndsColumn, name_reads, column_name_reads}
use Rattle.std.proofs.lemmas.Option.{some_pair_parts}

-- an optional name is read exactly, where no other AS follows
pub alias_reads : Reads (EndsTail keywords.As Anything) IsAlias alias_at
alias_reads = by_same (tail_reads keywords.As name_reads) to from where
  to : (alias : Option (List ℕ)) (ts : List Token) → IsAlias alias ts → IsTail keywords.As IsName alias ts
  to None ts h = h
  to (Some name) ts h = h

  from : (alias : Option (List ℕ)) (ts : List Token) → IsTail keywords.As IsName alias ts → IsAlias alias ts
  from None ts h = h
  from (Some name) ts h = h

-- ---- Sources
-- neither a name nor AS follows
abbrev pub EndsSource : List Token → Type 0
EndsSource rest = (name_at rest ≡ None) × (after_keyword keywords.As rest ≡ None)

-- where no name stands in front, AS decides
no_name : (ts : List Token) → name_at ts ≡ None → known_as_at ts ≡ alias_at ts
unfolding known_as_at
no_name (tokens.Name name ∷ ts) e = absurd cc
no_name ts e = refl

-- names with or without AS are read exactly
known_as_reads : Reads EndsSource IsKnownAs known_as_at
unfolding known_as_at
known_as_reads = record { found = found; only = only } where
  found : (alias : Option (List ℕ)) (front rest : List Token) → IsKnownAs alias front → EndsSource rest → known_as_at (front ++ rest) ≡ Some (alias, rest)
  found None front rest h end = rw h (no_name rest end.0 ∙ alias_reads.found None [] rest refl (tt, end.1))
  found (Some name) front rest (inl h) end = rw h refl
  found (Some name) front rest (inr h) end =
      let whole : front ≡ tokens.Keyword keywords.As ∷ h.1 = rw (h.2, h.3) refl in
      rw whole (ap (λ (ts : List Token). alias_at (ts ++ rest)) (sym whole) ∙ alias_reads.found (Some name) front rest h (tt, end.1))

  behind_as : (alias : Option (List ℕ)) (ts : List Token) → IsAlias alias ts → IsKnownAs alias ts
  behind_as None ts h = h
  behind_as (Some name) ts h = inr h

  only : (alias : Option (List ℕ)) (ts rest : List Token) → known_as_at ts ≡ Some (alias, rest) → (front : List Token) × (ts ≡ front ++ rest) × IsKnownAs alias front
  only alias (tokens.Name name ∷ ts) rest e =
      let p = some_pair_parts (Some name) alias ts rest e in
      (tokens.Name name ∷ [], ap (λ (us : List Token). tokens.Name name ∷ us) p.1, subst (λ (x : Option (List ℕ)). IsKnownAs x (tokens.Name name ∷ [])) p.0 (inl refl))
  only alias ts rest e =
      let o = alias_reads.only alias ts rest e in
      (o.0, o.1, behind_as alias o.0 o.2)

-- sources are read exactly, where neither a name nor AS follows
pub source_reads : Reads EndsSource IsSource source_at
unfolding source_at
source_reads =
    made_reads {make = λ x. record { name = x.0; alias = x.1 }} (λ (f : FromSource). (f.name, f.alias)) (λ f. refl) (λ x. refl) (next_makes name_reads (λ name. last_makes (λ alias. record { name = name; alias = alias }) known_as_reads))

-- ---- Joins
-- equalities are read exactly, where no dot follows
equality_reads : Reads EndsColumn IsEquality equality_at
unfolding equality_at
equality_reads =
    made_reads {make = λ x. record { left = x.0; right = x.1 }} (λ (e : OnEquality). (e.left, e.right)) (λ e. refl) (λ x. refl) (part_makes column_name_reads (λ right back rest h end. rw (h.2, h.3) refl) (λ left. lead_makes (sign_leads symbols.Equal) (last_makes (λ right. record { left = left; right = right }) column_name_reads)))

-- source ON eq {AND eq}
abbrev IsJoined : JoinedSource → List Token → Type 0
IsJoined j = IsSource j.source before IsWord keywords.On before SeparatedBy (tokens.Keyword keywords.And) IsEquality j.on

-- neither a dot nor AND follows
abbrev pub EndsJoin : List Token → Type 0
EndsJoin = EndsList leads.And EndsColumn

-- what stands behind JOIN is read exactly
joined_reads : Reads EndsJoin IsJoined joined_source_at
unfolding joined_source_at
joined_reads =
    made_reads {make = λ x. record { source = x.0; on = x.1 }} (λ (j : JoinedSource). (j.source, j.on)) (λ j. refl) (λ x. refl) (part_makes source_reads (λ on back rest h end. rw (h.2, h.3) (refl, refl)) (λ source. lead_makes (word_leads keywords.On) (last_makes (λ on. record { source = source; on = on }) (and_reads equality_reads (λ ts. refl)))))

-- JOIN goes on with no equality
join_ends : (front rest : List Token) → AreJoinWords front → EndsJoin (front ++ rest)
join_ends front rest (inl h) = rw h (refl, refl)
join_ends front rest (inr h) = rw (h.2, h.3) (refl, refl)

-- joined sources are read exactly
pub joins_read : Reads (EndsList leads.Join EndsJoin) (Each IsJoin) joins_at
unfolding joins_at
joins_read = more_reads leads.Join EndsJoin IsJoined joined_source_at joined_reads join_ends
