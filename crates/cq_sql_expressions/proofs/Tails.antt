-- Things that may be left out are read exactly where they are there.
use Rattle.std.proofs.Common.{◌≡◌, List, [], ◌∷◌, ◌++◌, Option, Some, None, refl, sym, ap, subst, ◌∙◌, append_assoc, inl, inr, ◌⊎◌}
use Rattle.cq_sql_language.specs.declared.token.Keyword.{Keyword}
use Rattle.cq_sql_language.specs.declared.token.Keyword.TheVariants as keywords
use Rattle.cq_sql_language.specs.declared.token.Symbol.TheVariants as symbols
use Rattle.cq_sql_language.specs.declared.token.Token.{Token}
use Rattle.cq_sql_language.specs.declared.token.Token.TheVariants as tokens
use Rattle.cq_sql_language.specs.Parts.{◌before◌, IsWord, IsLeftOut, Separated, IsListBy}
use Rattle.cq_sql_expressions.specs.declared.leads.Lead.TheVariants as leads
use Rattle.cq_sql_expressions.specs.Read.{Reader, after_keyword}
use Rattle.cq_sql_expressions.specs.Lists.{some_or_none, tail_at, read_or, tail_or, list_behind}
use Rattle.cq_sql_expressions.proofs.Exact.{Reads, bind_some, word_leads}
use Rattle.cq_sql_expressions.proofs.Steps.{by_same, lead_reads}
use Rattle.cq_sql_expressions.proofs.Lists.{EndsList, comma_reads}
use Rattle.std.proofs.lemmas.Option.{some_pair_parts}

-- what follows ends an item and does not begin with the keyword
abbrev pub EndsTail : Keyword → (List Token → Type 0) → List Token → Type 0
EndsTail first Ends rest = Ends rest × (after_keyword first rest ≡ None)

-- an item behind its keyword, or nothing
abbrev pub IsTail : {A : Type 0} → Keyword → (A → List Token → Type 0) → Option A → List Token → Type 0
IsTail first Is None ts = IsLeftOut ts
IsTail first Is (Some x) ts = (IsWord first before Is x) ts

-- an item behind its keyword, or nothing, which stands for this one
abbrev pub IsTailOr : {A : Type 0} → Keyword → A → (A → List Token → Type 0) → A → List Token → Type 0
IsTailOr first x Is y ts = ((x ≡ y) × IsLeftOut ts) ⊎ (IsWord first before Is y) ts

-- what may be left out is read exactly
pub tail_reads : {A : Type 0} {Ends : List Token → Type 0} {Is : A → List Token → Type 0} {item : Reader A} (first : Keyword) → Reads Ends Is item → Reads (EndsTail first Ends) (IsTail first Is) (tail_at first item)
unfolding tail_at
tail_reads {A} {Ends} {Is} {item} first reads = record { found = found; only = only } where
  found : (o : Option A) (front rest : List Token) → IsTail first Is o front → EndsTail first Ends rest → tail_at first item (front ++ rest) ≡ Some (o, rest)
  found None front rest h end = rw (h, end.1) refl
  found (Some x) front rest h end =
      let takes = word_leads first in
      let split : front ++ rest ≡ h.0 ++ (h.1 ++ rest) = ap (λ (ts : List Token). ts ++ rest) h.2 ∙ append_assoc h.0 h.1 rest in
      rw (split, takes.found h.0 (h.1 ++ rest) h.3, reads.found x h.1 rest h.4 end.0) refl

  by_keyword : (o : Option A) (ts rest : List Token) (after : Option (List Token)) → after_keyword first ts ≡ after → some_or_none item ts after ≡ Some (o, rest) → (front : List Token) × (ts ≡ front ++ rest) × IsTail first Is o front
  by_keyword o ts rest None there e =
      let p = some_pair_parts None o ts rest e in
      ([], p.1, subst (λ (x : Option A). IsTail first Is x []) p.0 refl)
  by_keyword o ts rest (Some after) there e =
      let takes = word_leads first in
      let l = takes.only ts after there in
      let b = bind_some (item after) (λ r. Some (Some r.0, r.1)) (o, rest) e in
      let p = some_pair_parts (Some b.0.0) o b.0.1 rest b.2 in
      let a = reads.only b.0.0 after b.0.1 b.1 in
      (l.0 ++ a.0, l.1 ∙ ap (λ (us : List Token). l.0 ++ us) (a.1 ∙ ap (λ (us : List Token). a.0 ++ us) p.1) ∙ sym (append_assoc l.0 a.0 rest), subst (λ (x : Option A). IsTail first Is x (l.0 ++ a.0)) p.0 (l.0, a.0, refl, l.2, a.2))

  only : (o : Option A) (ts rest : List Token) → tail_at first item ts ≡ Some (o, rest) → (front : List Token) × (ts ≡ front ++ rest) × IsTail first Is o front
  only o ts rest e = by_keyword o ts rest (after_keyword first ts) refl e

-- what stands for something where it is left out is read exactly
pub tail_or_reads : {A : Type 0} {Ends : List Token → Type 0} {Is : A → List Token → Type 0} {item : Reader A} (first : Keyword) (x : A) → Reads Ends Is item → Reads (EndsTail first Ends) (IsTailOr first x Is) (tail_or first x item)
unfolding tail_or
tail_or_reads {A} {Ends} {Is} {item} first x reads = record { found = found; only = only } where
  found : (y : A) (front rest : List Token) → IsTailOr first x Is y front → EndsTail first Ends rest → tail_or first x item (front ++ rest) ≡ Some (y, rest)
  found y front rest (inl h) end = rw (h.1, end.1) (ap (λ (z : A). Some (z, rest)) h.0)
  found y front rest (inr h) end =
      let takes = word_leads first in
      let split : front ++ rest ≡ h.0 ++ (h.1 ++ rest) = ap (λ (ts : List Token). ts ++ rest) h.2 ∙ append_assoc h.0 h.1 rest in
      rw (split, takes.found h.0 (h.1 ++ rest) h.3) (reads.found y h.1 rest h.4 end.0)

  by_keyword : (y : A) (ts rest : List Token) (after : Option (List Token)) → after_keyword first ts ≡ after → read_or x item ts after ≡ Some (y, rest) → (front : List Token) × (ts ≡ front ++ rest) × IsTailOr first x Is y front
  by_keyword y ts rest None there e =
      let p = some_pair_parts x y ts rest e in
      ([], p.1, inl (p.0, refl))
  by_keyword y ts rest (Some after) there e =
      let takes = word_leads first in
      let l = takes.only ts after there in
      let a = reads.only y after rest e in
      (l.0 ++ a.0, l.1 ∙ ap (λ (us : List Token). l.0 ++ us) a.1 ∙ sym (append_assoc l.0 a.0 rest), inr (l.0, a.0, refl, l.2, a.2))

  only : (y : A) (ts rest : List Token) → tail_or first x item ts ≡ Some (y, rest) → (front : List Token) × (ts ≡ front ++ rest) × IsTailOr first x Is y front
  only y ts rest e = by_keyword y ts rest (after_keyword first ts) refl e

-- lists behind a keyword and BY are read exactly
pub list_behind_reads : {A : Type 0} {Ends : List Token → Type 0} {Is : A → List Token → Type 0} {item : Reader A} (first : Keyword) → Reads Ends Is item → ((ts : List Token) → Ends (tokens.Symbol symbols.Comma ∷ ts))
    → Reads (EndsTail first (EndsList leads.Comma Ends)) (IsListBy first Is) (list_behind first item)
unfolding list_behind
list_behind_reads {A} {Ends} {Is} {item} first reads at_comma = by_same (tail_or_reads first [] (lead_reads (word_leads keywords.By) (comma_reads reads at_comma))) to from where
  to : (xs : List A) (ts : List Token) → IsListBy first Is xs ts → IsTailOr first [] (λ (ys : List A). IsWord keywords.By before Separated Is ys) xs ts
  to [] ts h = inl (refl, h)
  to (x ∷ xs) ts h = inr h

  from : (xs : List A) (ts : List Token) → IsTailOr first [] (λ (ys : List A). IsWord keywords.By before Separated Is ys) xs ts → IsListBy first Is xs ts
  from [] ts (inl h) = h.1
  from [] ts (inr h) = absurd h.4.4
  from (x ∷ xs) ts (inl h) = absurd (cc h.0)
  from (x ∷ xs) ts (inr h) = h
