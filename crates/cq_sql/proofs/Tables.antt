-- Columns of a table are read exactly.
use Rattle.std.proofs.Common.{◌≡◌, ℕ, Bool, true, false, List, [], ◌∷◌, ◌++◌, Some, refl, ap, ◌∙◌, inl, inr}
use Rattle.cq_values.specs.declared.column.ColumnDef.{ColumnDef}
use Rattle.cq_values.specs.declared.ty.Ty.{Ty}
use Rattle.cq_values.specs.declared.ty.Ty.TheVariants as types
use Rattle.cq_sql_language.specs.declared.token.Keyword.{Keyword}
use Rattle.cq_sql_language.specs.declared.token.Keyword.TheVariants as keywords
use Rattle.cq_sql_language.specs.declared.token.Token.{Token}
use Rattle.cq_sql_language.specs.declared.token.Token.TheVariants as tokens
use Rattle.cq_sql_language.specs.Parts.{◌before◌, IsName, IsWord, IsColumn, type_word, not_null_tokens}
use Rattle.cq_sql_expressions.specs.Read.{done, behind, after_keyword}
use Rattle.cq_sql_expressions.proofs.Exact.{Reads, Makes, Anything, bind_some, word_leads}
use Rattle.cq_sql_expressions.proofs.Steps.{by_same, last_makes, lead_last, made_reads, next_makes}
use Rattle.cq_sql_expressions.proofs.Tails.{EndsTail, IsTailOr, tail_or_reads}
use Rattle.cq_sql.specs.Parts.{type_of, type_at, not_null_at, column_at}
use Rattle.cq_sql.proofs.NameReads.{name_reads}
use Rattle.std.proofs.lemmas.Option.{some_pair_parts}

-- INTEGER, TEXT or DATE
abbrev IsType : Ty → List Token → Type 0
IsType ty ts = ts ≡ tokens.Keyword (type_word ty) ∷ []

-- the word of a type names it
type_found : (ty : Ty) → type_of (type_word ty) ≡ Some ty
type_found types.Integer = refl
type_found types.Text = refl
type_found types.Date = refl

-- no other word names a type
type_only : (word : Keyword) (ty : Ty) → type_of word ≡ Some ty → word ≡ type_word ty
type_only keywords.Integer ty e = let same : types.Integer ≡ ty = cc in ap type_word same
type_only keywords.Text ty e = let same : types.Text ≡ ty = cc in ap type_word same
type_only keywords.Date ty e = let same : types.Date ≡ ty = cc in ap type_word same
type_only word ty e = absurd cc

-- types are read exactly
type_reads : Reads Anything IsType type_at
type_reads = record { found = found; only = only } where
  found : (ty : Ty) (front rest : List Token) → IsType ty front → Anything rest → type_at (front ++ rest) ≡ Some (ty, rest)
  found ty front rest h end = rw (h, type_found ty) refl

  only : (ty : Ty) (ts rest : List Token) → type_at ts ≡ Some (ty, rest) → (front : List Token) × (ts ≡ front ++ rest) × IsType ty front
  only ty (tokens.Keyword word ∷ ts) rest e =
      let b = bind_some (type_of word) (λ t. Some (t, ts)) (ty, rest) e in
      let p = some_pair_parts b.0 ty ts rest b.2 in
      (tokens.Keyword word ∷ [], ap (λ (us : List Token). tokens.Keyword word ∷ us) p.1, ap (λ (k : Keyword). tokens.Keyword k ∷ []) (type_only word ty (b.1 ∙ ap (λ (t : Ty). Some t) p.0)))
  only ty ts rest e = absurd cc

-- [NOT NULL]
abbrev IsNotNull : Bool → List Token → Type 0
IsNotNull not_null ts = ts ≡ not_null_tokens not_null

-- NULL, behind NOT
abbrev IsNull : Bool → List Token → Type 0
IsNull not_null ts = (true ≡ not_null) × IsWord keywords.Null ts

-- NULL is read exactly, as what stands behind NOT
null_reads : Reads Anything IsNull (behind (after_keyword keywords.Null) (done true))
null_reads = record { found = found; only = only } where
  makes : Makes Anything (λ (x : Unit {0}). IsWord keywords.Null) (λ x. true) (behind (after_keyword keywords.Null) (done true))
  makes = lead_last true (word_leads keywords.Null)

  found : (b : Bool) (front rest : List Token) → IsNull b front → Anything rest → behind (after_keyword keywords.Null) (done true) (front ++ rest) ≡ Some (b, rest)
  found b front rest h end = makes.found tt front rest h.1 end ∙ ap (λ (x : Bool). Some (x, rest)) h.0

  only : (b : Bool) (ts rest : List Token) → behind (after_keyword keywords.Null) (done true) ts ≡ Some (b, rest) → (front : List Token) × (ts ≡ front ++ rest) × IsNull b front
  only b ts rest e =
      let o = makes.only b ts rest e in
      (o.1, o.3, (o.2, o.4))

-- an optional NOT NULL is read exactly, where no other NOT follows
not_null_reads : Reads (EndsTail keywords.Not Anything) IsNotNull not_null_at
not_null_reads = by_same (tail_or_reads keywords.Not false null_reads) to from where
  to : (not_null : Bool) (ts : List Token) → IsNotNull not_null ts → IsTailOr keywords.Not false IsNull not_null ts
  to true ts h = inr (tokens.Keyword keywords.Not ∷ [], tokens.Keyword keywords.Null ∷ [], h, refl, (refl, refl))
  to false ts h = inl (refl, h)

  from : (not_null : Bool) (ts : List Token) → IsTailOr keywords.Not false IsNull not_null ts → IsNotNull not_null ts
  from not_null ts (inl h) = h.1 ∙ ap not_null_tokens h.0
  from not_null ts (inr h) =
      let whole : ts ≡ not_null_tokens true = rw (h.2, h.3, h.4.1) refl in
      whole ∙ ap not_null_tokens h.4.0

-- name type [NOT NULL]
abbrev IsColumnOf : List ℕ × (Ty × Bool) → List Token → Type 0
IsColumnOf x = IsName x.0 before IsType x.1.0 before IsNotNull x.1.1

-- the parts of a column are read exactly
column_makes : Makes (EndsTail keywords.Not Anything) IsColumnOf (λ x. record { name = x.0; ty = x.1.0; not_null = x.1.1 }) column_at
unfolding column_at
column_makes = next_makes name_reads (λ name. next_makes type_reads (λ ty. last_makes (λ not_null. record { name = name; ty = ty; not_null = not_null }) not_null_reads))

-- columns are read exactly, where no NOT follows
pub column_reads : Reads (EndsTail keywords.Not Anything) IsColumn column_at
column_reads = by_same (made_reads (λ (d : ColumnDef). (d.name, (d.ty, d.not_null))) (λ d. refl) (λ x. refl) column_makes) to from where
  to : (d : ColumnDef) (ts : List Token) → IsColumn d ts → IsColumnOf (d.name, (d.ty, d.not_null)) ts
  to d ts h =
      let tail = not_null_tokens d.not_null in
      let word = tokens.Keyword (type_word d.ty) in
      (tokens.Name d.name ∷ [], word ∷ tail, h, refl, (word ∷ [], tail, refl, refl, refl))

  from : (d : ColumnDef) (ts : List Token) → IsColumnOf (d.name, (d.ty, d.not_null)) ts → IsColumn d ts
  from d ts h =
      let type = h.4 in
      rw (h.2, h.3, type.2, type.3, type.4) refl
