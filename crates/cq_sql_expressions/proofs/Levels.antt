-- Factors, products, sums and conditions are read exactly, each level over the tighter one.
use Rattle.std.proofs.Common.{◌≡◌, ℕ, ◌≤◌, ◌<◌, List, ◌∷◌, ◌++◌, length, Option, Some, None, refl, sym, ap, subst, ◌∙◌, arith}
use Rattle.cq_sql_language.specs.declared.token.Symbol.TheVariants as symbols
use Rattle.cq_sql_language.specs.declared.token.Token.{Token}
use Rattle.cq_sql_language.specs.declared.token.Token.TheVariants as tokens
use Rattle.cq_sql_language.specs.Written.{Written, Number, Text, Date, Null, Column, Extract, CountAll, Aggregate, Parens, Negative}
use Rattle.cq_sql_language.specs.Spelling.{spelled, column_tokens}
use Rattle.cq_sql_expressions.specs.Read.{Reader, after_symbol}
use Rattle.cq_sql_expressions.specs.Expressions.{Inside, prefixed, factor_of, primary_of}
use Rattle.cq_sql_expressions.proofs.Exact.{Takes, bind_some, symbol_takes}
use Rattle.cq_sql_expressions.proofs.Tight.{joint_in, Fits, from_fits, to_fits, ReadsTight}
use Rattle.std.proofs.lemmas.Option.{some_pair_parts}

-- the same reader, written in another way
pub by_same_reader : {size level : ℕ} {item other : Reader Written} → ReadsTight size level item → ((ts : List Token) → other ts ≡ item ts) → ReadsTight size level other
by_same_reader {size} {level} {item} {other} reads same = record {
  found = λ w rest fit small end. same (spelled w ++ rest) ∙ reads.found w rest fit small end;
  only = λ w ts rest e. reads.only w ts rest (sym (same ts) ∙ e);
}

-- what is read with or without a token in front
module _ {size inner outer : ℕ} {token : Token} {after : List Token → Option (List Token)} {item : Reader Written} (make : Written → Written) (takes : Takes token after) (reads : ReadsTight size inner item)
    (weaker : (w : Written) → Fits inner w → Fits outer w) (made : (a : Written) → Fits inner a → Fits outer (make a)) (spelling : (a : Written) → spelled (make a) ≡ token ∷ spelled a) where
  -- it fits, and its tokens were there
  prefixed_only : (w : Written) (ts rest : List Token) (left : Option (List Token)) → after ts ≡ left → prefixed make item ts left ≡ Some (w, rest) → Fits outer w × (ts ≡ spelled w ++ rest)
  prefixed_only w ts rest None there e =
      let o = reads.only w ts rest e in
      (weaker w o.0, o.1)
  prefixed_only w ts rest (Some us) there e =
      let b = bind_some (item us) (λ r. Some (make r.0, r.1)) (w, rest) e in
      let o = reads.only b.0.0 us b.0.1 b.1 in
      let p = some_pair_parts (make b.0.0) w b.0.1 rest b.2 in
      let tail : us ≡ spelled b.0.0 ++ rest = o.1 ∙ ap (λ (vs : List Token). spelled b.0.0 ++ vs) p.1 in
      let whole : ts ≡ spelled (make b.0.0) ++ rest = takes.only ts us there ∙ ap (λ (vs : List Token). token ∷ vs) tail ∙ ap (λ (vs : List Token). vs ++ rest) (sym (spelling b.0.0)) in
      subst (λ (x : Written). Fits outer x × (ts ≡ spelled x ++ rest)) p.0 (made b.0.0 o.0, whole)

  -- so such a reader is exact where it finds what fits
  pub prefixed_reads : ((w : Written) (rest : List Token) → Fits outer w → length (spelled w) < size → joint_in rest ≤ outer → prefixed make item (spelled w ++ rest) (after (spelled w ++ rest)) ≡ Some (w, rest))
      → ReadsTight size outer (λ ts. prefixed make item ts (after ts))
  prefixed_reads found = record { found = found; only = λ w ts rest e. prefixed_only w ts rest (after ts) refl e }

-- no column begins with a minus
column_no_minus : (source : Option (List ℕ)) (name : List ℕ) (rest : List Token) → after_symbol symbols.Minus (column_tokens source name ++ rest) ≡ None
column_no_minus (Some source) name rest = refl
column_no_minus None name rest = refl

-- nothing that stands for itself begins with a minus
no_minus : (w : Written) (rest : List Token) → Fits 7 w → after_symbol symbols.Minus (spelled w ++ rest) ≡ None
no_minus (Number n) rest fit = refl
no_minus (Text t) rest fit = refl
no_minus (Date t) rest fit = refl
no_minus Null rest fit = refl
no_minus (Column c) rest fit = column_no_minus c.source c.name rest
no_minus (Extract part a) rest fit = refl
no_minus CountAll rest fit = refl
no_minus (Aggregate function a) rest fit = refl
no_minus (Parens a) rest fit = refl
no_minus w rest fit = absurd (omega (arith, fit.0))

-- factors are read exactly
module _ (size : ℕ) (inside : Inside) (reads : ReadsTight size 7 (primary_of inside)) where
  -- a factor with no minus is a primary
  plain_found : (w : Written) (rest : List Token) → Fits 7 w → length (spelled w) < size → joint_in rest ≤ 6 → factor_of inside (spelled w ++ rest) ≡ Some (w, rest)
  unfolding factor_of
  plain_found w rest fit small end = rw (no_minus w rest fit) (reads.found w rest fit small (omega (arith, end)))

  -- a factor is read
  found : (w : Written) (rest : List Token) → Fits 6 w → length (spelled w) < size → joint_in rest ≤ 6 → factor_of inside (spelled w ++ rest) ≡ Some (w, rest)
  unfolding factor_of
  found (Negative a) rest fit small end =
      rw (reads.found a rest (from_fits 7 a fit.1) (omega (arith, small)) (omega (arith, end))) refl
  found w rest fit small end = plain_found w rest (omega (arith, fit.0), fit.1) small end

  -- factors are read exactly
  pub factor_reads : ReadsTight size 6 (factor_of inside)
  unfolding factor_of
  factor_reads = prefixed_reads Negative (symbol_takes symbols.Minus) reads (λ w fit. (omega (arith, fit.0), fit.1)) (λ a fit. (omega arith, to_fits 7 a fit)) (λ a. refl) found
