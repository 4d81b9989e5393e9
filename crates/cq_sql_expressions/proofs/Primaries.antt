-- Expressions that stand for themselves are read exactly, where what stands in their parentheses is.
use Rattle.std.proofs.Common.{◌≡◌, ℕ, suc, Bool, true, false, ◌≤◌, ◌<◌, List, [], ◌∷◌, ◌++◌, length, Option, Some, None, refl, sym, ap, ap₂, subst, ◌∙◌, append_assoc, arith, length-append}
use Rattle.cq_values.specs.declared.day_part.DayPart.{DayPart}
use Rattle.cq_values.specs.declared.day_part.DayPart.TheVariants as parts
use Rattle.cq_sql_language.specs.declared.token.Keyword.{Keyword}
use Rattle.cq_sql_language.specs.declared.token.Keyword.TheVariants as keywords
use Rattle.cq_sql_language.specs.declared.token.Symbol.TheVariants as symbols
use Rattle.cq_sql_language.specs.declared.token.Token.{Token}
use Rattle.cq_sql_language.specs.declared.token.Token.TheVariants as tokens
use Rattle.cq_sql_language.specs.declared.written.AggregateFunction.{AggregateFunction}
use Rattle.cq_sql_language.specs.declared.written.AggregateFunction.TheVariants as functions
use Rattle.cq_sql_language.specs.Written.{Written, Number, Text, Date, Null, Column, Extract, CountAll, Aggregate, Parens, Times, Plus, Minus, Compare, IsNull, Between, In, Like, And, Or}
use Rattle.cq_sql_language.specs.Spelling.{spelled, column_tokens, part_word, function_word, quantifier_tokens}
use Rattle.cq_sql_expressions.specs.declared.atoms.Opening.{Opening}
use Rattle.cq_sql_expressions.specs.declared.atoms.Opening.TheVariants as openings
use Rattle.cq_sql_expressions.specs.Read.{done, behind, after_symbol}
use Rattle.cq_sql_expressions.specs.Atoms.{atom_at, day_part_of, aggregate_at, count_at, extract_at, called_at, opening_at}
use Rattle.cq_sql_expressions.specs.Chains.{enclosed}
use Rattle.cq_sql_expressions.specs.Expressions.{Inside, content_of, atom_or_content, primary_of}
use Rattle.cq_sql_expressions.proofs.Exact.{bind_some, symbol_takes}
use Rattle.cq_sql_expressions.proofs.Tight.{joint_in, Fits, from_fits, to_fits, ReadsTight}
use Rattle.std.proofs.lemmas.Option.{some_pair_parts}

-- what stands in parentheses is read exactly
pub record ReadsInside (size : ℕ) (inside : Inside) : Type 0 where
  pub expression : ReadsTight size 0 inside.expression
  pub sum : ReadsTight size 4 inside.sum

-- the tokens of an opening
abbrev opening_tokens : Opening → List Token
opening_tokens openings.Parens = tokens.Symbol symbols.Open ∷ []
opening_tokens (openings.Extract part) = tokens.Keyword keywords.Extract ∷ tokens.Symbol symbols.Open ∷ tokens.Keyword (part_word part) ∷ tokens.Keyword keywords.From ∷ []
opening_tokens (openings.Aggregate function) = tokens.Keyword (function_word function) ∷ tokens.Symbol symbols.Open ∷ quantifier_tokens function

-- how tight the content behind an opening has to be
abbrev content_level : Opening → ℕ
content_level openings.Parens = 0
content_level (openings.Extract part) = 4
content_level (openings.Aggregate function) = 4

-- the sign that closes a pair of parentheses
abbrev close : Token
close = tokens.Symbol symbols.Close

-- the word of a part of a day names it
part_found : (part : DayPart) → day_part_of (part_word part) ≡ Some part
part_found parts.Year = refl
part_found parts.Month = refl
part_found parts.Day = refl

-- no other word names a part of a day
part_only : (word : Keyword) (part : DayPart) → day_part_of word ≡ Some part → word ≡ part_word part
part_only keywords.Year part e = let same : parts.Year ≡ part = cc in ap part_word same
part_only keywords.Month part e = let same : parts.Month ≡ part = cc in ap part_word same
part_only keywords.Day part e = let same : parts.Day ≡ part = cc in ap part_word same
part_only word part e = absurd cc

-- whether a star or DISTINCT stands in front
abbrev star_or_distinct_in : List Token → Bool
star_or_distinct_in (tokens.Symbol symbols.Star ∷ ts) = true
star_or_distinct_in (tokens.Keyword keywords.Distinct ∷ ts) = true
star_or_distinct_in ts = false

-- where neither stands in front of tokens, neither stands in front of more of them
neither_in : (front more : List Token) → ((rest : List Token) → star_or_distinct_in (front ++ rest) ≡ false) → (rest : List Token) → star_or_distinct_in ((front ++ more) ++ rest) ≡ false
neither_in front more none rest = ap star_or_distinct_in (append_assoc front more rest) ∙ none (more ++ rest)

-- no column begins so
column_starts : (source : Option (List ℕ)) (name : List ℕ) (rest : List Token) → star_or_distinct_in (column_tokens source name ++ rest) ≡ false
column_starts (Some source) name rest = refl
column_starts None name rest = refl

-- no aggregate begins so
function_starts : (function : AggregateFunction) (rest : List Token) → star_or_distinct_in (tokens.Keyword (function_word function) ∷ rest) ≡ false
function_starts functions.Count rest = refl
function_starts functions.CountDistinct rest = refl
function_starts functions.Sum rest = refl
function_starts functions.Min rest = refl
function_starts functions.Max rest = refl

-- no expression begins with a star or with DISTINCT
starts : (w : Written) (rest : List Token) → star_or_distinct_in (spelled w ++ rest) ≡ false
starts (Column c) rest = column_starts c.source c.name rest
starts (Aggregate function a) rest = function_starts function _
starts (Times a b) rest = neither_in _ _ (starts a) rest
starts (Plus a b) rest = neither_in _ _ (starts a) rest
starts (Minus a b) rest = neither_in _ _ (starts a) rest
starts (Compare c a b) rest = neither_in _ _ (starts a) rest
starts (IsNull negated a) rest = neither_in _ _ (neither_in _ _ (starts a)) rest
starts (Between negated a least greatest) rest = neither_in _ _ (neither_in _ _ (neither_in _ _ (starts a))) rest
starts (In negated a bs) rest = neither_in _ _ (neither_in _ _ (neither_in _ _ (starts a))) rest
starts (Like negated a pattern) rest = neither_in _ _ (neither_in _ _ (starts a)) rest
starts (And a b) rest = neither_in _ _ (starts a) rest
starts (Or a b) rest = neither_in _ _ (starts a) rest
starts w rest = refl

-- an aggregate opens where no star follows, and its function is the one of its word
aggregate_found : (function : AggregateFunction) (us : List Token) → star_or_distinct_in us ≡ false → aggregate_at function (tokens.Symbol symbols.Open ∷ us) ≡ Some (openings.Aggregate function, us)
aggregate_found function (tokens.Symbol symbols.Star ∷ us) none = absurd cc
aggregate_found function us none = refl

-- COUNT opens without DISTINCT where none follows
count_found : (us : List Token) → star_or_distinct_in us ≡ false → count_at (tokens.Symbol symbols.Open ∷ us) ≡ Some (openings.Aggregate functions.Count, us)
count_found (tokens.Keyword keywords.Distinct ∷ us) none = absurd cc
count_found us none = aggregate_found functions.Count us none

-- an aggregate is read from its word, its opening sign and its DISTINCT
called_found : (function : AggregateFunction) (us : List Token) → star_or_distinct_in us ≡ false
    → called_at (function_word function) (tokens.Symbol symbols.Open ∷ quantifier_tokens function ++ us) ≡ Some (openings.Aggregate function, us)
called_found functions.Count us none = count_found us none
called_found functions.CountDistinct us none = refl
called_found functions.Sum us none = aggregate_found functions.Sum us none
called_found functions.Min us none = aggregate_found functions.Min us none
called_found functions.Max us none = aggregate_found functions.Max us none

-- an opening is read from its tokens, where no star and no DISTINCT follows
opening_found : (opening : Opening) (us : List Token) → star_or_distinct_in us ≡ false → opening_at (opening_tokens opening ++ us) ≡ Some (opening, us)
opening_found openings.Parens us none = refl
opening_found (openings.Extract part) us none = rw (part_found part) refl
opening_found (openings.Aggregate function) us none = called_found function us none

-- what is read behind EXTRACT are its tokens
extract_only : (ts : List Token) (opening : Opening) (us : List Token) → extract_at ts ≡ Some (opening, us) → tokens.Keyword keywords.Extract ∷ ts ≡ opening_tokens opening ++ us
extract_only (tokens.Symbol symbols.Open ∷ tokens.Keyword word ∷ tokens.Keyword keywords.From ∷ ts) opening us e =
    let b = bind_some (day_part_of word) (λ part. Some (openings.Extract part, ts)) (opening, us) e in
    let p = some_pair_parts (openings.Extract b.0) opening ts us b.2 in
    subst (λ (o : Opening). tokens.Keyword keywords.Extract ∷ tokens.Symbol symbols.Open ∷ tokens.Keyword word ∷ tokens.Keyword keywords.From ∷ ts ≡ opening_tokens o ++ us) p.0 (ap₂ (λ (k : Keyword) (vs : List Token). tokens.Keyword keywords.Extract ∷ tokens.Symbol symbols.Open ∷ tokens.Keyword k ∷ tokens.Keyword keywords.From ∷ vs) (part_only word b.0 b.1) p.1)
extract_only ts opening us e = absurd cc

-- an opening that is its word, its sign and perhaps DISTINCT, and what is left behind it
aggregate_left : (function : AggregateFunction) (ts : List Token) (opening : Opening) (us : List Token) → ◌≡◌ {A = Option (Opening × List Token)} (Some (openings.Aggregate function, ts)) (Some (opening, us))
    → tokens.Keyword (function_word function) ∷ tokens.Symbol symbols.Open ∷ quantifier_tokens function ++ ts ≡ opening_tokens opening ++ us
aggregate_left function ts opening us e =
    let p = some_pair_parts (openings.Aggregate function) opening ts us e in
    ap₂ (λ (o : Opening) (vs : List Token). opening_tokens o ++ vs) p.0 p.1

-- what is read behind the word of an aggregate without DISTINCT are its tokens
aggregate_only : (function : AggregateFunction) (ts : List Token) (opening : Opening) (us : List Token) → quantifier_tokens function ≡ [] → aggregate_at function ts ≡ Some (opening, us)
    → tokens.Keyword (function_word function) ∷ ts ≡ opening_tokens opening ++ us
aggregate_only function (tokens.Symbol symbols.Open ∷ tokens.Symbol symbols.Star ∷ ts) opening us plain e = absurd cc
aggregate_only function (tokens.Symbol symbols.Open ∷ ts) opening us plain e =
    ap (λ (q : List Token). tokens.Keyword (function_word function) ∷ tokens.Symbol symbols.Open ∷ q ++ ts) (sym plain) ∙ aggregate_left function ts opening us e
aggregate_only function ts opening us plain e = absurd cc

-- what is read behind COUNT are its tokens
count_only : (ts : List Token) (opening : Opening) (us : List Token) → count_at ts ≡ Some (opening, us) → tokens.Keyword keywords.Count ∷ ts ≡ opening_tokens opening ++ us
count_only (tokens.Symbol symbols.Open ∷ tokens.Keyword keywords.Distinct ∷ ts) opening us e = aggregate_left functions.CountDistinct ts opening us e
count_only ts opening us e = aggregate_only functions.Count ts opening us refl e

-- what is read behind a word as an opening are its tokens
called_only : (word : Keyword) (ts : List Token) (opening : Opening) (us : List Token) → called_at word ts ≡ Some (opening, us) → tokens.Keyword word ∷ ts ≡ opening_tokens opening ++ us
called_only keywords.Extract ts opening us e = extract_only ts opening us e
called_only keywords.Count ts opening us e = count_only ts opening us e
called_only keywords.Sum ts opening us e = aggregate_only functions.Sum ts opening us refl e
called_only keywords.Min ts opening us e = aggregate_only functions.Min ts opening us refl e
called_only keywords.Max ts opening us e = aggregate_only functions.Max ts opening us refl e
called_only word ts opening us e = absurd cc

-- what is read as an opening are its tokens
opening_only : (ts : List Token) (opening : Opening) (us : List Token) → opening_at ts ≡ Some (opening, us) → ts ≡ opening_tokens opening ++ us
opening_only (tokens.Symbol symbols.Open ∷ ts) opening us e =
    let p = some_pair_parts openings.Parens opening ts us e in
    subst (λ (o : Opening). tokens.Symbol symbols.Open ∷ ts ≡ opening_tokens o ++ us) p.0 (ap (λ (vs : List Token). tokens.Symbol symbols.Open ∷ vs) p.1)
opening_only (tokens.Keyword word ∷ ts) opening us e = called_only word ts opening us e
opening_only ts opening us e = absurd cc

-- a pair of parentheses is spelled as its opening, its content and its closing sign
enclosed_spelled : (opening : Opening) (w : Written) → spelled (enclosed opening w) ≡ opening_tokens opening ++ (spelled w ++ close ∷ [])
enclosed_spelled openings.Parens w = refl
enclosed_spelled (openings.Extract part) w = refl
enclosed_spelled (openings.Aggregate function) w =
    ap (λ (ts : List Token). tokens.Keyword (function_word function) ∷ tokens.Symbol symbols.Open ∷ ts) (append_assoc (quantifier_tokens function) (spelled w) (close ∷ []))

-- a pair of parentheses round a content that is tight enough stands for itself
enclosed_fits : (opening : Opening) (w : Written) → Fits (content_level opening) w → Fits 7 (enclosed opening w)
enclosed_fits openings.Parens w fit = (omega arith, fit.1)
enclosed_fits (openings.Extract part) w fit = (omega arith, to_fits 4 w fit)
enclosed_fits (openings.Aggregate function) w fit = (omega arith, to_fits 4 w fit)

-- a content has fewer tokens than its parentheses
enclosed_size : (opening : Opening) (w : Written) → length (spelled w) < length (spelled (enclosed opening w))
enclosed_size openings.Parens w = omega (arith, length-append (spelled w) (close ∷ []))
enclosed_size (openings.Extract part) w = omega (arith, length-append (spelled w) (close ∷ []))
enclosed_size (openings.Aggregate function) w =
    let quantified = quantifier_tokens function ++ spelled w in
    omega (arith, length-append quantified (close ∷ []), length-append (quantifier_tokens function) (spelled w))

-- a column is read, where no dot follows
column_found : (source : Option (List ℕ)) (name : List ℕ) (rest : List Token) → joint_in rest ≤ 7 → atom_at (column_tokens source name ++ rest) ≡ Some (Column (record { source = source; name = name }), rest)
column_found (Some source) name rest end = refl
column_found None name [] end = refl
column_found None name (tokens.Symbol symbols.Dot ∷ rest) end = absurd (omega (arith, end))
column_found None name (t ∷ rest) end = refl

-- no column begins as a pair of parentheses
column_opens : (source : Option (List ℕ)) (name : List ℕ) (rest : List Token) → opening_at (column_tokens source name ++ rest) ≡ None
column_opens (Some source) name rest = refl
column_opens None name rest = refl

-- what is read as an atom stands for itself
atom_only : (w : Written) (ts rest : List Token) → atom_at ts ≡ Some (w, rest) → Fits 7 w × (ts ≡ spelled w ++ rest)
atom_only w (tokens.Number n ∷ ts) rest e =
    let p = some_pair_parts (Number n) w ts rest e in
    subst (λ (x : Written). Fits 7 x × (tokens.Number n ∷ ts ≡ spelled x ++ rest)) p.0 ((omega arith, refl), ap (λ (us : List Token). tokens.Number n ∷ us) p.1)
atom_only w (tokens.Text text ∷ ts) rest e =
    let p = some_pair_parts (Text text) w ts rest e in
    subst (λ (x : Written). Fits 7 x × (tokens.Text text ∷ ts ≡ spelled x ++ rest)) p.0 ((omega arith, refl), ap (λ (us : List Token). tokens.Text text ∷ us) p.1)
atom_only w (tokens.Keyword keywords.Date ∷ tokens.Text text ∷ ts) rest e =
    let p = some_pair_parts (Date text) w ts rest e in
    subst (λ (x : Written). Fits 7 x × (tokens.Keyword keywords.Date ∷ tokens.Text text ∷ ts ≡ spelled x ++ rest)) p.0 ((omega arith, refl), ap (λ (us : List Token). tokens.Keyword keywords.Date ∷ tokens.Text text ∷ us) p.1)
atom_only w (tokens.Keyword keywords.Null ∷ ts) rest e =
    let p = some_pair_parts Null w ts rest e in
    subst (λ (x : Written). Fits 7 x × (tokens.Keyword keywords.Null ∷ ts ≡ spelled x ++ rest)) p.0 ((omega arith, refl), ap (λ (us : List Token). tokens.Keyword keywords.Null ∷ us) p.1)
atom_only w (tokens.Name source ∷ tokens.Symbol symbols.Dot ∷ tokens.Name name ∷ ts) rest e =
    let p = some_pair_parts (Column (record { source = Some source; name = name })) w ts rest e in
    subst (λ (x : Written). Fits 7 x × (tokens.Name source ∷ tokens.Symbol symbols.Dot ∷ tokens.Name name ∷ ts ≡ spelled x ++ rest)) p.0 ((omega arith, refl), ap (λ (us : List Token). tokens.Name source ∷ tokens.Symbol symbols.Dot ∷ tokens.Name name ∷ us) p.1)
atom_only w (tokens.Name name ∷ ts) rest e =
    let p = some_pair_parts (Column (record { source = None; name = name })) w ts rest e in
    subst (λ (x : Written). Fits 7 x × (tokens.Name name ∷ ts ≡ spelled x ++ rest)) p.0 ((omega arith, refl), ap (λ (us : List Token). tokens.Name name ∷ us) p.1)
atom_only w (tokens.Keyword keywords.Count ∷ tokens.Symbol symbols.Open ∷ tokens.Symbol symbols.Star ∷ tokens.Symbol symbols.Close ∷ ts) rest e =
    let p = some_pair_parts CountAll w ts rest e in
    subst (λ (x : Written). Fits 7 x × (tokens.Keyword keywords.Count ∷ tokens.Symbol symbols.Open ∷ tokens.Symbol symbols.Star ∷ tokens.Symbol symbols.Close ∷ ts ≡ spelled x ++ rest)) p.0 ((omega arith, refl), ap (λ (us : List Token). tokens.Keyword keywords.Count ∷ tokens.Symbol symbols.Open ∷ tokens.Symbol symbols.Star ∷ tokens.Symbol symbols.Close ∷ us) p.1)
atom_only w ts rest e = absurd cc

module _ (size : ℕ) (inside : Inside) (reads : ReadsInside size inside) where
  -- what stands behind an opening is read exactly
  content_reads : (opening : Opening) → ReadsTight size (content_level opening) (content_of inside opening)
  content_reads openings.Parens = reads.expression
  content_reads (openings.Extract part) = reads.sum
  content_reads (openings.Aggregate function) = reads.sum

  -- a pair of parentheses is read
  enclosed_found : (opening : Opening) (w : Written) (rest : List Token) → Fits (content_level opening) w → length (spelled (enclosed opening w)) < suc size
      → primary_of inside (spelled (enclosed opening w) ++ rest) ≡ Some (enclosed opening w, rest)
  unfolding primary_of
  enclosed_found opening w rest fit small =
      let spelling : spelled (enclosed opening w) ++ rest ≡ opening_tokens opening ++ (spelled w ++ close ∷ rest)
      = ap (λ (ts : List Token). ts ++ rest) (enclosed_spelled opening w) ∙ append_assoc (opening_tokens opening) (spelled w ++ close ∷ []) rest ∙ ap (λ (ts : List Token). opening_tokens opening ++ ts) (append_assoc (spelled w) (close ∷ []) rest) in
      let content = content_reads opening in
      rw (spelling, opening_found opening (spelled w ++ close ∷ rest) (starts w (close ∷ rest)), content.found w (close ∷ rest) fit (omega (arith, small, enclosed_size opening w)) (omega arith)) refl

  -- what is read behind an opening is a pair of parentheses
  enclosed_only : (opening : Opening) (w : Written) (ts us rest : List Token) → opening_at ts ≡ Some (opening, us) → atom_or_content inside ts (Some (opening, us)) ≡ Some (w, rest) → Fits 7 w × (ts ≡ spelled w ++ rest)
  enclosed_only opening w ts us rest there e =
      let content = content_reads opening in
      let takes = symbol_takes symbols.Close in
      let b = bind_some (content_of inside opening us) (λ r. behind (after_symbol symbols.Close) (done (enclosed opening r.0)) r.1) (w, rest) e in
      let o = content.only b.0.0 us b.0.1 b.1 in
      let closed = bind_some (after_symbol symbols.Close b.0.1) (done (enclosed opening b.0.0)) (w, rest) b.2 in
      let p = some_pair_parts (enclosed opening b.0.0) w closed.0 rest closed.2 in
      let behind_it : b.0.1 ≡ close ∷ rest = takes.only b.0.1 closed.0 closed.1 ∙ ap (λ (vs : List Token). close ∷ vs) p.1 in
      let whole : ts ≡ spelled (enclosed opening b.0.0) ++ rest
      = opening_only ts opening us there ∙ ap (λ (vs : List Token). opening_tokens opening ++ vs) (o.1 ∙ ap (λ (vs : List Token). spelled b.0.0 ++ vs) behind_it ∙ sym (append_assoc (spelled b.0.0) (close ∷ []) rest))
      ∙ sym (append_assoc (opening_tokens opening) (spelled b.0.0 ++ close ∷ []) rest) ∙ ap (λ (vs : List Token). vs ++ rest) (sym (enclosed_spelled opening b.0.0)) in
      subst (λ (x : Written). Fits 7 x × (ts ≡ spelled x ++ rest)) p.0 (enclosed_fits opening b.0.0 o.0, whole)

  -- a primary is read
  found : (w : Written) (rest : List Token) → Fits 7 w → length (spelled w) < suc size → joint_in rest ≤ 7 → primary_of inside (spelled w ++ rest) ≡ Some (w, rest)
  unfolding primary_of
  found (Number n) rest fit small end = refl
  found (Text t) rest fit small end = refl
  found (Date t) rest fit small end = refl
  found Null rest fit small end = refl
  found (Column c) rest fit small end = rw (column_opens c.source c.name rest) (column_found c.source c.name rest end)
  found CountAll rest fit small end = refl
  found (Aggregate function a) rest fit small end = enclosed_found (openings.Aggregate function) a rest (from_fits 4 a fit.1) small
  found (Extract part a) rest fit small end = enclosed_found (openings.Extract part) a rest (from_fits 4 a fit.1) small
  found (Parens a) rest fit small end = enclosed_found openings.Parens a rest (omega arith, fit.1) small
  found w rest fit small end = absurd (omega (arith, fit.0))

  -- an opening or none: what is read stands for itself
  by_opening : (w : Written) (ts rest : List Token) (o : Option (Opening × List Token)) → opening_at ts ≡ o → atom_or_content inside ts o ≡ Some (w, rest) → Fits 7 w × (ts ≡ spelled w ++ rest)
  by_opening w ts rest None there e = atom_only w ts rest e
  by_opening w ts rest (Some (opening, us)) there e = enclosed_only opening w ts us rest there e

  -- what is read stands for itself
  only : (w : Written) (ts rest : List Token) → primary_of inside ts ≡ Some (w, rest) → Fits 7 w × (ts ≡ spelled w ++ rest)
  unfolding primary_of
  only w ts rest e = by_opening w ts rest (opening_at ts) refl e

  -- primaries are read exactly
  pub primary_reads : ReadsTight (suc size) 7 (primary_of inside)
  primary_reads = record { found = found; only = only }
