-- The choices of a test are read exactly, where sums are.
use Rattle.std.proofs.Common.{◌≡◌, ℕ, zero, suc, ◌≤◌, ◌<◌, true, List, [], ◌∷◌, ◌++◌, length, Option, Some, None, refl, sym, ap, ◌∙◌, append_assoc, arith, length-append}
use Rattle.std.proofs.lemmas.Bool.{and_from}
use Rattle.std.proofs.lemmas.List.{append-nil}
use Rattle.cq_sql_language.specs.declared.token.Symbol.TheVariants as symbols
use Rattle.cq_sql_language.specs.declared.token.Token.{Token}
use Rattle.cq_sql_language.specs.declared.token.Token.TheVariants as tokens
use Rattle.cq_sql_language.specs.Written.{Written, Choices, NoChoice, Choice}
use Rattle.cq_sql_language.specs.Expression.{fits, is_in_order, are_in_order, has_entries}
use Rattle.cq_sql_language.specs.Spelling.{spelled, spelled_choices, spelled_more}
use Rattle.cq_sql_expressions.specs.declared.separators.Separator.TheVariants as separators
use Rattle.cq_sql_expressions.specs.Read.{Reader, done, behind, followed_by, after_symbol}
use Rattle.cq_sql_expressions.specs.Lists.{chain_from, one_more_behind}
use Rattle.cq_sql_expressions.specs.Chains.{separated_part, more_parts}
use Rattle.cq_sql_expressions.specs.Expressions.{Inside, choices_of, enclosed_choices}
use Rattle.cq_sql_expressions.proofs.Exact.{bind_some, symbol_takes}
use Rattle.cq_sql_expressions.proofs.Chains.{goes_on, breaks, stops, runs_out}
use Rattle.cq_sql_expressions.proofs.Tight.{joint_in, Fits, to_fits, ReadsTight}
use Rattle.cq_sql_expressions.proofs.ValueTests.{entries, comma, more_ends, more_found}
use Rattle.std.proofs.lemmas.Option.{some_pair_parts}

-- what was read behind other entries are entries, in order, and their tokens
abbrev pub MoreEntries : List Written → List Token → List Written → List Token → Type 0
MoreEntries ws ts vs rest = (bs : Choices) × (vs ≡ ws ++ entries bs) × (are_in_order bs ≡ true) × (ts ≡ spelled_more bs ++ rest)

-- what was read as choices are at least one entry, in order, and their tokens
abbrev pub SomeEntries : List Written → List Token → List Token → Type 0
SomeEntries ws ts rest = (bs : Choices) × (ws ≡ entries bs) × (has_entries bs ≡ true) × (are_in_order bs ≡ true) × (ts ≡ spelled_choices bs ++ rest)

module _ (size : ℕ) (sum : Reader Written) (reads : ReadsTight size 4 sum) where
  -- behind a comma a sum was read, and more entries
  more_read : (n : ℕ) (ws vs : List Written) (ts us rest : List Token) (read : Option (Written × List Token)) → sum us ≡ read → ts ≡ comma ∷ us → after_symbol symbols.Comma ts ≡ Some us
      → chain_from (separated_part separators.Comma sum) (suc n) ws ts ≡ Some (vs, rest) → ((os : List Written) (rs : List Token) → chain_from (separated_part separators.Comma sum) n os rs ≡ Some (vs, rest) → MoreEntries os rs vs rest) → MoreEntries ws ts vs rest
  unfolding one_more_behind
  more_read n ws vs ts us rest None is split there e again =
      let step : separated_part separators.Comma sum ws ts ≡ Some None = rw (there, is) refl in
      let bad : ◌≡◌ {A = Option (List Written × List Token)} None (Some (vs, rest)) = sym (breaks (separated_part separators.Comma sum) n ws ts step) ∙ e in
      absurd (cc bad)
  more_read n ws vs ts us rest (Some (x, rs)) is split there e again =
      let step : separated_part separators.Comma sum ws ts ≡ Some (Some (ws ++ x ∷ [], rs)) = rw (there, is) refl in
      let o = reads.only x us rs is in
      let m = again (ws ++ x ∷ []) rs (sym (goes_on (separated_part separators.Comma sum) n ws (ws ++ x ∷ []) ts rs step) ∙ e) in
      let whole : ts ≡ spelled_more (Choice x m.0) ++ rest = split ∙ ap (λ (qs : List Token). comma ∷ qs) (o.1 ∙ ap (λ (qs : List Token). spelled x ++ qs) m.3 ∙ sym (append_assoc (spelled x) (spelled_more m.0) rest)) in
      (Choice x m.0, m.1 ∙ append_assoc ws (x ∷ []) (entries m.0), and_from (fits 4 x (is_in_order x)) (are_in_order m.0) (to_fits 4 x o.0) m.2, whole)

  -- with or without a comma, what is read behind other entries are entries
  more_at : (n : ℕ) (ws vs : List Written) (ts rest : List Token) (after : Option (List Token)) → after_symbol symbols.Comma ts ≡ after → chain_from (separated_part separators.Comma sum) (suc n) ws ts ≡ Some (vs, rest)
      → ((os : List Written) (rs : List Token) → chain_from (separated_part separators.Comma sum) n os rs ≡ Some (vs, rest) → MoreEntries os rs vs rest) → MoreEntries ws ts vs rest
  unfolding one_more_behind
  more_at n ws vs ts rest None there e again =
      let step : separated_part separators.Comma sum ws ts ≡ None = rw there refl in
      let p = some_pair_parts ws vs ts rest (sym (stops (separated_part separators.Comma sum) (suc n) ws ts step) ∙ e) in
      (NoChoice, sym p.0 ∙ sym (append-nil ws), refl, p.1)
  more_at n ws vs ts rest (Some us) there e again =
      let takes = symbol_takes symbols.Comma in
      more_read n ws vs ts us rest (sum us) refl (takes.only ts us there) there e again

  -- what is read behind other entries are entries
  pub more_only : (n : ℕ) (ws vs : List Written) (ts rest : List Token) → chain_from (separated_part separators.Comma sum) n ws ts ≡ Some (vs, rest) → MoreEntries ws ts vs rest
  more_only zero ws vs ts rest e =
      let p = some_pair_parts ws vs ts rest (sym (runs_out (separated_part separators.Comma sum) zero ws ts refl) ∙ e) in
      (NoChoice, sym p.0 ∙ sym (append-nil ws), refl, p.1)
  more_only (suc n) ws vs ts rest e = more_at n ws vs ts rest (after_symbol symbols.Comma ts) refl e (λ us rs h. more_only n us vs rs rest h)

-- the sign that opens the choices
abbrev pub open_sign : Token
open_sign = tokens.Symbol symbols.Open

-- the sign that closes the choices
abbrev pub close_sign : Token
close_sign = tokens.Symbol symbols.Close

module _ (size : ℕ) (inside : Inside) (reads : ReadsTight size 4 inside.sum) where
  -- choices are read up to the sign that closes them
  choices_found : (a : Written) (bs : Choices) (rest : List Token) → Fits 4 a → are_in_order bs ≡ true → length (spelled a ++ spelled_more bs) < size → joint_in rest ≤ 4 → after_symbol symbols.Comma rest ≡ None
      → choices_of inside ((spelled a ++ spelled_more bs) ++ rest) ≡ Some (a ∷ entries bs, rest)
  unfolding choices_of more_parts
  choices_found a bs rest fit order small end none =
      let count = length-append (spelled a) (spelled_more bs) in
      let first : inside.sum ((spelled a ++ spelled_more bs) ++ rest) ≡ Some (a, spelled_more bs ++ rest)
      = ap inside.sum (append_assoc (spelled a) (spelled_more bs) rest) ∙ reads.found a (spelled_more bs ++ rest) fit (omega (arith, count, small)) (more_ends bs rest end) in
      rw first (more_found size inside.sum reads bs (length (spelled_more bs ++ rest)) (a ∷ []) rest (omega (arith, length-append (spelled_more bs) rest)) (omega (arith, count, small)) order end none)

  -- choices are read, with their parentheses
  pub enclosed_choices_found : (a : Written) (bs : Choices) (rest : List Token) → Fits 4 a → are_in_order bs ≡ true → length (spelled a ++ spelled_more bs) < size
      → enclosed_choices inside (open_sign ∷ ((spelled a ++ spelled_more bs) ++ close_sign ∷ rest)) ≡ Some (a ∷ entries bs, rest)
  unfolding enclosed_choices
  enclosed_choices_found a bs rest fit order small = rw (choices_found a bs (close_sign ∷ rest) fit order small (omega arith) refl) refl

  -- what is read as choices are entries
  choices_only : (ws : List Written) (ts rest : List Token) → choices_of inside ts ≡ Some (ws, rest) → SomeEntries ws ts rest
  unfolding choices_of more_parts
  choices_only ws ts rest e =
      let f = bind_some (inside.sum ts) (λ r. chain_from (separated_part separators.Comma inside.sum) (length r.1) (r.0 ∷ []) r.1) (ws, rest) e in
      let o = reads.only f.0.0 ts f.0.1 f.1 in
      let m = more_only size inside.sum reads (length f.0.1) (f.0.0 ∷ []) ws f.0.1 rest f.2 in
      let whole : ts ≡ spelled_choices (Choice f.0.0 m.0) ++ rest = o.1 ∙ ap (λ (vs : List Token). spelled f.0.0 ++ vs) m.3 ∙ sym (append_assoc (spelled f.0.0) (spelled_more m.0) rest) in
      (Choice f.0.0 m.0, m.1, refl, and_from (fits 4 f.0.0 (is_in_order f.0.0)) (are_in_order m.0) (to_fits 4 f.0.0 o.0) m.2, whole)

  -- what is read as choices with their parentheses are entries between these
  pub enclosed_choices_only : (ws : List Written) (ts rest : List Token) → enclosed_choices inside ts ≡ Some (ws, rest)
      → (bs : Choices) × (ws ≡ entries bs) × (has_entries bs ≡ true) × (are_in_order bs ≡ true) × (ts ≡ open_sign ∷ (spelled_choices bs ++ close_sign ∷ rest))
  unfolding enclosed_choices
  enclosed_choices_only ws ts rest e =
      let opens = symbol_takes symbols.Open in
      let closes = symbol_takes symbols.Close in
      let f = bind_some (after_symbol symbols.Open ts) (followed_by (choices_of inside) (λ vs. behind (after_symbol symbols.Close) (done vs))) (ws, rest) e in
      let c = bind_some (choices_of inside f.0) (λ r. behind (after_symbol symbols.Close) (done r.0) r.1) (ws, rest) f.2 in
      let l = bind_some (after_symbol symbols.Close c.0.1) (done c.0.0) (ws, rest) c.2 in
      let p = some_pair_parts c.0.0 ws l.0 rest l.2 in
      let m = choices_only c.0.0 f.0 c.0.1 c.1 in
      let end : c.0.1 ≡ close_sign ∷ rest = closes.only c.0.1 l.0 l.1 ∙ ap (λ (vs : List Token). close_sign ∷ vs) p.1 in
      let whole : ts ≡ open_sign ∷ (spelled_choices m.0 ++ close_sign ∷ rest) = opens.only ts f.0 f.1 ∙ ap (λ (vs : List Token). open_sign ∷ vs) (m.4 ∙ ap (λ (vs : List Token). spelled_choices m.0 ++ vs) end) in
      (m.0, sym p.0 ∙ m.1, m.2, m.3, whole)
