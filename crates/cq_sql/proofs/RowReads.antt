-- Rows are read one behind the other, as each of them is read by itself.
use Rattle.std.proofs.Common.{◌≡◌, ℕ, zero, suc, ◌-◌, ◌+◌, ◌<◌, List, [], ◌∷◌, ◌++◌, length, Option, Some, None, refl, sym, ap, ◌∙◌, arith, length-append}
use Rattle.std.specs.Option.{option_map}
use Rattle.cq_sql_language.specs.declared.statement.Constant.{Constant}
use Rattle.cq_sql_language.specs.declared.token.Symbol.TheVariants as symbols
use Rattle.cq_sql_language.specs.declared.token.Token.{Token}
use Rattle.cq_sql_language.specs.ConstantRows.{onto_last}
use Rattle.cq_sql_language.proofs.Cuts.{onto_last-append}
use Rattle.cq_sql_expressions.specs.declared.fault.SqlFault.{SqlFault}
use Rattle.cq_sql_expressions.specs.declared.fault.SqlFault.TheVariants as errors
use Rattle.cq_sql_expressions.specs.declared.leads.Lead.TheVariants as leads
use Rattle.cq_sql_expressions.specs.Gives.{Fails}
use Rattle.cq_sql_expressions.specs.Lists.{chain_from, led, list_at, more_at, one_more_behind, stop_or_go}
use Rattle.cq_sql_expressions.specs.Read.{◌>>=◌, done, followed_by, behind, after_symbol}
use Rattle.cq_sql_expressions.proofs.Chains.{turn_goes_on, turn_breaks, turn_fails, turn_stops}
use Rattle.cq_sql.specs.Parts.{constant_at, row_at}
use Rattle.cq_sql.specs.Rows.{constant_led, last_row_at, more_rows_at, row_behind}

-- ---- Constants of the last row
-- a turn, where what was read and what is still read make the whole
module _ (rows : List (List Constant)) (count i : ℕ) (ts : List Token) (total : Option (List (List Constant) × List Token)) (lt : i < count) (so_far : chain_from constant_led (count - i) rows ts ≡ total) where
  -- a comma and a constant: the rest is still read
  pub constant_goes_on : (us vs : List Token) (x : Constant) → after_symbol symbols.Comma ts ≡ Some us → constant_at us ≡ Some (x, vs) → chain_from constant_led (count - (i + 1)) (onto_last x rows) vs ≡ total
  unfolding constant_led
  constant_goes_on us vs x there read =
      let step : constant_led rows ts ≡ Some (Some (onto_last x rows, vs)) = rw (there, read) refl in
      turn_goes_on constant_led count i rows ts total lt so_far (onto_last x rows) vs step

  -- a comma and no constant: the whole fails in the same way
  pub constant_fails : (e : SqlFault) (us : List Token) → after_symbol symbols.Comma ts ≡ Some us → Fails e (constant_at us) → Fails e total
  unfolding constant_led
  constant_fails e us there failed =
      let step : constant_led rows ts ≡ Some (constant_at us >>= λ r. Some (onto_last r.0 rows, r.1)) = rw there refl in
      turn_fails constant_led count i rows ts total lt so_far e (constant_at us) (λ r. Some (onto_last r.0 rows, r.1)) step failed

  -- no comma: this is the whole
  pub constants_stop : after_symbol symbols.Comma ts ≡ None → total ≡ Some (rows, ts)
  unfolding constant_led
  constants_stop none =
      let step : constant_led rows ts ≡ None = rw none refl in
      turn_stops constant_led count i rows ts total lt so_far step

-- the first constant of a row that was begun
pub first_pushed : (old begun new : List (List Constant)) (x : Constant) → begun ≡ old ++ [] ∷ [] → new ≡ onto_last x begun → new ≡ old ++ (x ∷ []) ∷ []
first_pushed old begun new x is more = more ∙ ap (onto_last x) is ∙ onto_last-append x old []

-- and so there is a last row
pub first_there : (old begun new : List (List Constant)) (x : Constant) → begun ≡ old ++ [] ∷ [] → new ≡ onto_last x begun → 0 < length new
first_there old begun new x is more =
    let len = ap length (first_pushed old begun new x is more) in
    omega (arith, len, length-append old ((x ∷ []) ∷ []))

-- ---- One row
-- the row that was read, behind the others
abbrev pub behind_rows : List (List Constant) → Option (List Constant × List Token) → Option (List (List Constant) × List Token)
behind_rows rows read = read >>= λ r. Some (rows ++ r.0 ∷ [], r.1)

-- a turn, with the rows before it
abbrev turn_behind : List (List Constant) → Option (Option (List Constant × List Token)) → Option (Option (List (List Constant) × List Token))
turn_behind before turn = option_map (behind_rows before) turn

module _ (before : List (List Constant)) where
  -- a turn for the last of some rows is one for this row alone
  turn_same : (row : List Constant) (ts : List Token) → constant_led (before ++ row ∷ []) ts ≡ turn_behind before (led leads.Comma constant_at row ts)
  unfolding constant_led one_more_behind
  turn_same row ts = by_comma (after_symbol symbols.Comma ts) where
    by_constant : (read : Option (Constant × List Token)) → (read >>= λ r. Some (onto_last r.0 (before ++ row ∷ []), r.1)) ≡ behind_rows before (read >>= λ r. Some (row ++ r.0 ∷ [], r.1))
    by_constant None = refl
    by_constant (Some r) = ap (λ rows. Some (rows, r.1)) (onto_last-append r.0 before row)

    by_comma : (there : Option (List Token)) → option_map (λ us. constant_at us >>= λ r. Some (onto_last r.0 (before ++ row ∷ []), r.1)) there ≡ turn_behind before (option_map (λ us. constant_at us >>= λ r. Some (row ++ r.0 ∷ [], r.1)) there)
    by_comma None = refl
    by_comma (Some us) = ap Some (by_constant (constant_at us))

  -- and so are all turns
  chain_same : (n : ℕ) (row : List Constant) (ts : List Token) → chain_from constant_led n (before ++ row ∷ []) ts ≡ behind_rows before (chain_from (led leads.Comma constant_at) n row ts)
  unfolding chain_from
  chain_same zero row ts = refl
  chain_same (suc n) row ts = ap (stop_or_go (chain_from constant_led n) (before ++ row ∷ []) ts) (turn_same row ts) ∙ by_turn (chain_same n) (led leads.Comma constant_at row ts) where
    by_turn : ((row : List Constant) (ts : List Token) → chain_from constant_led n (before ++ row ∷ []) ts ≡ behind_rows before (chain_from (led leads.Comma constant_at) n row ts)) → (turn : Option (Option (List Constant × List Token))) → stop_or_go (chain_from constant_led n) (before ++ row ∷ []) ts (turn_behind before turn) ≡ behind_rows before (stop_or_go (chain_from (led leads.Comma constant_at) n) row ts turn)
    by_turn later None = refl
    by_turn later (Some None) = refl
    by_turn later (Some (Some r)) = later r.0 r.1

  last_row_same : (row : List Constant) (ts : List Token) → last_row_at (before ++ row ∷ []) ts ≡ behind_rows before (more_at leads.Comma constant_at row ts)
  unfolding last_row_at more_at
  last_row_same row ts = chain_same (length ts) row ts

  -- a row that is put behind the others is read as by itself
  pub row_same : (ts : List Token) → row_behind before ts ≡ behind_rows before (row_at ts)
  unfolding row_behind row_at list_at
  row_same ts = by_open (after_symbol symbols.Open ts) where
    by_close : (row : List Constant) (there : Option (List Token)) → (there >>= done (before ++ row ∷ [])) ≡ behind_rows before (there >>= done row)
    by_close row None = refl
    by_close row (Some us) = refl

    by_row : (read : Option (List Constant × List Token)) → (behind_rows before read >>= λ r. behind (after_symbol symbols.Close) (done r.0) r.1) ≡ behind_rows before (read >>= λ r. behind (after_symbol symbols.Close) (done r.0) r.1)
    by_row None = refl
    by_row (Some r) = by_close r.0 (after_symbol symbols.Close r.1)

    by_first : (read : Option (Constant × List Token))
        → (read >>= λ r. followed_by (last_row_at (before ++ (r.0 ∷ []) ∷ [])) (λ longer. behind (after_symbol symbols.Close) (done longer)) r.1)
        ≡ behind_rows before ((read >>= λ r. more_at leads.Comma constant_at (r.0 ∷ []) r.1) >>= λ r. behind (after_symbol symbols.Close) (done r.0) r.1)
    by_first None = refl
    by_first (Some r) =
        ap (λ read. read >>= λ q. behind (after_symbol symbols.Close) (done q.0) q.1) (last_row_same (r.0 ∷ []) r.1)
        ∙ by_row (more_at leads.Comma constant_at (r.0 ∷ []) r.1)

    by_open : (there : Option (List Token))
        → (there >>= followed_by constant_at (λ first. followed_by (last_row_at (before ++ (first ∷ []) ∷ [])) (λ longer. behind (after_symbol symbols.Close) (done longer))))
        ≡ behind_rows before (there >>= followed_by (list_at leads.Comma constant_at) (λ row. behind (after_symbol symbols.Close) (done row)))
    by_open None = refl
    by_open (Some us) = by_first (constant_at us)

-- ---- More rows
-- a list of rows is a first one behind none, and then more rows
pub list_same : (ts : List Token) → list_at leads.Comma row_at ts ≡ (row_behind [] ts >>= λ r. more_rows_at r.0 r.1)
unfolding list_at more_rows_at
list_same ts = by_row (row_at ts) ∙ ap (λ read. read >>= λ r. more_rows_at r.0 r.1) (sym (row_same [] ts)) where
  by_row : (read : Option (List Constant × List Token)) → (read >>= λ r. more_at leads.Comma row_at (r.0 ∷ []) r.1) ≡ (behind_rows [] read >>= λ r. more_rows_at r.0 r.1)
  by_row None = refl
  by_row (Some r) = refl

-- a turn, where what was read and what is still read make the whole
module _ (rows : List (List Constant)) (count i : ℕ) (ts : List Token) (total : Option (List (List Constant) × List Token)) (lt : i < count) (so_far : chain_from (led leads.Comma row_at) (count - i) rows ts ≡ total) (us : List Token) (there : after_symbol symbols.Comma ts ≡ Some us) where
  -- what the turn reads behind the comma
  turn : led leads.Comma row_at rows ts ≡ Some (row_behind rows us)
  unfolding one_more_behind
  turn = rw there (ap Some (sym (row_same rows us)))

  -- a row: the rest is still read
  pub row_goes_on : (longer : List (List Constant)) (vs : List Token) → row_behind rows us ≡ Some (longer, vs) → chain_from (led leads.Comma row_at) (count - (i + 1)) longer vs ≡ total
  row_goes_on longer vs read = turn_goes_on (led leads.Comma row_at) count i rows ts total lt so_far longer vs (turn ∙ ap Some read)

  -- no row: the whole fails in the same way
  pub row_fails : (e : SqlFault) → Fails e (row_behind rows us) → Fails e total
  row_fails errors.Memory failed = tt
  row_fails errors.Syntax failed = turn_breaks (led leads.Comma row_at) count i rows ts total lt so_far (turn ∙ ap Some failed)
  row_fails errors.LimitExceeded failed = absurd failed
