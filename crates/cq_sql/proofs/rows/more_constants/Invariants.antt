use Rattle.std.proofs.Common.{◌≡◌, ◌<◌, ◌-◌, length}
use Rattle.cq_sql_expressions.specs.Lists.{chain_from}
use Rattle.cq_sql.specs.Rows.{constant_led, last_row_at}
use Rattle.cq_sql.proofs.rows.more_constants.Given as goal

-- there is a last row, and what it has so far and what is still read make the whole
abbrev pub invariant-loop : goal.invariant-loop
invariant-loop l = (0 < length l.rows) × (chain_from constant_led (l.end - l.counter) l.rows l.rest ≡ last_row_at l.fn.rows l.tokens)
