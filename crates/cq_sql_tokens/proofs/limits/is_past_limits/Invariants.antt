use Rattle.std.proofs.Common.{◌≡◌, ◌≤◌, ◌+◌, drop}
use Rattle.cq_sql_language.specs.Tokens.{goes_past}
use Rattle.cq_sql_tokens.proofs.limits.is_past_limits.Given as goal

-- what the rest says from here on is what all of them say, and no more than 64 parentheses are open
abbrev pub invariant-loop-token : goal.invariant-loop-token
invariant-loop-token l = (l.opened ≤ l.closed + 64) × (l.opened ≤ l.token-index) × (l.closed ≤ l.token-index) × (goes_past l.opened l.closed (drop l.token-index l.tokens) ≡ goes_past 0 0 l.tokens)
