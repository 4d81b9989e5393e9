use Rattle.std.proofs.Common.{◌≡◌, ◌-◌}
use Rattle.cq_sql_expressions.specs.Lists.{chain_from, led, more_at}
use Rattle.cq_sql_expressions.proofs.read.more_of.Given as goal

-- the entries so far and what is still read make the whole
abbrev pub invariant-loop : goal.invariant-loop
invariant-loop g l = chain_from (led l.lead g.T.Readable.reads) (l.end - l.counter) l.items l.rest ≡ more_at l.lead g.T.Readable.reads l.fn.before l.tokens
