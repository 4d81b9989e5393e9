use Rattle.cq_values.proofs.NamedDays.{first_day, last_day}
use Rattle.cq_values.specs.Dates.{day_named}
use Rattle.std.proofs.Common.{ap, Some}
use Rattle.cq_values.proofs.dates.calendar_ends.Goals as goal

pub returns-clause-first : goal.returns-clause-first
unfolding day_named
returns-clause-first c = ap Some first_day

pub returns-clause-last : goal.returns-clause-last
unfolding day_named
returns-clause-last c = ap Some last_day
