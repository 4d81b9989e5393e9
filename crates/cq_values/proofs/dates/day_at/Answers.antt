use Rattle.std.proofs.Common.{◌≡◌, ◌↔◌, pos, IsSome, IfSome, rules}
use Rattle.jiff_core.specs.Calendar.{IsDate}
use Rattle.jiff_core.specs.Date.{epoch_day, IsYmd}
use Rattle.cq_values.specs.Days.{IsDay}
use Rattle.cq_values.proofs.NamedDays.{day_at-found, told}
use Rattle.cq_values.proofs.dates.day_at.Goals as goal

-- the day of the date that was made is the one that the parts name
pub returns-in-Ok-clause-named : goal.returns-in-Ok-clause-named
returns-in-Ok-clause-named c =
    let real : IsDate (pos c.args.year) (pos c.args.month) (pos c.args.day) = search rules in
    let parts : IsYmd (pos c.args.year) (pos c.args.month) (pos c.args.day) c.in-Ok.date = search rules in
    let has : IsSome c.new-in-Ok.result ↔ IsDay (epoch_day c.in-Ok.date) = search rules in
    let is : IfSome c.new-in-Ok.result (λ n. n ≡ epoch_day c.in-Ok.date) = search rules in
    rw c.ok_or.ensures.value (told _ _ _ (day_at-found _ _ _ c.in-Ok.date c.new-in-Ok.result real parts has is))
