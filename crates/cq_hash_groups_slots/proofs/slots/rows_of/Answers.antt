use Rattle.std.proofs.Common.{arith, rules}
use Rattle.std.proofs.lemmas.Int.{ints, to_z-of_z}
use Rattle.cq_hash_groups_slots.proofs.Putting.{rows-at}
use Rattle.cq_hash_groups_slots.proofs.slots.rows_of.Goals as goal

pub returns : goal.returns
returns c =
    let at = rows-at c.args.sums.now c.args.nulls.now c.args.group in
    first_of (search (arith, ints, to_z-of_z, at, c.count.ensures, c.count-2.ensures, c.from.ensures, c.from-2.ensures), search (rules, at), grind (arith, at))
