use Rattle.std.proofs.Common.{◌≡◌, Some, slice_get, ap, rules, FitsSigned}
use Rattle.std.specs.Int.{w128}
use Rattle.std.specs.Map.{values_of}
use Rattle.std.specs.Option.{option_map}
use Rattle.std.proofs.lemmas.Int.{to_z-of_z}
use Rattle.cq_deltas.specs.Kept.{group_with, seen_group}
use Rattle.cq_deltas.specs.Keyed.{addition_at}
use Rattle.cq_deltas.specs.Placed.{row_read}
use Rattle.cq_deltas.proofs.AtKeys.{put-everywhere}
use Rattle.cq_deltas.proofs.Places.{held-there, over-keep, writes}
use Rattle.cq_deltas.proofs.open_groups.OpenGroups.put.Goals as goal

pub add-requires-clause-holds : goal.add-requires-clause-holds
add-requires-clause-holds c =
    let row = row_read c.args.row in
    let fits : FitsSigned w128 row.weight = search rules in
    let at : slice_get (values_of c.args.self.now) row.place ≡ Some c.in-Some.group.now = search rules in
    let distinct = rw c.self.view_is at c.get_index_mut.ensures.unique in
    rw (to_z-of_z w128 row.weight fits)
    (c.requires.holds (seen_group c.in-Some.group.now) (ap (option_map seen_group) (held-there c.args.self.now row.place c.in-Some.group.now distinct at)))

pub returns-clause-put : goal.returns-clause-put
returns-clause-put c =
    let old = c.self.inside.groups in
    let row = row_read c.args.row in
    let group = c.in-Some.group.now in
    let fits : FitsSigned w128 row.weight = search rules in
    let at : slice_get (values_of old.entries) row.place ≡ Some group = search rules in
    let distinct = c.get_index_mut.ensures.unique in
    let put : seen_group c.add.new.self ≡ group_with row.weight row.addends (seen_group group) =
    rw (to_z-of_z w128 row.weight fits) at c.add.ensures.seen in
    rw (← c.self.view_is)
    (put-everywhere old.entries _ (addition_at old.entries row) group c.add.new.self (writes old row.place group c.add.new.self distinct at) put (held-there old.entries row.place group distinct at))

pub returns-clause-keep : goal.returns-clause-keep
returns-clause-keep c =
    let old = c.self.inside.groups.entries in
    let at : slice_get (values_of old) c.args.row.place ≡ Some c.in-Some.group.now = search rules in
    rw (← c.self.view_is) (over-keep c.in-Some.group.now c.add.new.self old c.args.row.place at c.add.ensures.kept)
