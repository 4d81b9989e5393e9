use Rattle.std.proofs.Common.{◌≡◌, ◌∙◌, ◌+◌, ◌-◌, ◌++◌, ◌∷◌, List, Option, [], ap, length, subst, sym, unwrap_or, arith}
use Rattle.std.specs.Int.{w128}
use Rattle.std.proofs.lemmas.Int.{to_z-of_z}
use Rattle.std.proofs.lemmas.List.{length-append}
use Rattle.std.proofs.lemmas.Result.{on_ok_weaker}
use Rattle.cq_values.specs.Value.{Row}
use Rattle.cq_model.specs.Group.{key_of}
use Rattle.cq_deltas.specs.Additions.{addition}
use Rattle.cq_deltas.specs.Keyed.{AddsBehind, IsReadyAt, addition_at, key_at}
use Rattle.cq_deltas.specs.Placed.{Placed, placed_at, row_read}
use Rattle.cq_deltas.proofs.Places.{adds-more, keep-trans, key-there, last-row}
use Rattle.cq_deltas.proofs.open_groups.OpenGroups.ready.Goals as goal

pub returns-clause-adds : goal.returns-clause-adds
returns-clause-adds c =
    let old = c.args.self.now in
    let middle = c.place_of.new.self in
    let new = c.make_room.new.self in
    let place = c.in_ok-place.place in
    let there = c.in_ok-place.ensures.place in
    let row : Placed = placed_at place c.args.by.aggregates.now c.args.row.now c.args.weight in
    let pushed : c.push.new.self ≡ c.args.change.now ++ row ∷ [] = rw (to_z-of_z w128 c.args.weight c.ranges.weight) at c.in_ok-push.ensures.row in
    let behind : c.len.result - 1 + 1 ≡ length (c.args.change.now ++ row ∷ []) =
    omega (arith, c.len.ensures, ap (λ (rows : List Placed). length rows) pushed, length-append c.args.change.now (row ∷ [])) in
    let is_last : row_read c.row-last.result ≡ row = last-row c.args.change.now row (row_read c.row-last.result) (c.len.result - 1) behind (rw pushed at c.row-last.ensures) in
    let kept = c.make_room.ensures.keep.keys place (key-there middle place c.in_ok-key.key there) in
    let key : key_at new place ≡ key_of c.args.by.columns.now c.args.row.now = ap (λ (o : Option Row). unwrap_or o []) (kept ∙ there) ∙ c.in_ok-key.ensures in
    let one = addition c.args.by.columns.now c.args.by.aggregates.now (c.args.row.now, c.args.weight) in
    let is : addition_at new row ≡ one = λ j. record { key = key j; weight = c.args.weight; addends = row.addends } in
    on_ok_weaker c.make_room.result
    (λ room.
    let ready : IsReadyAt row.addends new place = subst (λ (r : Placed). IsReadyAt r.addends new place) is_last room in
    subst (λ (rows : List Placed). AddsBehind old c.args.change.now one new rows) (sym pushed)
    (adds-more old new (keep-trans old middle new c.place_of.ensures.keep c.make_room.ensures.keep) c.args.change.now row one c.requires.keys is ready))
    c.make_room.ensures.room
