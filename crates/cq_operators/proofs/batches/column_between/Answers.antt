use Rattle.std.proofs.Common.{◌<◌, ◌∙◌, ◌∷◌, ◌++◌, [], ap, arith, length, map, sym, take}
use Rattle.std.proofs.lemmas.List.{map-append, take_more}
use Rattle.cq_values.specs.Lent.{owned}
use Rattle.cq_values.specs.Value.{Row}
use Rattle.cq_operators.proofs.Between.{column-next}
use Rattle.cq_operators.proofs.batches.column_between.Goals as goal

-- with the value of the next row they are those of one row more
pub loop-place-preserved : goal.loop-place-preserved
loop-place-preserved c =
    let list = c.args.list.now in
    let at = c.loop-place.place in
    let row = c.row.result in
    let values = map owned c.loop-place.values.items in
    let inside : at < length list = omega (arith, c.loop-place-test.true, c.requires.inside) in
    let next = take_more list at [] inside ∙ ap (λ (row : Row). take at list ++ row ∷ []) (sym c.row.ensures) in
    record {
      values = ap (map owned) c.push_reserved.ensures.items ∙ map-append owned c.loop-place.values.items (c.lend.result ∷ [])
          ∙ column-next c.args.start at list (omega (arith, c.loop-place.auto.place)) (omega (arith, inside)) row c.args.column values (owned c.lend.result)
          next c.loop-place.invariant.values c.lend.ensures;
      room = omega (arith, c.push_reserved.ensures.len, c.push_reserved.ensures.capacity, c.loop-place.invariant.room, c.loop-place-test.true);
    }
