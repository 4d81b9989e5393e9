use Rattle.std.proofs.Common.{◌≡◌, ◌++◌, ◌∷◌, ◌∙◌, [], List, Option, ap, ap₂, length, rules}
use Rattle.std.specs.Int.{w128}
use Rattle.std.proofs.lemmas.Int.{to_z-of_z}
use Rattle.cq_deltas.specs.declared.change.Addend.{Addend}
use Rattle.cq_deltas.specs.Additions.{addends_of}
use Rattle.cq_deltas.specs.Placed.{Placed, placed_at, rows_in}
use Rattle.cq_deltas.proofs.SpannedRows.{rows-pushed}
use Rattle.cq_deltas.proofs.change.GroupChange.push.Goals as goal

pub returns-clause-row : goal.returns-clause-row
returns-clause-row c =
    let old = c.self.inside in
    let start = length old.addends.items in
    let adds = addends_of c.args.row.now c.args.aggregates.now in
    let from : c.len-start.result ≡ start = search rules in
    let to : c.len-end.result ≡ length c.push_addends.new.addends.items = search rules in
    let row : Placed = placed_at c.args.place c.args.aggregates.now c.args.row.now c.args.weight in
    let added = c.in_ok-push_addends.ensures.ok in
    let pushed = rw (to_z-of_z w128 c.args.weight c.ranges.weight, from, to) at c.in_ok-push.ensures.items in
    ap₂ rows_in added
    (pushed ∙ ap (λ (addends : List (Option Addend)). old.rows.items ++ record { place = c.args.place; weight = c.args.weight; start = start; end = length addends } ∷ []) added)
    ∙ rows-pushed old.addends.items adds old.rows.items c.args.place c.args.weight c.self.invariant
    ∙ ap (λ (rows : List Placed). rows ++ row ∷ []) c.self.view_is
