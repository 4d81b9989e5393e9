use Rattle.std.proofs.Common.{true, false, sym, ◌∙◌, take}
use Rattle.cq_binder_queries.proofs.Faults.{found, passed}
use Rattle.cq_binder.proofs.Sorting.{names_more, places_more, repeat_decides}
use Rattle.cq_binder.proofs.columns.sort_columns.Goals as goal

pub returns-then-is_named : goal.returns-then-is_named
returns-then-is_named c =
    let name = c.index-names-i.result in
    let m = names_more c.args.columns.now c.args.names.now c.loop-i.i name c.loop-i-test.true c.index-names-i.is in
    let there = rw c.as_str.ensures at (sym c.column_place.ensures ∙ c.in-Some.is) in
    let named = rw c.as_str-in-loop-i.ensures at (sym c.if-is_named.ensures) in
    found _ _ _ _ _ (repeat_decides c.args.columns.now (take c.loop-i.i c.args.names.now) name c.in-Some.place true there named) m c.loop-i.invariant.1

pub loop-i-preserved : goal.loop-i-preserved
loop-i-preserved c =
    let name = c.index-names-i.result in
    let columns = c.args.columns.now in
    let names = c.args.names.now in
    let m = names_more columns names c.loop-i.i name c.loop-i-test.true c.index-names-i.is in
    let there = rw c.as_str.ensures at (sym c.column_place.ensures ∙ c.in-Some.is) in
    let named = rw c.as_str-in-loop-i.ensures at (sym c.if-is_named.ensures) in (
      places_more columns names c.loop-i.i name c.loop-i-test.true c.index-names-i.is c.in-Some.place c.loop-i.places c.push.new.self there c.loop-i.invariant.0 c.in_ok-push.ensures.ok,
      passed _ _ _ _ (repeat_decides columns (take c.loop-i.i names) name c.in-Some.place false there named) m c.loop-i.invariant.1,
    )
