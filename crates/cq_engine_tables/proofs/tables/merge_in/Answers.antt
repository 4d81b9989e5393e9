use Rattle.std.proofs.Common.{ap}
use Rattle.cq_model_state.specs.State.{TableOf}
use Rattle.cq_engine_tables.specs.HeldTables.{MergeTo}
use Rattle.cq_engine_tables.proofs.HeldTables.{change-at, tables_same}
use Rattle.cq_engine_tables.proofs.tables.merge_in.Goals as goal

pub returns-clause-same : goal.returns-clause-same
returns-clause-same c =
    let at = rw c.deref.ensures.value at c.place_numbered-place.ensures in
    tables_same c.args.tables.now.items c.place_numbered-place.result c.index_mut.result.now c.merge.new.self at.within c.index_mut.ensures.value c.merge.ensures.same

pub returns-clause-lengths : goal.returns-clause-lengths
returns-clause-lengths c =
    let at = rw c.deref.ensures.value at c.place_numbered-place.ensures in
    change-at (λ _. MergeTo) c.args.number c.args.tables.now.items c.place_numbered-place.result c.requires.numbered.0 c.index_mut.result.now c.merge.new.self c.requires.numbered.1 at.within c.index_mut.ensures.value
    (at.numbered c.index_mut.result.now) c.merge.result (ap (λ (t : TableOf). t.number) c.merge.ensures.same) c.merge.ensures.lengths
