use Rattle.std.proofs.Common.{Some, ap, sym, ◌∙◌}
use Rattle.cq_model_state.specs.State.{table_named}
use Rattle.cq_engine_tables.specs.HeldTables.{tables_of}
use Rattle.cq_engine.proofs.Lengths.{absent-mapped, lengths-found, told}
use Rattle.cq_engine.proofs.engine.Engine.stored.Goals as goal

pub returns-in_err-place : goal.returns-in_err-place
returns-in_err-place c =
    let ts = c.self.inside.tables.items in
    let missing = rw c.deref.ensures.value at c.in_err-place.ensures.named in
    rw (← c.self.view_is) (c.from_residual.ensures ∙ sym (absent-mapped (told ts) (table_named c.args.table.now (tables_of ts)) (sym missing)))

pub returns : goal.returns
returns c =
    let found = rw c.deref.ensures.value at c.in_ok-place.ensures in
    rw (← c.self.view_is)
    (ap Some c.lengths-write_len.ensures
    ∙ sym (lengths-found c.self.inside.tables.items c.args.table.now c.in_ok-place.place c.self.inside.drawn c.index.result.now c.self.invariant.history.sound.numbered found.within c.index.ensures found.found))
