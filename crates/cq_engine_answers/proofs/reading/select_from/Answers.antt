use Rattle.std.proofs.lemmas.Result.{err_from_is_err_and}
use Rattle.cq_model.specs.Views.{sources_of}
use Rattle.cq_engine_answers.proofs.Backed.{all_backed}
use Rattle.cq_engine_answers.proofs.Joined.{gather_refused}
use Rattle.cq_engine_tables.specs.HeldTables.{tables_of}
use Rattle.cq_engine_answers.proofs.reading.select_from.Goals as goal

-- each view that FROM names is backed by its tables
pub gather-requires-clause-backed : goal.gather-requires-clause-backed
gather-requires-clause-backed c =
    rw (c.deref.ensures.value, c.in_ok-sources-in_default.ensures)
    (all_backed (tables_of c.args.tables.now) c.requires.fitting c.requires.few c.args.views.now (sources_of c.args.query.now) c.requires.readable)

-- each source is there
pub gather-requires-clause-there : goal.gather-requires-clause-there
gather-requires-clause-there c = (tables_of c.args.tables.now, rw (c.deref.ensures.value, c.in_ok-sources-in_default.ensures) c.requires.can_read.there)

-- a view that cannot be shown refuses
pub returns-in_err-gathered-in_default : goal.returns-in_err-gathered-in_default
returns-in_err-gathered-in_default c =
    let p = err_from_is_err_and c.from_residual-in_err-gathered-in_default.result c.from_residual-in_err-gathered-in_default.ensures.1 in
    let fault = rw (c.deref.ensures.value, c.in_ok-sources-in_default.ensures) at c.in_err-gathered-in_default.ensures.fault in
    rw (p.1, p.2)
    (gather_refused (tables_of c.args.tables.now) c.args.views.now c.requires.fitting c.args.query.now c.requires.readable
    c.args.order.now c.in_err-gathered-in_default.field-0.0 fault)
