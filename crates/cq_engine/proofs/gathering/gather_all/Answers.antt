use Rattle.std.proofs.Common.{List, take, sym, subst}
use Rattle.std.proofs.lemmas.List.{take_more}
use Rattle.cq_model.specs.declared.query.Source.{Source}
use Rattle.cq_model.specs.declared.query.Source.TheVariants.{Table}
use Rattle.cq_engine.specs.Gathering.{AreGathered}
use Rattle.cq_engine_tables.specs.HeldTables.{tables_of}
use Rattle.cq_engine.proofs.gathering.gather_all.Goals as goal

-- one source more has an entry
pub loop-source-preserved : goal.loop-source-preserved
loop-source-preserved c =
    let sources = c.args.sources.now in
    let i = c.loop-source.source-index in
    subst (λ (ss : List Source). AreGathered (tables_of c.args.tables.now) ss c.gather.new.gathered.items)
    (sym (take_more sources i (Table 0) c.loop-source-test.true))
    (c.in_ok-gather.ensures (take i sources) c.loop-source.invariant)
