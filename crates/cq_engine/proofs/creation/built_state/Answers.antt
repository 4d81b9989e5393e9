use Rattle.std.proofs.Common.{ℕ, List, subst, sym}
use Rattle.cq_model.specs.Views.{sources_of}
use Rattle.cq_model.specs.declared.query.Query.{Query}
use Rattle.cq_engine_tables.specs.Views.{AreWide}
use Rattle.cq_engine.proofs.Entries.{can_start, stands_for_tables}
use Rattle.cq_engine.proofs.TableColumns.{tables-there}
use Rattle.cq_engine_tables.specs.HeldTables.{tables_of}
use Rattle.cq_engine.proofs.creation.built_state.Goals as goal

-- the sources are tables that are there
pub widths_of-requires-clause-there : goal.widths_of-requires-clause-there
widths_of-requires-clause-there c = tables-there (tables_of c.args.tables.now) c.requires.there.0 (sources_of c.args.query) c.requires.fits.can.tables c.requires.there.1

-- the rows of the tables are stored, few, and none of them less than never
pub build-requires-clause-start : goal.build-requires-clause-start
build-requires-clause-start c =
    rw c.deref.ensures.value
    (can_start (tables_of c.args.tables.now) c.args.query c.in_ok-sources.sources.items c.in_ok-sources.ensures c.requires.fitting
    c.requires.limited c.requires.fits)

-- the view that is built of them stands for the tables
pub returns : goal.returns
returns c =
    let state = c.in_ok-state.ensures in
    let v = c.in_ok-state.state in
    let stands = rw c.deref.ensures.value at state.stands in
    record {
      is_of = state.query;
      epoch = state.epoch;
      built = state.built;
      wide =
          subst (λ (q : Query). AreWide (tables_of c.args.tables.now) q v.widths) (sym state.query)
          (subst (λ (ns : List ℕ). AreWide (tables_of c.args.tables.now) c.args.query ns) (sym state.widths) c.in_ok-widths.ensures.wide);
      stands =
          stands_for_tables (tables_of c.args.tables.now) c.args.query c.in_ok-sources.sources.items c.in_ok-sources.ensures
          c.standing_depends_on_sources.ensures v state.query stands;
      uncounted = state.uncounted;
    }
