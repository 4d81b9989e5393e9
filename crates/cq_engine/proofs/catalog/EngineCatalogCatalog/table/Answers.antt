use Rattle.std.proofs.Common.{Some, sym, ap, ◌∙◌}
use Rattle.std.specs.Prelude.{option_map}
use Rattle.cq_binder_queries.specs.Catalog.{heading}
use Rattle.cq_model_state.specs.State.{table_named}
use Rattle.cq_engine_tables.specs.HeldTables.{HeldTable, tables_of}
use Rattle.cq_engine_tables.proofs.Held.{columns-held}
use Rattle.cq_engine.proofs.Lengths.{absent-mapped, table-found}
use Rattle.cq_engine.proofs.catalog.EngineCatalogCatalog.table.Goals as goal

pub returns-in_err-place : goal.returns-in_err-place
returns-in_err-place c =
    let tables = tables_of c.self.inside.tables.now in
    rw (← c.self.view_is, c.from_residual.ensures) (sym (absent-mapped heading (table_named c.args.name.now tables) (sym c.in_err-place.ensures.named)))

pub returns : goal.returns
returns c =
    let t = c.index-self-place.result in
    let there = table-found c.self.inside.tables.now c.args.name.now c.in_ok-place.place t c.in_ok-place.ensures.within c.index-self-place.is c.in_ok-place.ensures.found in
    let columns = c.columns.ensures ∙ columns-held c.table.result.now _ c.table.ensures in
    rw (← c.self.view_is) ((λ i. Some (record { number = c.number.ensures i; name = c.name.ensures i; columns = columns i }))
    ∙ ap (λ (x : HeldTable). Some (heading x.is)) (sym c.index-self-place.is) ∙ sym (ap (option_map heading) there))
