use Rattle.std.proofs.Common.{◌≡◌, ◌<◌, ◌^◌, take}
use Rattle.std.specs.Prelude.{sum}
use Rattle.std.specs.List.{AllZip}
use Rattle.cq_engine_tables.specs.Views.{IsWide}
use Rattle.cq_engine_tables.specs.HeldTables.{tables_of}
use Rattle.cq_engine.proofs.table_widths.all_widths.Given as goal

-- the sources so far have these widths, and they are counted
abbrev pub invariant-loop-source : goal.invariant-loop-source
invariant-loop-source l = AllZip (IsWide (tables_of l.tables)) (take l.source-index l.sources) l.widths × (sum l.widths ≡ l.total) × (l.total < 2 ^ 64)
