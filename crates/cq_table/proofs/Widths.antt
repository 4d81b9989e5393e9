-- How many values the rows of a table have.
use Rattle.std.proofs.Common.{List, length}
use Rattle.std.specs.List.{AllByRecursion}
use Rattle.cq_values.specs.Value.{Row}
use Rattle.cq_values.specs.declared.column.ColumnDef.{ColumnDef}
use Rattle.cq_segments_pieces.specs.Columns.{AreWide}
use Rattle.cq_model_state.specs.Fitting.{FitsColumn, FitsColumns}
use Rattle.cq_model_bags.proofs.Lists.{all-weaker}
use Rattle.cq_model_state.proofs.Pairwise.{pointwise_length}

-- rows that fit the columns have a value for each
pub fitting_wide : (columns : List ColumnDef) (rows : List Row) → AllByRecursion (FitsColumns columns) rows → AreWide (length columns) rows
fitting_wide columns rows fitting = all-weaker _ _ (λ row fits. pointwise_length FitsColumn columns row fits) rows fitting
