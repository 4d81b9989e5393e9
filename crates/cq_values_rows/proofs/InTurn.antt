-- Rows that are read in turn, each by its place.
use Rattle.std.proofs.Common.{◌++◌, ◌∷◌, [], take, ◌∙◌, ap}
use Rattle.std.proofs.lemmas.List.{take_more}
use Rattle.std.proofs.lemmas.Option.{get_or_from_slice_get, slice_get_within}
use Rattle.cq_values.specs.Value.{Row}
use Rattle.cq_values_rows.specs.RowList.{RowsComeInTurn}

-- the row at the place is the next one that is taken
pub come_in_turn : RowsComeInTurn
come_in_turn rows place row at =
    take_more rows place row (slice_get_within rows place row at) ∙ ap (λ (r : Row). take place rows ++ r ∷ []) (get_or_from_slice_get rows place row row at)
