-- Lists of 1,024 items each.
use Rattle.std.proofs.Common.{◌≡◌, ◌+◌, ◌*◌, ◌<◌, ◌^◌, ◌++◌, List, [], ◌∷◌, length, length-append, refl, arith}
use Rattle.std.proofs.lemmas.List.{length-map}
use Rattle.cq_values.specs.Value.{Row}
use Rattle.cq_segments_pieces.specs.Marked.{MarkedRow, rows_of}
use Rattle.cq_segments_pieces.specs.Pieces.{joined}
use Rattle.cq_writestore_rows.specs.NewRows.{AreFresh, AreWhole}

pub whole-length : {X : Type 0} → (lists : List (List X)) → AreWhole lists → length (joined lists) ≡ 1024 * length lists
whole-length [] whole = refl
whole-length (list ∷ lists) whole = omega (arith, length-append list (joined lists), whole.0, whole-length lists whole.1)

module _ (pieces : List (List MarkedRow)) (tail : List Row) (are : AreFresh pieces tail) where
  -- how many rows stand in the pieces and behind them
  pub fresh-length : 1024 * length pieces + length tail ≡ length (rows_of (joined pieces) ++ tail)
  fresh-length = omega (arith, length-append (rows_of (joined pieces)) tail, length-map (joined pieces) (λ (m : MarkedRow). m.row), whole-length pieces are.whole)

  pub fresh-small : 1024 * length pieces + length tail < 2 ^ 63
  fresh-small = omega (arith, whole-length pieces are.whole, are.small)
