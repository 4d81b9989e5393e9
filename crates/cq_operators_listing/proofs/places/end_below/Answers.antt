use Rattle.std.proofs.Common.{◌-◌, length}
use Rattle.std.specs.Prelude.{◌<◌, nat_lt, slice_index_or}
use Rattle.std.specs.List.{All}
use Rattle.std.proofs.lemmas.Bool.{OnTrue_from, ltb-true}
use Rattle.cq_operators_listing.proofs.Truths.{below_end}
use Rattle.cq_operators_listing.proofs.places.end_below.Goals as goal

-- the last place is below it, and so are those before it
pub returns-else-is_empty : goal.returns-else-is_empty
returns-else-is_empty c =
    let places = c.args.places.now in
    let len = c.args.len in
    let last = slice_index_or places (length places - 1) 0 in
    OnTrue_from (nat_lt last len) (All (λ place. place < len) places) (λ h. below_end places len c.requires.0 (ltb-true last len h))
