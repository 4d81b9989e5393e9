use Rattle.std.proofs.Common.{ℕ, List, ◌++◌, map, ◌∙◌, ap₂}
use Rattle.std.proofs.lemmas.Result.{on_ok_weaker}
use Rattle.cq_values.specs.declared.value.Value.{Value}
use Rattle.cq_vectors.specs.Batch.{row_at, rows_of}
use Rattle.cq_operators_listing.proofs.Fronts.{suffice-all, takes_in}
use Rattle.cq_operators_listing.proofs.listing.Listing.append_shown.Goals as goal

-- the rows at the places that are shown suffice
pub returns-then-select_shown-clause-ok : goal.returns-then-select_shown-clause-ok
returns-then-select_shown-clause-ok c =
    let old = c.args.self.now in
    let new = c.append.new.self in
    let columns = c.args.batch.now.columns.items in
    let shown = c.select_shown.new.to in
    let made = ap₂ (λ (cs : List (List Value)) (places : List ℕ). old.rows ++ map (row_at cs) places) c.as_slice.ensures.value c.places.ensures.places in
    on_ok_weaker c.append.result
    (λ rows. takes_in old new new (map (row_at columns) shown) (rows_of c.args.batch.now) c.append.ensures.keys c.append.ensures.limit (rows ∙ made) c.if-select_shown.ensures (λ all can. can))
    c.append.ensures.rows

-- and so do all
pub returns-else-select_shown-clause-ok : goal.returns-else-select_shown-clause-ok
returns-else-select_shown-clause-ok c =
    let old = c.args.self.now in
    let new = c.append-else-select_shown.new.self in
    let rows = rows_of c.args.batch.now in
    let made = ap₂ (λ (cs : List (List Value)) (places : List ℕ). old.rows ++ map (row_at cs) places) c.as_slice-else-select_shown.ensures.value c.places-else-select_shown.ensures.places in
    on_ok_weaker c.append-else-select_shown.result
    (λ more. takes_in old new new rows rows c.append-else-select_shown.ensures.keys c.append-else-select_shown.ensures.limit (more ∙ made) (suffice-all old rows) (λ all can. can))
    c.append-else-select_shown.ensures.rows
