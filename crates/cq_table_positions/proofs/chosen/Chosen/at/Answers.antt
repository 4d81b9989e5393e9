use Rattle.std.proofs.Common.{◌∙◌, ap, sym, subst, length, List, ℕ}
use Rattle.cq_values.specs.Value.{Row}
use Rattle.cq_encodings_vectors.specs.Places.{AreBelow, places_at, rows_at}
use Rattle.cq_table_columns.specs.Stored.{front_rows}
use Rattle.cq_table_columns.proofs.AtPlaces.{below-at, rows-at}
use Rattle.cq_table_positions.proofs.AllPlaces.{places-below}
use Rattle.cq_table_positions.proofs.chosen.Chosen.at.Goals as goal

pub new-requires : goal.new-requires
new-requires c =
    let rows = front_rows c.self.inside.front in
    let all = c.self.inside.places.items in
    let made = c.in_ok-places.ensures 0 ∙ ap (λ (ps : List ℕ). places_at ps c.args.places.now) c.deref.ensures.value in
    let there = places-below rows all c.args.places.now (rw (← c.self.view_is) at c.requires) in
    subst (AreBelow (length rows)) (sym made) (below-at (length rows) all c.args.places.now c.self.invariant there)

pub returns : goal.returns
returns c =
    let rows = front_rows c.self.inside.front in
    let all = c.self.inside.places.items in
    let made = c.in_ok-places.ensures 0 ∙ ap (λ (ps : List ℕ). places_at ps c.args.places.now) c.deref.ensures.value in
    let there = places-below rows all c.args.places.now (rw (← c.self.view_is) at c.requires) in
    c.new.ensures ∙ ap (rows_at rows) made ∙ rows-at rows all c.args.places.now there ∙ ap (λ (rs : List Row). rows_at rs c.args.places.now) c.self.view_is
