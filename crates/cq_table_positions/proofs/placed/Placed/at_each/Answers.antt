use Rattle.std.proofs.Common.{◌∙◌, ap, sym, subst, length, List, ℕ}
use Rattle.cq_values.specs.Value.{Row}
use Rattle.cq_segments_pieces.specs.Marked.{rows_of}
use Rattle.cq_encodings_vectors.specs.Places.{AreBelow, places_at, rows_at}
use Rattle.cq_table_columns.proofs.AtPlaces.{below-at, rows-at}
use Rattle.cq_table_positions.proofs.AllPlaces.{places-below}
use Rattle.cq_table_positions.proofs.placed.Placed.at_each.Goals as goal

pub of-requires : goal.of-requires
of-requires c =
    let rows = rows_of c.self.inside.segment.now in
    let all = c.self.inside.places.items in
    let made = c.in_ok-places.ensures ∙ ap (λ (ps : List ℕ). places_at ps c.args.places.now) c.deref.ensures.value in
    let there = places-below rows all c.args.places.now (rw (← c.self.view_is) at c.requires) in
    subst (AreBelow (length c.self.inside.segment.now)) (sym made) (below-at (length c.self.inside.segment.now) all c.args.places.now c.self.invariant there)

pub returns : goal.returns
returns c =
    let rows = rows_of c.self.inside.segment.now in
    let all = c.self.inside.places.items in
    let made = c.in_ok-places.ensures ∙ ap (λ (ps : List ℕ). places_at ps c.args.places.now) c.deref.ensures.value in
    let there = places-below rows all c.args.places.now (rw (← c.self.view_is) at c.requires) in
    c.of.ensures ∙ ap (rows_at rows) made ∙ rows-at rows all c.args.places.now there ∙ ap (λ (rs : List Row). rows_at rs c.args.places.now) c.self.view_is
