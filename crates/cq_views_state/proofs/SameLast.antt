-- What is kept behind the joins is seen as it was where its groups or images are the same.
use Rattle.std.proofs.Common.{◌≡◌, ◌∙◌, sym, ap}
use Rattle.cq_deltas.specs.Keyed.{KeyedGroups}
use Rattle.cq_views_model.specs.Kept.{Images}
use Rattle.cq_model.specs.declared.query.Query.{Query}
use Rattle.cq_sides_weights.specs.Held.{Held}
use Rattle.cq_views_state.proofs.Behind.{groups-alike}
use Rattle.cq_views_state.specs.Last.{GroupsStay, seen}
use Rattle.cq_views_model.specs.Query.{aggregates_of}
use Rattle.cq_views_state.specs.declared.last.Last.{Last as Stored}
use Rattle.cq_views_state.specs.declared.last.Last.TheVariants as stored

-- groups that are the same by key are seen as what is kept was
pub same-groups : (query : Query) (last : Stored) (old new : KeyedGroups) → last ≡ stored.Groups old → GroupsStay query old new
    → seen (aggregates_of query) (stored.Groups new) ≡ seen (aggregates_of query) last
same-groups query last old new is same = groups-alike (aggregates_of query) old new same ∙ sym (ap (seen (aggregates_of query)) is)

-- and so are the same images
pub same-images : (query : Query) (last : Stored) (old new : Held) → last ≡ stored.Images old → new.entries ≡ old.entries
    → seen (aggregates_of query) (stored.Images new) ≡ seen (aggregates_of query) last
same-images query last old new is same = ap Images same ∙ sym (ap (seen (aggregates_of query)) is)
