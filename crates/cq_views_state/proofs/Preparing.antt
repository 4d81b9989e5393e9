-- A view with room made for a change: what is kept behind its joins is seen as it was, and can take the change in.
use Rattle.std.proofs.Common.{◌≡◌, ℕ, List, sym, subst}
use Rattle.cq_model_bags.specs.Bag.{Weighted}
use Rattle.cq_model_bags.specs.Size.{IsClean}
use Rattle.cq_model.specs.Meaning.{Tables, joined_rows}
use Rattle.cq_model.specs.declared.query.Shape.TheVariants.{Plain}
use Rattle.cq_sides_weights.specs.Held.{Held, StaysSmall}
use Rattle.cq_deltas_joins.specs.Chains.{IsChange, IsStill}
use Rattle.cq_deltas_joins.specs.Steps.{AreFew}
use Rattle.cq_deltas_joins.specs.declared.chain.Chain.{Chain}
use Rattle.cq_deltas.specs.Additions.{Addition, additions}
use Rattle.cq_deltas.specs.Keyed.{HoldsFor, KeyedGroups}
use Rattle.cq_views_model.specs.Query.{aggregates_of, key_columns}
use Rattle.cq_views_state.proofs.Behind.{groups-alike}
use Rattle.cq_views_state.proofs.Changing.{change-holds, images-small, plain-for}
use Rattle.cq_views_state.proofs.SameLast.{same-groups, same-images}
use Rattle.cq_views_state.proofs.Standing.{can-take_in, same-view}
use Rattle.cq_views_state.specs.Last.{AreImages, CanTakeIn, GroupsStay, StandsBehind, kept_rows}
use Rattle.cq_views_state.specs.State.{CanPrepare, SameView}
use Rattle.cq_views_state.specs.declared.last.Last.{Last as Stored}
use Rattle.cq_views_state.specs.declared.last.Last.TheVariants as stored
use Rattle.cq_views_state.specs.declared.state.ViewState.{ViewState}

-- what the chain hands on can be taken in
pub takes-given : (v : ViewState) (changes : Tables) → CanPrepare v changes → (given : Weighted) → IsChange v.chain changes given → IsClean given → AreFew given
    → (last : Stored) → v.last ≡ last → CanTakeIn v.query last given
takes-given v changes can given change clean few last is =
    subst (λ (l : Stored). CanTakeIn v.query l given) is (can-take_in v changes can given change clean few)

-- ---- groups that are the same by key
module _ (v : ViewState) (old new : KeyedGroups) (is : v.last ≡ stored.Groups old) (same : GroupsStay v.query old new) where
  pub groups-same : (c : Chain) → IsStill v.chain c → (ticks : ℕ) → SameView v (record v { chain = c; last = stored.Groups new; ticks = ticks })
  groups-same c still ticks = same-view v c (stored.Groups new) still (same-groups v.query v.last old new is same) ticks

  module _ (changes : Tables) (can : CanPrepare v changes) where
    -- they hold for what the change adds
    pub groups-hold : (given : Weighted) → IsChange v.chain changes given → IsClean given → AreFew given
        → (more : List Addition) → more ≡ additions (key_columns v.query) (aggregates_of v.query) (kept_rows v.query given) → HoldsFor more new
    groups-hold given change clean few more added =
        let take = takes-given v changes can given change clean few (stored.Groups old) is in
        subst (λ (more : List Addition). HoldsFor more new) (sym added)
        (change-holds v.query old new given can.can take (groups-alike (aggregates_of v.query) old new same))

-- ---- the same images
module _ (v : ViewState) (old new : Held) (is : v.last ≡ stored.Images old) (same : new.entries ≡ old.entries) where
  pub images-same : (c : Chain) → IsStill v.chain c → (ticks : ℕ) → SameView v (record v { chain = c; last = stored.Images new; ticks = ticks })
  images-same c still ticks = same-view v c (stored.Images new) still (same-images v.query v.last old new is same) ticks

  module _ (changes : Tables) (can : CanPrepare v changes) where
    -- no weight leaves its range while what the change adds is put in
    pub images-hold : (given : Weighted) → IsChange v.chain changes given → IsClean given → AreFew given
        → (more : Held) → IsClean more.entries → AreImages v.query (kept_rows v.query given) more → StaysSmall more.entries new.entries
    images-hold given change clean few more merged are =
        images-small v.query old given (takes-given v changes can given change clean few (stored.Images old) is) new more same merged are

-- images are of a query without groups
pub images-plain : (v : ViewState) (old : Held) → v.last ≡ stored.Images old → (changes : Tables) → CanPrepare v changes → v.query.shape ≡ Plain
images-plain v old is changes can =
    plain-for v.query v.query.shape (joined_rows v.query can.tables) old.entries
    (subst (λ (l : Stored). StandsBehind v.query (joined_rows v.query can.tables) l) is can.stands.last)
