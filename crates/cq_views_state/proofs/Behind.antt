-- What stands behind the joins goes on with each change of the joined rows.
use Rattle.std.proofs.Common.{◌≡◌, ◌∙◌, ℕ, List, [], ◌++◌, Option, unwrap_or, sym, ap, subst, arith}
use Rattle.std.proofs.lemmas.Int.{ints}
use Rattle.cq_values.specs.Value.{Row}
use Rattle.cq_model_bags.proofs.Bags.{projected-respects}
use Rattle.cq_model_bags.proofs.Linears.{projected-append}
use Rattle.cq_model_bags.proofs.Totals.{weight_of-append}
use Rattle.cq_model_bags.specs.Bag.{Weighted, SameBag, IsBag, projected}
use Rattle.cq_views_model.specs.Kept.{Group, Groups, Images, Last, LastStands, group_of}
use Rattle.cq_model_laws.proofs.Keeps.{built_last-stands}
use Rattle.cq_model.specs.Expr.{Cond}
use Rattle.cq_model.specs.Meaning.{items_of}
use Rattle.cq_model.specs.declared.query.Aggregate.{Aggregate}
use Rattle.cq_model.specs.declared.query.Query.{Query}
use Rattle.cq_model.specs.declared.query.Shape.{Shape}
use Rattle.cq_model.specs.declared.query.Shape.TheVariants.{Plain, Grouped}
use Rattle.cq_sides_weights.specs.Held.{Held}
use Rattle.cq_deltas.specs.Additions.{Addition, additions}
use Rattle.cq_deltas.specs.Keyed.{GroupsGoOn, KeyedGroups, additions_at, group_at, stored_at}
use Rattle.cq_deltas.specs.Placed.{Placed}
use Rattle.cq_views_state.specs.Last.{GoesOn, StandsBehind, seen}
use Rattle.cq_views_model.specs.Query.{aggregates_in, aggregates_of, keys_in}
use Rattle.cq_views_state.specs.declared.last.Last.{Last as Stored}
use Rattle.cq_views_state.specs.declared.last.Last.TheVariants as stored
use Rattle.cq_views_state.specs.declared.last.LastChange.{LastChange}
use Rattle.cq_views_state.specs.declared.last.LastChange.TheVariants as change

-- ---- no rows
-- no groups stand for no rows
pub groups-start : (query : Query) (groups : KeyedGroups) (keys : Option (List ℕ)) (aggregates : List Aggregate) (having : Option Cond)
    → query.shape ≡ Grouped keys aggregates having → groups ≡ [] → StandsBehind query [] (stored.Groups groups)
groups-start query groups keys aggregates having is none =
    subst (λ (gs : KeyedGroups). StandsBehind query [] (stored.Groups gs)) (sym none)
    (subst (λ (s : Shape). LastStands query s [] (Groups (group_at (aggregates_in s) []))) (sym is) (built_last-stands query (Grouped keys aggregates having) []))

-- ---- changes
groups-by_shape : (query : Query) (shape : Shape) (old new : KeyedGroups) (more : List Addition) (xs dxs ys : Weighted) → GroupsGoOn old more new
    → more ≡ additions (keys_in shape) (aggregates_in shape) dxs → SameBag ys (xs ++ dxs) → IsBag ys
    → LastStands query shape xs (Groups (group_at (aggregates_in shape) old)) → LastStands query shape ys (Groups (group_at (aggregates_in shape) new))
groups-by_shape query Plain old new more xs dxs ys on is same bag stands = absurd stands
groups-by_shape query (Grouped keys aggregates having) old new more xs dxs ys on is same bag stands = on query keys aggregates having xs dxs ys is same bag stands

pub groups-go_on : (old new : KeyedGroups) (more : List Placed) → GroupsGoOn old (additions_at old more) new → GoesOn (stored.Groups old) (change.Groups more) (stored.Groups new)
groups-go_on old new more on query xs dxs ys is same bag stands = groups-by_shape query query.shape old new (additions_at old more) xs dxs ys on is same bag stands

images-by_shape : (query : Query) (shape : Shape) (old more new : Weighted) (xs dxs ys : Weighted) → SameBag new (old ++ more)
    → SameBag more (projected (items_of query.items) dxs) → SameBag ys (xs ++ dxs)
    → LastStands query shape xs (Images old) → LastStands query shape ys (Images new)
images-by_shape query (Grouped keys aggregates having) old more new xs dxs ys put is same stands = absurd stands
images-by_shape query Plain old more new xs dxs ys put is same stands =
    let f = items_of query.items in
    let whole = projected-respects f ys (xs ++ dxs) same in
    let both : projected f (xs ++ dxs) ≡ projected f xs ++ projected f dxs = projected-append f xs dxs in
    let sum : SameBag (projected f ys) (projected f xs ++ projected f dxs) = subst (λ (zs : Weighted). SameBag (projected f ys) zs) both whole in
    record {
      at = λ r.
          let a = put.at r ∙ weight_of-append old more r in
          let b = sum.at r ∙ weight_of-append (projected f xs) (projected f dxs) r in
          omega (arith, ints, a, b, is.at r, stands.at r);
    }

pub images-go_on : (old more new : Held) → SameBag new.entries (old.entries ++ more.entries) → GoesOn (stored.Images old) (change.Images more) (stored.Images new)
images-go_on old more new put query xs dxs ys is same bag stands =
    images-by_shape query query.shape old.entries more.entries new.entries xs dxs ys put is same stands

-- what is seen alike stands for the same rows
pub seen-stands : (query : Query) (old new : Stored) → seen (aggregates_of query) new ≡ seen (aggregates_of query) old → (xs : Weighted)
    → StandsBehind query xs old → StandsBehind query xs new
seen-stands query old new same xs stands = subst (λ (last : Last). LastStands query query.shape xs last) (sym same) stands

-- groups that are the same by key are seen alike
pub groups-alike : (aggregates : List Aggregate) (old new : KeyedGroups) → ((k : Row) → group_at aggregates new k ≡ group_at aggregates old k)
    → seen aggregates (stored.Groups new) ≡ seen aggregates (stored.Groups old)
groups-alike aggregates old new same = λ i. Groups (λ k. same k i)

-- so are those of which the same is stored by key
pub stored-alike : (aggregates : List Aggregate) (old new : KeyedGroups) → ((k : Row) → stored_at new k ≡ stored_at old k)
    → seen aggregates (stored.Groups new) ≡ seen aggregates (stored.Groups old)
stored-alike aggregates old new same =
    groups-alike aggregates old new (λ k. ap (λ (o : Option Group). unwrap_or o (group_of aggregates [])) (same k))

-- so it does where the old one and the change are named otherwise
pub taken-as : (old old' : Stored) (more more' : LastChange) (new : Stored) → old' ≡ old → more' ≡ more → GoesOn old more new → GoesOn old' more' new
taken-as old old' more more' new a b on =
    subst (λ (l : Stored). GoesOn l more' new) (sym a) (subst (λ (m : LastChange). GoesOn old m new) (sym b) on)
