-- The work of the joins of a query depends on the bags of the tables that its FROM names alone.
use Rattle.std.proofs.Common.{◌≡◌, ◌+◌, List, [], ◌∷◌, map}
use Rattle.cq_model_bags.proofs.Joins.{joined-respects}
use Rattle.cq_model_bags.proofs.Sizes.{size-respects}
use Rattle.cq_model_bags.specs.Bag.{Weighted, SameBag, joined}
use Rattle.cq_model_bags.specs.Join.{join_change}
use Rattle.cq_model.specs.Meaning.{Tables, meets}
use Rattle.cq_model.specs.Views.{sources_of}
use Rattle.cq_model.specs.declared.query.Join.{Join}
use Rattle.cq_model.specs.declared.query.Query.{Query}
use Rattle.cq_model_laws.proofs.Chains.{SameSources}
use Rattle.cq_model_laws.proofs.Works.{join_change-respects, join_work-respects}
use Rattle.cq_views_model.specs.Delta.{chain_work, joins_work}
use Rattle.cq_views.specs.Laws.{WorkDependsOnSources}

module _ (tables others changes more : Tables) where
  -- these sources have one bag in both, and so have their changes
  abbrev AreSame : List Join → Type 0
  AreSame js = SameSources tables others (map (λ (j : Join). j.source) js) × SameSources changes more (map (λ (j : Join). j.source) js)

  -- the work of a chain's joins depends on the bags of the sources that it joins alone
  chain_work-same : (xs xs' dxs dxs' : Weighted) → SameBag xs xs' → SameBag dxs dxs' → (js : List Join) → AreSame js → chain_work tables changes xs dxs js ≡ chain_work others more xs' dxs' js
  chain_work-same xs xs' dxs dxs' s d [] are = size-respects dxs dxs' d
  chain_work-same xs xs' dxs dxs' s d (j ∷ js) are =
      let on = meets j.on in
      let ys = tables j.source in
      let ys' = others j.source in
      let dys = changes j.source in
      let dys' = more j.source in
      let here = join_work-respects on xs xs' dxs dxs' ys ys' dys dys' s d are.0.0 are.1.0 in
      let later = chain_work-same (joined on xs ys) (joined on xs' ys') (join_change on xs dxs ys dys) (join_change on xs' dxs' ys' dys')
      (joined-respects on xs xs' ys ys' s are.0.0)
      (join_change-respects on xs xs' dxs dxs' ys ys' dys dys' s d are.0.0 are.1.0) js (are.0.1, are.1.1) in
      λ i. here i + later i

  -- the work of all joins of a query
  pub joins_work-same : (q : Query) → SameSources tables others (sources_of q) → SameSources changes more (sources_of q) → joins_work q tables changes ≡ joins_work q others more
  joins_work-same q t u = chain_work-same (tables q.first) (others q.first) (changes q.first) (more q.first) t.0 u.0 q.joins (t.1, u.1)

pub work-by_sources : WorkDependsOnSources
work-by_sources q tables others changes more t u = joins_work-same tables others changes more q t u
