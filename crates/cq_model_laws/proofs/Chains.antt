-- The laws of a chain of joins.
use Rattle.std.proofs.Common.{List, [], ◌∷◌, ◌++◌, map}
use Rattle.std.specs.List.{AllByRecursion}
use Rattle.cq_model.specs.declared.query.Join.{Join}
use Rattle.cq_model.specs.declared.query.Source.{Source}
use Rattle.cq_model_bags.specs.Bag.{Weighted, SameBag, joined}
use Rattle.cq_model.specs.Meaning.{Tables, meets, chain}
use Rattle.cq_views_model.specs.Delta.{SameTables, chain_change, changed}
use Rattle.cq_model_bags.specs.Join.{join_change}
use Rattle.cq_model_bags.proofs.Bags.{same-refl, same-trans}
use Rattle.cq_model_bags.proofs.Joins.{joined-respects, join-law}

-- these sources have one bag in both
abbrev pub SameSources : Tables → Tables → List Source → Type 0
SameSources tables others sources = AllByRecursion (λ s. SameBag (tables s) (others s)) sources

-- so they have where each source has
pub all-same : (tables others : Tables) → SameTables tables others → (sources : List Source) → SameSources tables others sources
all-same tables others t [] = tt
all-same tables others t (s ∷ sources) = (t.at s, all-same tables others t sources)

-- a chain depends on the bags of the sources that it joins alone
pub chain-same : (tables others : Tables) (xs xs' : Weighted) → SameBag xs xs' → (js : List Join) → SameSources tables others (map (λ (j : Join). j.source) js)
    → SameBag (chain tables xs js) (chain others xs' js)
chain-same tables others xs xs' s [] h = s
chain-same tables others xs xs' s (j ∷ js) h =
    chain-same tables others (joined (meets j.on) xs (tables j.source)) (joined (meets j.on) xs' (others j.source))
    (joined-respects (meets j.on) xs xs' (tables j.source) (others j.source) s h.0) js h.1

-- and so where each source has one bag in both
pub chain-respects : (tables others : Tables) → SameTables tables others → (xs xs' : Weighted) → SameBag xs xs' → (js : List Join) → SameBag (chain tables xs js) (chain others xs' js)
chain-respects tables others t xs xs' s js = chain-same tables others xs xs' s js (all-same tables others t (map (λ (j : Join). j.source) js))

-- the chain over changed tables is the old one with its change
pub chain-law : (tables changes : Tables) (xs dxs : Weighted) (js : List Join) → SameBag (chain (changed tables changes) (xs ++ dxs) js) (chain tables xs js ++ chain_change tables changes xs dxs js)
chain-law tables changes xs dxs [] = same-refl (xs ++ dxs)
chain-law tables changes xs dxs (j ∷ js) =
    let on = meets j.on in
    let s = tables j.source in
    let ds = changes j.source in
    same-trans (chain (changed tables changes) (joined on (xs ++ dxs) (s ++ ds)) js) (chain (changed tables changes) (joined on xs s ++ join_change on xs dxs s ds) js) (chain tables (joined on xs s) js ++ chain_change tables changes (joined on xs s) (join_change on xs dxs s ds) js)
    (chain-respects (changed tables changes) (changed tables changes) (record { at = λ t. same-refl (changed tables changes t) })
    (joined on (xs ++ dxs) (s ++ ds)) (joined on xs s ++ join_change on xs dxs s ds) (join-law on xs dxs s ds) js)
    (chain-law tables changes (joined on xs s) (join_change on xs dxs s ds) js)
