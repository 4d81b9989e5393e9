-- A query's bag depends on its sources' bags alone, and changes as its chain does.
use Rattle.std.proofs.Common.{◌++◌, ◌∙◌, ap}
use Rattle.cq_model.specs.declared.query.Shape.{Shape}
use Rattle.cq_model.specs.declared.query.Shape.TheVariants.{Plain, Grouped}
use Rattle.cq_model.specs.declared.query.Query.{Query}
use Rattle.cq_model_bags.specs.Bag.{Weighted, weight_of, SameBag}
use Rattle.cq_model.specs.Group.{grouped}
use Rattle.cq_model.specs.Meaning.{Tables, chain, keeps, joined_rows, items_of, shaped, shown, meaning}
use Rattle.cq_views_model.specs.Delta.{SameTables, chain_change, changed, joined_change}
use Rattle.cq_model_bags.proofs.Totals.{by_test}
use Rattle.cq_model_bags.proofs.Bags.{filtered-respects, projected-respects}
use Rattle.cq_model_bags.proofs.Linears.{filtered-append}
use Rattle.cq_model.specs.Views.{sources_of}
use Rattle.cq_model_laws.proofs.Chains.{SameSources, all-same, chain-same, chain-law}
use Rattle.cq_model_bags.proofs.Distincts.{distinct-respects}
use Rattle.cq_model_laws.proofs.Groups.{grouped-respects}

-- the joined rows depend on the bags of the sources that FROM names alone
pub joined_rows-same : (q : Query) (tables others : Tables) → SameSources tables others (sources_of q) → SameBag (joined_rows q tables) (joined_rows q others)
joined_rows-same q tables others h =
    filtered-respects (keeps q.filter) (chain tables (tables q.first) q.joins) (chain others (others q.first) q.joins)
    (chain-same tables others (tables q.first) (others q.first) h.0 q.joins h.1)

pub joined_rows-respects : (q : Query) (tables others : Tables) → SameTables tables others → SameBag (joined_rows q tables) (joined_rows q others)
joined_rows-respects q tables others t = joined_rows-same q tables others (all-same tables others t (sources_of q))

-- groups depend on the bag of the rows alone
shaped-respects : (s : Shape) (xs ys : Weighted) → SameBag xs ys → SameBag (shaped s xs) (shaped s ys)
shaped-respects Plain xs ys h = h
shaped-respects (Grouped keys aggregates having) xs ys h =
    filtered-respects (keeps having) (grouped keys aggregates xs) (grouped keys aggregates ys)
    (grouped-respects keys aggregates xs ys h)

-- and so do the rows that are shown
pub shown-respects : (q : Query) (xs ys : Weighted) → SameBag xs ys → SameBag (shown q xs) (shown q ys)
shown-respects q xs ys h = projected-respects (items_of q.items) (shaped q.shape xs) (shaped q.shape ys) (shaped-respects q.shape xs ys h)

-- a query's bag depends on the bags of the sources that FROM names alone
pub meaning-same : (q : Query) (tables others : Tables) → SameSources tables others (sources_of q) → SameBag (meaning q tables) (meaning q others)
meaning-same q tables others t =
    let h = shown-respects q (joined_rows q tables) (joined_rows q others) (joined_rows-same q tables others t) in
    by_test q.distinct
    (λ d. rw d (distinct-respects (shown q (joined_rows q tables)) (shown q (joined_rows q others)) h))
    (λ d. rw d h)

pub meaning-respects : (q : Query) (tables others : Tables) → SameTables tables others → SameBag (meaning q tables) (meaning q others)
meaning-respects q tables others t = meaning-same q tables others (all-same tables others t (sources_of q))

-- the joined rows change by what WHERE keeps of the change
pub joined_rows-changed : (q : Query) (tables changes : Tables) → SameBag (joined_rows q (changed tables changes)) (joined_rows q tables ++ joined_change q tables changes)
joined_rows-changed q tables changes =
    let old = chain tables (tables q.first) q.joins in
    let more = chain_change tables changes (tables q.first) (changes q.first) q.joins in
    let h = filtered-respects (keeps q.filter) (chain (changed tables changes) (changed tables changes q.first) q.joins) (old ++ more)
    (chain-law tables changes (tables q.first) (changes q.first) q.joins) in
    record { at = λ r. h.at r ∙ ap (λ xs. weight_of xs r) (filtered-append (keeps q.filter) old more) }
