-- A view that stands for the bags of the tables that FROM names stands for them however they are listed.
use Rattle.std.proofs.Common.{List, [], ◌∷◌, map, sym, subst}
use Rattle.cq_model_bags.proofs.Bags.{filtered-respects}
use Rattle.cq_model_bags.proofs.Joins.{joined-respects}
use Rattle.cq_model_bags.specs.Bag.{Weighted, SameBag}
use Rattle.cq_model_laws.proofs.Chains.{SameSources}
use Rattle.cq_model_laws.proofs.Keeps.{last-respects}
use Rattle.cq_model_laws.proofs.Meanings.{joined_rows-same}
use Rattle.cq_model.specs.Meaning.{Tables, joined_rows, keeps, meets}
use Rattle.cq_model.specs.declared.query.Source.{Source}
use Rattle.cq_deltas_joins.proofs.Changing.{stands-by_bags}
use Rattle.cq_deltas_joins.specs.Chains.{AllStand}
use Rattle.cq_deltas_joins.specs.Steps.{hands_on, let_in}
use Rattle.cq_deltas_joins.specs.declared.step.Step.{Step}
use Rattle.cq_views_state.proofs.Joining.{chain-sources}
use Rattle.cq_views_state.specs.Last.{seen}
use Rattle.cq_views_state.specs.Laws.{StandingDependsOnSources}
use Rattle.cq_views_model.specs.Query.{aggregates_of}

-- steps that stand for rows and tables stand for the same bags of their sources
all-by_bags : (tables others : Tables) (xs us : Weighted) → SameBag xs us → (steps : List Step)
    → SameSources tables others (map (λ (s : Step). s.source) steps) → AllStand tables xs steps → AllStand others us steps
all-by_bags tables others xs us rows [] same stand = tt
all-by_bags tables others xs us rows (s ∷ steps) same stand =
    let on = meets s.node.on in
    let ys = let_in s (tables s.source) in
    let vs = let_in s (others s.source) in
    let right : SameBag ys vs = filtered-respects (keeps s.below) (tables s.source) (others s.source) same.0 in (
      stands-by_bags s.node xs us ys vs rows right stand.0,
      all-by_bags tables others (hands_on s xs (tables s.source)) (hands_on s us (others s.source))
          (joined-respects on xs us ys vs rows right) steps same.1 stand.1,
    )

pub standing-by_sources : StandingDependsOnSources
standing-by_sources v tables others same stands =
    let is = stands.is_of in
    let first : SameBag (tables v.chain.first) (others v.chain.first) =
    subst (λ (s : Source). SameBag (tables s) (others s)) (sym is.first) same.0 in
    let joins : SameSources tables others (map (λ (s : Step). s.source) v.chain.steps.items) =
    subst (λ (sources : List Source). SameSources tables others sources) (sym (chain-sources v.query v.widths v.chain is)) same.1 in
    record {
      is_of = is;
      sides =
          all-by_bags tables others _ _ (filtered-respects (keeps v.chain.condition) (tables v.chain.first) (others v.chain.first) first)
          v.chain.steps.items joins stands.sides;
      last =
          last-respects v.query v.query.shape (joined_rows v.query tables) (joined_rows v.query others) (joined_rows-same v.query tables others same)
          (seen (aggregates_of v.query) v.last) stands.last;
    }
