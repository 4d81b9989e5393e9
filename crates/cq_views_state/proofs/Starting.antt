-- A view of no rows stands for them.
use Rattle.std.proofs.Common.{◌≡◌, List, [], ◌∷◌, refl, sym, ap, subst}
use Rattle.cq_model_bags.specs.Bag.{Weighted, filtered}
use Rattle.cq_deltas_joins.specs.Chains.{Stands, nothing}
use Rattle.cq_model.specs.Meaning.{chain, keeps}
use Rattle.cq_model.specs.declared.query.Join.{Join}
use Rattle.cq_views_state.specs.Joins.{IsChainOf}
use Rattle.cq_views_state.specs.Last.{StandsBehind}
use Rattle.cq_views_state.specs.State.{StandsFor}
use Rattle.cq_views_state.specs.declared.state.ViewState.{ViewState}

-- a chain of no rows has none
chain-none : (js : List Join) → chain nothing [] js ≡ []
chain-none [] = refl
chain-none (j ∷ js) = chain-none js

-- a view stands for no rows where its joins do, and what stands behind them
pub starts : (v : ViewState) → IsChainOf v.query v.widths v.chain → Stands nothing v.chain → StandsBehind v.query [] v.last → StandsFor v nothing
starts v is sides last = record {
  is_of = is;
  sides = sides;
  last = subst (λ (xs : Weighted). StandsBehind v.query xs v.last) (sym (ap (filtered (keeps v.query.filter)) (chain-none v.query.joins))) last;
}
