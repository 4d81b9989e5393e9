use Rattle.std.proofs.Common.{ℕ, List, subst}
use Rattle.cq_views_state.proofs.Starting.{starts}
use Rattle.cq_views_state.specs.Joins.{IsChainOf}
use Rattle.cq_views_state.specs.declared.state.ViewState.{ViewState}
use Rattle.cq_views_state.proofs.state.ViewState.empty.Goals as goal

pub returns-in-Ok-clause-stands : goal.returns-in-Ok-clause-stands
returns-in-Ok-clause-stands c =
    let view : ViewState = record { query = c.args.query; widths = c.args.widths; epoch = c.args.epoch; built = c.args.epoch; chain = c.in-Ok.chain; last = c.empty-last.result; ticks = 0 } in
    starts view (subst (λ (widths : List ℕ). IsChainOf c.args.query widths c.in-Ok.chain) c.as_slice.ensures c.in-Ok.ensures.of) c.in-Ok.ensures.stands c.empty-last.ensures
