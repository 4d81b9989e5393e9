use Rattle.std.proofs.lemmas.Result.{IfErr-weaker, IfOk-weaker, on_ok_weaker}
use Rattle.cq_views_state.proofs.Showings.{on-stored, view-in_range, view-out_of_range, view-shown}
use Rattle.cq_views_state.proofs.state.ViewState.rows.Goals as goal

pub shown_rows-requires-clause-on : goal.shown_rows-requires-clause-on
shown_rows-requires-clause-on c = on-stored c.args.self.now c.requires

pub returns-clause-bag : goal.returns-clause-bag
returns-clause-bag c = IfOk-weaker c.shown_rows.result _ _ (λ rows shows. view-shown c.args.self.now c.requires rows shows) c.shown_rows.ensures.rows

pub returns-clause-range : goal.returns-clause-range
returns-clause-range c = on_ok_weaker c.shown_rows.result (view-in_range c.args.self.now c.requires) c.shown_rows.ensures.range

pub returns-clause-fault : goal.returns-clause-fault
returns-clause-fault c =
    IfErr-weaker c.shown_rows.result _ _ (λ e shows is. view-out_of_range c.args.self.now c.requires (shows is)) c.shown_rows.ensures.fault
