use Rattle.std.proofs.lemmas.Result.{IfErr-weaker, IfOk-weaker, on_ok_weaker}
use Rattle.cq_views.proofs.Showing.{all-shown, can-show, in-range, out-of-range, same-sizes}
use Rattle.cq_views.proofs.kept_view.KeptView.rows.Goals as goal

pub rows-requires : goal.rows-requires
rows-requires c = can-show c.args.self.now c.requires

pub returns-clause-bag : goal.returns-clause-bag
returns-clause-bag c = IfOk-weaker c.rows.result _ _ (λ rows are. all-shown c.args.self.now rows are) c.rows.ensures.bag

pub returns-clause-sized : goal.returns-clause-sized
returns-clause-sized c = rw (same-sizes c.args.self.now c.requires) at c.rows.ensures.sized

pub returns-clause-range : goal.returns-clause-range
returns-clause-range c = on_ok_weaker c.rows.result (in-range c.args.self.now) c.rows.ensures.range

pub returns-clause-fault : goal.returns-clause-fault
returns-clause-fault c = IfErr-weaker c.rows.result _ _ (λ e shows is. out-of-range c.args.self.now (shows is)) c.rows.ensures.fault
