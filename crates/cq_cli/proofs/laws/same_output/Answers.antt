use Rattle.cq_model_step.proofs.Decided.{refusals_decide}
use Rattle.cq_cli.proofs.laws.same_output.Goals as goal

pub returns : goal.returns
returns c = refusals_decide c.one_listing.ensures c.one_cut.ensures c.one_tree.ensures c.one_split.ensures
