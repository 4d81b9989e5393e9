use Rattle.std.proofs.Common.{◌∙◌, rules, tests}
use Rattle.cq_model_terms.proofs.Trees.{worked-chain}
use Rattle.cq_model_terms.proofs.exact.+only_reads.Goals as goal

pub returns-else-is_empty : goal.returns-else-is_empty
returns-else-is_empty t c = c.if-is_empty.false ∙ worked-chain c.args.tree.now c.in-Sum.first c.in-Sum.rest c.in-Sum.is (search (rules, tests))
