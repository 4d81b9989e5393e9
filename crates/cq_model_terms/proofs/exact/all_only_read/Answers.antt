use Rattle.std.proofs.Common.{◌∙◌, rules, tests, sym}
use Rattle.std.proofs.lemmas.Iterator.{YieldsList-from_slice}
use Rattle.std.proofs.lemmas.Iterator.Search.{all_from_yields_List}
use Rattle.cq_model.specs.Trees.{expr_of}
use Rattle.cq_model_terms.specs.Reads.{only_reads}
use Rattle.cq_model_terms.proofs.Trees.{all-map}
use Rattle.cq_model_terms.proofs.exact.all_only_read.Goals as goal

pub returns : goal.returns
returns c =
    all_from_yields_List (λ t. only_reads (expr_of t)) _ _ c.all.result c.all.ensures.ran (YieldsList-from_slice c.args.trees.now cc) (λ x b q k. search (rules, tests))
    ∙ sym (all-map expr_of only_reads c.args.trees.now)
