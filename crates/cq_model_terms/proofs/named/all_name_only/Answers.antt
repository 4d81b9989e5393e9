use Rattle.std.proofs.Common.{◌∙◌, rules, tests, sym}
use Rattle.std.proofs.lemmas.Iterator.{YieldsList-from_slice}
use Rattle.std.proofs.lemmas.Iterator.Search.{all_from_yields_List}
use Rattle.cq_model.specs.Own.{names_only}
use Rattle.cq_model.specs.Trees.{expr_of}
use Rattle.cq_model_terms.proofs.Trees.{all-map}
use Rattle.cq_model_terms.proofs.named.all_name_only.Goals as goal

pub returns : goal.returns
returns c =
    all_from_yields_List (λ t. names_only c.args.before c.args.wide (expr_of t)) _ _ c.all.result c.all.ensures.ran (YieldsList-from_slice c.args.trees.now cc) (λ x b q k. search (rules, tests))
    ∙ sym (all-map expr_of (names_only c.args.before c.args.wide) c.args.trees.now)
