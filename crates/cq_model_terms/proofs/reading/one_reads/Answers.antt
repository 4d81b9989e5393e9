use Rattle.std.proofs.Common.{◌∙◌, rules, tests, sym}
use Rattle.std.proofs.lemmas.Iterator.{YieldsList-from_slice}
use Rattle.std.proofs.lemmas.Iterator.Search.{any_from_yields_List}
use Rattle.cq_model.specs.Trees.{expr_of}
use Rattle.cq_model_terms.specs.Reads.{reads}
use Rattle.cq_model_terms.proofs.Trees.{any-map}
use Rattle.cq_model_terms.proofs.reading.one_reads.Goals as goal

pub returns : goal.returns
returns c =
    any_from_yields_List (λ t. reads c.args.place (expr_of t)) _ _ c.any.result c.any.ensures.ran (YieldsList-from_slice c.args.trees.now cc) (λ x b q k. search (rules, tests))
    ∙ sym (any-map expr_of (reads c.args.place) c.args.trees.now)
