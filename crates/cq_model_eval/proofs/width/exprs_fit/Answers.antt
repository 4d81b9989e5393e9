use Rattle.std.proofs.Common.{◌^◌, ◌∙◌, nat_lt, rules, tests, sym}
use Rattle.std.proofs.lemmas.Iterator.{YieldsList-from_slice}
use Rattle.std.proofs.lemmas.Iterator.Search.{all_from_yields_List}
use Rattle.cq_model.specs.Trees.{expr_of}
use Rattle.cq_model.specs.Width.{limits_of, widest}
use Rattle.cq_model_eval.proofs.Widths.{fits_all}
use Rattle.cq_model_eval.proofs.width.exprs_fit.Goals as goal

pub returns : goal.returns
returns c =
    let size = widest (limits_of c.args.sizes.now) in
    all_from_yields_List (λ t. nat_lt (size (expr_of t)) (2 ^ 127)) _ _ c.all.result c.all.ensures.ran (YieldsList-from_slice c.args.trees.now cc) (λ x b q k. search (rules, tests)) ∙ sym (fits_all expr_of size c.args.trees.now)
