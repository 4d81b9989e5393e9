use Rattle.std.proofs.Common.{◌∙◌, ap, refl, rules}
use Rattle.cq_model.specs.Expr.{Plus, Times}
use Rattle.cq_model.specs.Trees.{expr_of}
use Rattle.cq_model_eval.proofs.Trees.{tree-Product, tree-Sum}
use Rattle.cq_model_terms.specs.Naming.{place_by}
use Rattle.cq_model_terms.specs.Renamed.{renamed}
use Rattle.cq_model_terms.proofs.Trees.{changed-tree}
use Rattle.cq_model_terms.proofs.renamed.+exprs.Goals as goal

pub renamed_expr-returns-in_ok-first-in-Sum-2 : goal.renamed_expr-returns-in_ok-first-in-Sum-2
renamed_expr-returns-in_ok-first-in-Sum-2 t c =
    changed-tree expr_of (renamed (place_by c.args.naming)) Plus (λ a b. refl) c.in-Sum.first.value c.in_ok-first-in-Sum-2.first.value c.in-Sum.rest.items c.in_ok-first-in-Sum-2.rest.items (search rules) (search rules)
    c.args.tree.now _ (ap expr_of c.in-Sum.is ∙ tree-Sum c.in-Sum.first c.in-Sum.rest) (tree-Sum c.in_ok-first-in-Sum-2.first c.in_ok-first-in-Sum-2.rest)

pub renamed_expr-returns-in_ok-first-in-Product-2 : goal.renamed_expr-returns-in_ok-first-in-Product-2
renamed_expr-returns-in_ok-first-in-Product-2 t c =
    changed-tree expr_of (renamed (place_by c.args.naming)) Times (λ a b. refl) c.in-Product.first.value c.in_ok-first-in-Product-2.first.value c.in-Product.rest.items c.in_ok-first-in-Product-2.rest.items (search rules) (search rules)
    c.args.tree.now _ (ap expr_of c.in-Product.is ∙ tree-Product c.in-Product.first c.in-Product.rest) (tree-Product c.in_ok-first-in-Product-2.first c.in_ok-first-in-Product-2.rest)
