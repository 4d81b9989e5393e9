use Rattle.std.proofs.Common.{◌∙◌, ap, refl, rules}
use Rattle.cq_model.specs.Expr.{And, Or}
use Rattle.cq_model.specs.Trees.{cond_of}
use Rattle.cq_model_eval.proofs.Trees.{tree-And, tree-Or}
use Rattle.cq_model_terms.specs.Naming.{place_by}
use Rattle.cq_model_terms.specs.Renamed.{renamed_cond}
use Rattle.cq_model_terms.proofs.Trees.{changed-tree, in-renamed}
use Rattle.cq_model_terms.proofs.renamed.+conds.Goals as goal

pub renamed_cond-returns-in_ok-value-in-In-2 : goal.renamed_cond-returns-in_ok-value-in-In-2
renamed_cond-returns-in_ok-value-in-In-2 t c =
    in-renamed (place_by c.args.naming) c.args.tree.now c.in-In.value c.in-In.choices c.in_ok-value-in-In-2.value c.in_ok-value-in-In-2.choices (search rules) (search rules) c.in-In.is

pub renamed_cond-returns-in_ok-first-in-And-2 : goal.renamed_cond-returns-in_ok-first-in-And-2
renamed_cond-returns-in_ok-first-in-And-2 t c =
    changed-tree cond_of (renamed_cond (place_by c.args.naming)) And (λ a b. refl) c.in-And.first.value c.in_ok-first-in-And-2.first.value c.in-And.rest.items c.in_ok-first-in-And-2.rest.items (search rules) (search rules)
    c.args.tree.now _ (ap cond_of c.in-And.is ∙ tree-And c.in-And.first c.in-And.rest) (tree-And c.in_ok-first-in-And-2.first c.in_ok-first-in-And-2.rest)

pub renamed_cond-returns-in_ok-first-in-Or-2 : goal.renamed_cond-returns-in_ok-first-in-Or-2
renamed_cond-returns-in_ok-first-in-Or-2 t c =
    changed-tree cond_of (renamed_cond (place_by c.args.naming)) Or (λ a b. refl) c.in-Or.first.value c.in_ok-first-in-Or-2.first.value c.in-Or.rest.items c.in_ok-first-in-Or-2.rest.items (search rules) (search rules)
    c.args.tree.now _ (ap cond_of c.in-Or.is ∙ tree-Or c.in-Or.first c.in-Or.rest) (tree-Or c.in_ok-first-in-Or-2.first c.in_ok-first-in-Or-2.rest)
