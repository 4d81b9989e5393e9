-- How the logic stores expressions and conditions over places: by their nodes.
use Rattle.std.specs.Prelude.{◌≡◌, refl, List, [], ◌∷◌}
use Rattle.std.proofs.Common.{ap}
use Rattle.std.specs.Coded.{Coded, code_by, coded_list}
use Rattle.cq_model.specs.Expr.{Expr, Cond}
use Rattle.cq_model.specs.Expr as tree
use Rattle.cq_model.specs.ExprNodes.{Node, nodes, choice_nodes, cond_nodes, with_expr, with_list, with_cond, expr, cond, made_by}

-- the nodes of an expression make it
pub made_by-nodes : (e : Expr) (rest : List Node) → made_by (nodes e rest) ≡ with_expr e (made_by rest)
made_by-nodes (tree.Column i) rest = refl
made_by-nodes (tree.Literal v) rest = refl
made_by-nodes (tree.Negate e) rest = rw (made_by-nodes e rest) refl
made_by-nodes (tree.Plus a b) rest = rw (made_by-nodes a (nodes b rest), made_by-nodes b rest) refl
made_by-nodes (tree.Times a b) rest = rw (made_by-nodes a (nodes b rest), made_by-nodes b rest) refl
made_by-nodes (tree.Extract part e) rest = rw (made_by-nodes e rest) refl

-- those of a list behind IN make that list
made_by-choice_nodes : (es : List Expr) (rest : List Node) → made_by (choice_nodes es rest) ≡ with_list es (made_by rest)
made_by-choice_nodes [] rest = refl
made_by-choice_nodes (e ∷ es) rest = rw (made_by-nodes e (choice_nodes es rest), made_by-choice_nodes es rest) refl

-- and those of a condition make it
pub made_by-cond_nodes : (c : Cond) (rest : List Node) → made_by (cond_nodes c rest) ≡ with_cond c (made_by rest)
made_by-cond_nodes (tree.Compare c a b) rest = rw (made_by-nodes a (nodes b rest), made_by-nodes b rest) refl
made_by-cond_nodes (tree.IsNull e) rest = rw (made_by-nodes e rest) refl
made_by-cond_nodes (tree.Between e a b) rest = rw (made_by-nodes e (nodes a (nodes b rest)), made_by-nodes a (nodes b rest), made_by-nodes b rest) refl
made_by-cond_nodes (tree.In e es) rest = rw (made_by-nodes e (choice_nodes es rest), made_by-choice_nodes es rest) refl
made_by-cond_nodes (tree.Like e pattern) rest = rw (made_by-nodes e rest) refl
made_by-cond_nodes (tree.Not c) rest = rw (made_by-cond_nodes c rest) refl
made_by-cond_nodes (tree.And a b) rest = rw (made_by-cond_nodes a (cond_nodes b rest), made_by-cond_nodes b rest) refl
made_by-cond_nodes (tree.Or a b) rest = rw (made_by-cond_nodes a (cond_nodes b rest), made_by-cond_nodes b rest) refl

-- an expression is stored as the list of its nodes
abbrev pub expr_code : Coded Node → Coded Expr
expr_code node = code_by (List Node) (coded_list node) (λ e. nodes e []) (λ ns. expr (made_by ns)) (λ e. ap expr (made_by-nodes e []))

-- and so is a condition
abbrev pub cond_code : Coded Node → Coded Cond
cond_code node = code_by (List Node) (coded_list node) (λ c. cond_nodes c []) (λ ns. cond (made_by ns)) (λ c. ap cond (made_by-cond_nodes c []))
