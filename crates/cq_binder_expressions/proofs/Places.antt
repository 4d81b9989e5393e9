-- What a chain of nodes comes to with places for names, behind the aggregates before it.
use Rattle.std.proofs.Common.{arith, Bool, ℕ, suc, ◌≡◌, ◌⊎◌, inl, inr, ◌<◌, ◌++◌, List, [], ◌∷◌, map, length, refl, sym, ◌∙◌, ap, ap₂, subst, Box, Vec, Global}
use Rattle.std.proofs.lemmas.List.{append-nil, length-map, nil_from_length}
use Rattle.std.specs.List.{fold}
use Rattle.cq_values.specs.declared.value.Value.TheVariants as values
use Rattle.cq_sql_language.specs.declared.written.ExprNode.{ExprNode}
use Rattle.cq_sql_language.specs.declared.written.ExprNode.TheViews as nodes
use Rattle.cq_sql_language.specs.declared.written.Sign.{Sign}
use Rattle.cq_sql_language.specs.declared.written.Sign.TheVariants as signs
use Rattle.cq_sql_language.specs.Written.{Written, choices, signed, terms, written, Times, And, In, Or}
use Rattle.cq_model.specs.declared.expr.CondTree.{CondTree}
use Rattle.cq_model.specs.declared.expr.CondTree.TheFolds.{fold-roll-CondTree}
use Rattle.cq_model.specs.declared.expr.CondTree.TheOpen as cond_node
use Rattle.cq_model.specs.declared.expr.CondTree.TheVariants as conds
use Rattle.cq_model.specs.declared.expr.CondTree.TheViews as cond_view
use Rattle.cq_model.specs.declared.expr.ExprTree.{ExprTree}
use Rattle.cq_model.specs.declared.expr.ExprTree.TheViews as view
use Rattle.cq_model.specs.declared.query.Aggregate.{Aggregate}
use Rattle.cq_model.specs.Expr.{Cond, Expr}
use Rattle.cq_model.specs.Expr as placed
use Rattle.cq_model.specs.Trees.{cond_of, cond_step, expr_of}
use Rattle.cq_binder_rules.specs.Placed.{placed_cond, placed_expr, placed_exprs, turned, with_aggregates, with_choices}
use Rattle.cq_binder_rules.specs.Typing.{Scope}
use Rattle.cq_model_eval.proofs.Trees.{tree-And, tree-Or, tree-Product, tree-Sum}
use Rattle.cq_binder_expressions.specs.declared.trees.Tree.{Tree}
use Rattle.cq_binder_expressions.specs.declared.trees.Tree.TheVariants.{Condition, Value}
use Rattle.cq_binder_expressions.specs.Nodes.{AreConditions, AreTerms, AreValues, HasCondition, IsPlaced, MakesAnd, MakesChain, MakesOr, MakesProduct, MakesSum, condition_in, value_in, with_nodes}
use Rattle.cq_binder_expressions.specs.Terms.{each_placed, later_terms, with_terms}
use Rattle.cq_binder_expressions.proofs.Several.{chain_alone, several, several_terms, sum_alone, written-And, written-In, written-Or, written-Product, written-Sum}

-- a condition tree of IN
tree-In : (e : ExprTree) (es : Vec ExprTree Global) → cond_of (conds.In e es) ≡ placed.In (expr_of e) (map expr_of es.items)
tree-In e es = ap cond_of (sym (conds.rolls-In e es)) ∙ fold-roll-CondTree Cond cond_step (cond_node.In e es)

module _ (s : Scope) where
  -- the list behind IN, entry by entry
  placed_choices : (before : List Aggregate) (ws : List Written) → placed_exprs s before (choices ws) ≡ each_placed placed_expr s before ws
  placed_choices before [] = refl
  placed_choices before (w ∷ ws) = ap (λ (es : List Expr). placed_expr s before w ∷ es) (placed_choices (with_aggregates s before w) ws)

  -- and the aggregates in it
  chosen : (before : List Aggregate) (ws : List Written) → with_choices s before (choices ws) ≡ fold (with_aggregates s) before ws
  chosen before [] = refl
  chosen before (w ∷ ws) = chosen (with_aggregates s before w) ws

module _ (s : Scope) (before : List Aggregate) where
  -- the aggregates of a chain are those of its parts
  with_chain : (join : Written → Written → Written) → ((a b : Written) → with_aggregates s before (join a b) ≡ with_aggregates s (with_aggregates s before a) b) → (w : Written) (ws : List Written)
      → with_aggregates s before (fold join w ws) ≡ fold (with_aggregates s) (with_aggregates s before w) ws
  with_chain join joins w [] = refl
  with_chain join joins w (v ∷ ws) = with_chain join joins (join w v) ws ∙ ap (λ (b : List Aggregate). fold (with_aggregates s) b ws) (joins w v)

  -- the parts of a chain, each behind the aggregates of those before it
  chain : {X : Type 0} (put : Scope → List Aggregate → Written → X) (join : Written → Written → Written) (on : X → X → X)
      → ((a b : Written) → put s before (join a b) ≡ on (put s before a) (put s (with_aggregates s before a) b)) → ((a b : Written) → with_aggregates s before (join a b) ≡ with_aggregates s (with_aggregates s before a) b)
      → (w : Written) (ws : List Written) → put s before (fold join w ws) ≡ fold on (put s before w) (each_placed put s (with_aggregates s before w) ws)
  chain put join on puts joins w [] = refl
  chain {X = X} put join on puts joins w (v ∷ ws) =
      chain put join on puts joins (join w v) ws ∙ ap₂ (λ (x : X) (b : List Aggregate). fold on x (each_placed put s b ws)) (puts w v) (joins w v)

  -- the aggregates of a sum are those of its terms
  with_sum : (w : Written) (ss : List Sign) (ws : List Written) → with_aggregates s before (terms w ss ws) ≡ with_terms s (with_aggregates s before w) ss ws
  with_sum w [] ws = refl
  with_sum w (x ∷ ss) [] = refl
  with_sum w (signs.Plus ∷ ss) (v ∷ ws) = with_sum _ ss ws
  with_sum w (signs.Minus ∷ ss) (v ∷ ws) = with_sum _ ss ws

  -- a sum is the first term and the later ones
  placed-terms : (w : Written) (ss : List Sign) (ws : List Written) → placed_expr s before (terms w ss ws) ≡ fold placed.Plus (placed_expr s before w) (later_terms s (with_aggregates s before w) ss ws)
  placed-terms w [] ws = refl
  placed-terms w (x ∷ ss) [] = refl
  placed-terms w (signs.Plus ∷ ss) (v ∷ ws) = placed-terms _ ss ws
  placed-terms w (signs.Minus ∷ ss) (v ∷ ws) = placed-terms _ ss ws

  -- what is no condition
  abbrev IsTested : Written → Type 0
  IsTested w = placed_cond s before w ≡ placed.IsNull (placed_expr s before w)

  -- what is no value
  abbrev IsUnvalued : Written → Type 0
  IsUnvalued w = placed_expr s before w ≡ placed.Literal values.Null

  sign_tested : (x : Sign) (a b : Written) → IsTested (signed x a b)
  sign_tested signs.Plus a b = refl
  sign_tested signs.Minus a b = refl

  -- what is written in another way is placed as it is
  pub placed_as : (v w : Written) (tree : Tree) (after : List Aggregate) → w ≡ v → IsPlaced s before v tree after → IsPlaced s before w tree after
  placed_as v w tree after same is = subst (λ (u : Written). IsPlaced s before u tree after) (sym same) is

module _ (s : Scope) (before middle after : List Aggregate) (n : ExprNode) (first : Box ExprNode Global) (rest : Vec ExprNode Global) (tree : Tree) (is_first : IsPlaced s before (written first.value) tree middle) where
  -- the aggregates of a chain, once those of its parts are known
  chain_aggregates : (join : Written → Written → Written) → ((a b : Written) → with_aggregates s before (join a b) ≡ with_aggregates s (with_aggregates s before a) b)
      → after ≡ with_nodes s middle rest.items → after ≡ with_aggregates s before (fold join (written first.value) (map written rest.items))
  chain_aggregates join joins are =
      are ∙ ap (λ (b : List Aggregate). with_nodes s b rest.items) is_first.aggregates ∙ sym (with_chain s before join joins (written first.value) (map written rest.items))

  -- a product of what the factors come to
  pub product_placed : (head : Box ExprTree Global) (trees : Vec ExprTree Global) → n ≡ nodes.Product first rest → 0 < length rest.items → expr_of head.value ≡ value_in tree
      → AreValues s middle rest.items trees.items after → IsPlaced s before (written n) (Value (view.Product head trees)) after
  product_placed head trees is some same are =
      let value : expr_of (view.Product head trees) ≡ placed_expr s before (fold Times (written first.value) (map written rest.items)) =
      tree-Product head trees ∙ ap₂ (fold placed.Times) (same ∙ is_first.value) (are.each ∙ ap (λ (b : List Aggregate). each_placed placed_expr s b (map written rest.items)) is_first.aggregates)
      ∙ sym (chain s before placed_expr Times placed.Times (λ a b. refl) (λ a b. refl) (written first.value) (map written rest.items)) in
      placed_as s before _ (written n) _ after (ap written is ∙ written-Product first rest) (record {
        value = value;
        condition = ap placed.IsNull value ∙ sym (several Times (IsTested s before) (λ a b. refl) (written first.value) rest.items some);
        aggregates = chain_aggregates Times (λ a b. refl) are.aggregates;
      })

  -- a sum of what the terms come to
  pub sum_placed : (ss : Vec Sign Global) (head : Box ExprTree Global) (trees : Vec ExprTree Global) → n ≡ nodes.Sum first ss rest → 0 < length ss.items → 0 < length rest.items → expr_of head.value ≡ value_in tree
      → AreTerms s middle ss.items rest.items trees.items after → IsPlaced s before (written n) (Value (view.Sum head trees)) after
  sum_placed ss head trees is some more same are =
      let value : expr_of (view.Sum head trees) ≡ placed_expr s before (terms (written first.value) ss.items (map written rest.items)) =
      tree-Sum head trees ∙ ap₂ (fold placed.Plus) (same ∙ is_first.value) (are.values ∙ ap (λ (b : List Aggregate). later_terms s b ss.items (map written rest.items)) is_first.aggregates)
      ∙ sym (placed-terms s before (written first.value) ss.items (map written rest.items)) in
      placed_as s before _ (written n) _ after (ap written is ∙ written-Sum first rest ss) (record {
        value = value;
        condition = ap placed.IsNull value ∙ sym (several_terms (IsTested s before) (sign_tested s before) (written first.value) ss.items rest.items some more);
        aggregates =
            are.aggregates ∙ ap (λ (b : List Aggregate). with_terms s b ss.items (map written rest.items)) is_first.aggregates
            ∙ sym (with_sum s before (written first.value) ss.items (map written rest.items));
      })

  -- IN of what the value and the choices come to, or NOT of it
  pub in_placed : (negated : Bool) (value : ExprTree) (among : Vec ExprTree Global) (test : CondTree) → n ≡ nodes.In negated first rest → expr_of value ≡ value_in tree
      → AreValues s middle rest.items among.items after → cond_of test ≡ turned negated (cond_of (conds.In value among)) → IsPlaced s before (written n) (Condition test) after
  in_placed negated value among test is same are tests =
      placed_as s before _ (written n) _ after (ap written is ∙ written-In negated first rest) (record {
        value = refl;
        condition =
            tests ∙ ap (turned negated) (
            tree-In value among ∙ ap₂ placed.In (same ∙ is_first.value) (
            are.each ∙ ap (λ (b : List Aggregate). each_placed placed_expr s b (map written rest.items)) is_first.aggregates
            ∙ sym (placed_choices s (with_aggregates s before (written first.value)) (map written rest.items))
            )
            );
        aggregates =
            are.aggregates ∙ ap (λ (b : List Aggregate). with_nodes s b rest.items) is_first.aggregates
            ∙ sym (chosen s (with_aggregates s before (written first.value)) (map written rest.items));
      })

-- each part comes to one tree
each_length : {X : Type 0} (put : Scope → List Aggregate → Written → X) (s : Scope) (before : List Aggregate) (ws : List Written) → length (each_placed put s before ws) ≡ length ws
each_length put s before [] = refl
each_length put s before (w ∷ ws) = ap suc (each_length put s (with_aggregates s before w) ws)

as_many : {T X : Type 0} (of : T → X) (put : Scope → List Aggregate → Written → X) (s : Scope) (before : List Aggregate) (ts : List T) (ns : List ExprNode)
    → map of ts ≡ each_placed put s before (map written ns) → length ts ≡ length ns
as_many of put s before ts ns e = sym (length-map ts of) ∙ ap length e ∙ each_length put s before (map written ns) ∙ length-map ns written

-- terms that come to no tree have no sign, or are none
no_terms : (s : Scope) (before : List Aggregate) (ss : List Sign) (ns : List ExprNode) (ts : List ExprTree) → map expr_of ts ≡ later_terms s before ss (map written ns)
    → length ts ≡ 0 → (length ss ≡ 0) ⊎ (length ns ≡ 0)
no_terms s before [] ns ts e none = inl refl
no_terms s before (x ∷ ss) [] ts e none = inr refl
no_terms s before (x ∷ ss) (n ∷ ns) ts e none = absurd (let count = sym (length-map ts expr_of) ∙ ap length e in omega (arith, none, count))

-- and others have both
some_terms : (s : Scope) (before : List Aggregate) (ss : List Sign) (ns : List ExprNode) (ts : List ExprTree) → map expr_of ts ≡ later_terms s before ss (map written ns)
    → 0 < length ts → (0 < length ss) × (0 < length ns)
some_terms s before [] ns ts e some = absurd (let count = sym (length-map ts expr_of) ∙ ap length e in omega (arith, some, count))
some_terms s before (x ∷ ss) [] ts e some = absurd (let count = sym (length-map ts expr_of) ∙ ap length e in omega (arith, some, count))
some_terms s before (x ∷ ss) (n ∷ ns) ts e some = (omega arith, omega arith)

-- terms without a sign, or none, have no aggregates
no_aggregates : (s : Scope) (before : List Aggregate) (ss : List Sign) (ns : List ExprNode) → (length ss ≡ 0) ⊎ (length ns ≡ 0) → with_terms s before ss (map written ns) ≡ before
no_aggregates s before [] ns none = refl
no_aggregates s before (x ∷ ss) [] none = refl
no_aggregates s before (x ∷ ss) (n ∷ ns) (inl e) = absurd (omega (arith, e))
no_aggregates s before (x ∷ ss) (n ∷ ns) (inr e) = absurd (omega (arith, e))

module _ (s : Scope) (before middle after : List Aggregate) (n : ExprNode) (first : Box ExprNode Global) (rest : Vec ExprNode Global) (tree : Tree) (is_first : IsPlaced s before (written first.value) tree middle) where
  -- the first part alone
  first_alone : (t : Tree) → written n ≡ written first.value → after ≡ middle → t ≡ tree → IsPlaced s before (written n) t after
  first_alone t same still is =
      placed_as s before (written first.value) (written n) t after same
      (subst (λ (u : Tree). IsPlaced s before (written first.value) u after) (sym is) (subst (λ (b : List Aggregate). IsPlaced s before (written first.value) tree b) (sym still) is_first))

  -- no later part
  none_behind : length rest.items ≡ 0 → after ≡ with_nodes s middle rest.items → after ≡ middle
  none_behind none are = are ∙ ap (λ (ns : List ExprNode). with_nodes s middle ns) (nil_from_length rest.items none)

  -- a product is made of what its factors come to
  pub product_made : (trees : Vec ExprTree Global) (t : Tree) → n ≡ nodes.Product first rest → AreValues s middle rest.items trees.items after → MakesProduct tree trees t
      → IsPlaced s before (written n) t after
  product_made trees t is are (inl h) =
      let none : length rest.items ≡ 0 = sym (as_many expr_of placed_expr s middle trees.items rest.items are.each) ∙ h.0 in
      let same = ap written is ∙ written-Product first rest ∙ chain_alone Times (written first.value) rest.items none in
      first_alone t same (none_behind none are.aggregates) h.1
  product_made trees t is are (inr h) =
      let some = subst (λ (k : ℕ). 0 < k) (as_many expr_of placed_expr s middle trees.items rest.items are.each) h.0 in
      subst (λ (u : Tree). IsPlaced s before (written n) u after) (sym h.3) (product_placed s before middle after n first rest tree is_first h.1 trees is some h.2 are)

  -- a sum of what its terms come to
  pub sum_made : (ss : Vec Sign Global) (trees : Vec ExprTree Global) (t : Tree) → n ≡ nodes.Sum first ss rest → AreTerms s middle ss.items rest.items trees.items after → MakesSum tree trees t
      → IsPlaced s before (written n) t after
  sum_made ss trees t is are (inl h) =
      let none = no_terms s middle ss.items rest.items trees.items are.values h.0 in
      first_alone t (sum_alone n first ss rest none is) (are.aggregates ∙ no_aggregates s middle ss.items rest.items none) h.1
  sum_made ss trees t is are (inr h) =
      let some = some_terms s middle ss.items rest.items trees.items are.values h.0 in
      subst (λ (u : Tree). IsPlaced s before (written n) u after) (sym h.3) (sum_placed s before middle after n first rest tree is_first ss h.1 trees is some.0 some.1 h.2 are)

  -- a connective of what its parts come to, where it joins conditions and is no value
  module _ (join : Written → Written → Written) (on : Cond → Cond → Cond) (whole : Box CondTree Global → Vec CondTree Global → CondTree) (reads : written n ≡ fold join (written first.value) (map written rest.items))
      (comes_to : (head : Box CondTree Global) (trees : Vec CondTree Global) → cond_of (whole head trees) ≡ fold on (cond_of head.value) (map cond_of trees.items)) (unvalued : (a b : Written) → IsUnvalued s before (join a b))
      (puts : (a b : Written) → placed_cond s before (join a b) ≡ on (placed_cond s before a) (placed_cond s (with_aggregates s before a) b)) (joins : (a b : Written) → with_aggregates s before (join a b) ≡ with_aggregates s (with_aggregates s before a) b) where
    connective_placed : (head : Box CondTree Global) (trees : Vec CondTree Global) → 0 < length rest.items → cond_of head.value ≡ condition_in tree → AreConditions s middle rest.items trees.items after
        → IsPlaced s before (written n) (Condition (whole head trees)) after
    connective_placed head trees some same are =
        let later : map cond_of trees.items ≡ each_placed placed_cond s (with_aggregates s before (written first.value)) (map written rest.items) =
        are.each ∙ ap (λ (b : List Aggregate). each_placed placed_cond s b (map written rest.items)) is_first.aggregates in
        placed_as s before _ (written n) _ after reads (record {
          value = sym (several join (IsUnvalued s before) unvalued (written first.value) rest.items some);
          condition =
              comes_to head trees ∙ ap₂ (fold on) (same ∙ is_first.condition) later
              ∙ sym (chain s before placed_cond join on puts joins (written first.value) (map written rest.items));
          aggregates = chain_aggregates s before middle after n first rest tree is_first join joins are.aggregates;
        })

    connective_made : (trees : Vec CondTree Global) (t : Tree) → AreConditions s middle rest.items trees.items after → MakesChain (HasCondition tree) (λ head others. Condition (whole head others)) tree trees t
        → IsPlaced s before (written n) t after
    connective_made trees t are (inl h) =
        let none : length rest.items ≡ 0 = sym (as_many cond_of placed_cond s middle trees.items rest.items are.each) ∙ h.0 in
        first_alone t (reads ∙ chain_alone join (written first.value) rest.items none) (none_behind none are.aggregates) h.1
    connective_made trees t are (inr h) =
        let some = subst (λ (k : ℕ). 0 < k) (as_many cond_of placed_cond s middle trees.items rest.items are.each) h.0 in
        subst (λ (u : Tree). IsPlaced s before (written n) u after) (sym h.3) (connective_placed h.1 trees some h.2 are)

  -- AND of what its parts come to
  pub and_made : (trees : Vec CondTree Global) (t : Tree) → n ≡ nodes.And first rest → AreConditions s middle rest.items trees.items after → MakesAnd tree trees t
      → IsPlaced s before (written n) t after
  and_made trees t is = connective_made And placed.And (λ head others. cond_view.And head others) (ap written is ∙ written-And first rest) tree-And (λ a b. refl) (λ a b. refl) (λ a b. refl) trees t

  -- and OR
  pub or_made : (trees : Vec CondTree Global) (t : Tree) → n ≡ nodes.Or first rest → AreConditions s middle rest.items trees.items after → MakesOr tree trees t
      → IsPlaced s before (written n) t after
  or_made trees t is = connective_made Or placed.Or (λ head others. cond_view.Or head others) (ap written is ∙ written-Or first rest) tree-Or (λ a b. refl) (λ a b. refl) (λ a b. refl) trees t

-- the trees that are made and the nodes that are left make the whole
pub record Makes {T X : Type 0} (of : T → X) (put : Scope → List Aggregate → Written → X) (s : Scope) (start : List Aggregate) (ns : List ExprNode) (made : List T) (before : List Aggregate) (left : List ExprNode) : Type 0 where
  pub each : map of made ++ each_placed put s before (map written left) ≡ each_placed put s start (map written ns)
  pub aggregates : with_nodes s before left ≡ with_nodes s start ns

-- the terms that are made and those that are left make the whole
pub record MakesTerms (s : Scope) (start : List Aggregate) (ss : List Sign) (ns : List ExprNode) (made : List ExprTree) (before : List Aggregate) (signs_left : List Sign) (left : List ExprNode) : Type 0 where
  pub values : map expr_of made ++ later_terms s before signs_left (map written left) ≡ later_terms s start ss (map written ns)
  pub aggregates : with_terms s before signs_left (map written left) ≡ with_terms s start ss (map written ns)

module _ (s : Scope) (start : List Aggregate) (ss : List Sign) (ns : List ExprNode) (made : List ExprTree) (before : List Aggregate) (signs_left : List Sign) (left : List ExprNode) (so_far : MakesTerms s start ss ns made before signs_left left) where
  -- no sign or no term is left
  pub terms_end : (signs_left ≡ []) ⊎ (left ≡ []) → AreTerms s start ss ns made before
  terms_end ends = record {
    values = sym (append-nil (map expr_of made)) ∙ ap (λ (es : List Expr). map expr_of made ++ es) (sym (none ends)) ∙ so_far.values;
    aggregates = sym (none_with ends) ∙ so_far.aggregates;
  } where
    unsigned : (us : List Sign) → later_terms s before us [] ≡ []
    unsigned [] = refl
    unsigned (u ∷ us) = refl

    none : (signs_left ≡ []) ⊎ (left ≡ []) → later_terms s before signs_left (map written left) ≡ []
    none (inl e) = ap (λ (us : List Sign). later_terms s before us (map written left)) e
    none (inr e) = ap (λ (ms : List ExprNode). later_terms s before signs_left (map written ms)) e ∙ unsigned signs_left

    unsigned_with : (us : List Sign) → with_terms s before us [] ≡ before
    unsigned_with [] = refl
    unsigned_with (u ∷ us) = refl

    none_with : (signs_left ≡ []) ⊎ (left ≡ []) → with_terms s before signs_left (map written left) ≡ before
    none_with (inl e) = ap (λ (us : List Sign). with_terms s before us (map written left)) e
    none_with (inr e) = ap (λ (ms : List ExprNode). with_terms s before signs_left (map written ms)) e ∙ unsigned_with signs_left
