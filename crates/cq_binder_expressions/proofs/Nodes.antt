-- What the chains in an expression give.
use Rattle.std.proofs.Common.{arith, ◌≡◌, ℕ, ◌≤◌, List, [], ◌∷◌, length, min, take, map, Result, Ok, Err, zero, suc, sym, ◌∙◌, ap, ap₂, Vec, Box, Global, ◌⊎◌, inl, inr}
use Rattle.std.proofs.lemmas.List.{take-map, take_min}
use denote.Param.Weighed.{most}
use Rattle.cq_sql_language.specs.declared.written.ExprNode.{ExprNode}
use Rattle.cq_sql_language.specs.declared.written.ExprNode.TheFolds.{fold-roll-ExprNode}
use Rattle.cq_sql_language.specs.declared.written.ExprNode.TheOpen as node
use Rattle.cq_sql_language.specs.declared.written.ExprNode.TheVariants as nodes
use Rattle.cq_sql_language.specs.declared.written.Sign.{Sign}
use Rattle.cq_sql_language.specs.Written.{Written, written, written_step}
use Rattle.cq_binder_rules.specs.declared.fault.Fault.{Fault}
use Rattle.cq_binder_rules.specs.declared.typing.Typing.{Typing}
use Rattle.cq_binder_rules.specs.Kinds.{◌and_then◌}
use Rattle.cq_binder_rules.specs.Typing.{Scope, typed}
use Rattle.cq_binder_expressions.specs.declared.walk.Operator.{Operator}
use Rattle.cq_binder_expressions.specs.declared.walk.Operator.TheVariants.{Times, Plus, Connect}
use Rattle.cq_binder_expressions.specs.Chains.{chained}
use Rattle.cq_binder_expressions.proofs.Chains.{typed-and, typed-or, typed-product, typed-sum}

-- an expression is a chain of these parts behind its first
pub record IsChain (s : Scope) (e first : ExprNode) (op : Operator) (parts : List ExprNode) : Type 0 where
  pub gives : typed s (written e) ≡ (typed s (written first) and_then λ x. chained s op x (map written parts))

module _ (s : Scope) (e first : ExprNode) (op : Operator) (parts : List ExprNode) (is : IsChain s e first op parts) where
  -- where the first part fails, the chain does
  pub stops : (f : Fault) → Err f ≡ typed s (written first) → Err f ≡ typed s (written e)
  stops f fails = sym (is.gives ∙ ap (λ r. r and_then λ x. chained s op x (map written parts)) (sym fails))

  -- and where it stands, the others go on
  pub goes_on : (x : Typing) → Ok x ≡ typed s (written first) → chained s op x (map written parts) ≡ typed s (written e)
  goes_on x stands = sym (is.gives ∙ ap (λ r. r and_then λ y. chained s op y (map written parts)) (sym stands))

  -- as they are lent
  pub goes_on_lent : (x : Typing) (lent : List ExprNode) (given : Result Typing Fault) → given ≡ chained s op x (map written lent) → lent ≡ parts → Ok x ≡ typed s (written first) → given ≡ typed s (written e)
  goes_on_lent x lent given is_given same stands = is_given ∙ ap (λ (es : List ExprNode). chained s op x (map written es)) same ∙ goes_on x stands

module _ (s : Scope) (e : ExprNode) (first : Box ExprNode Global) (others : Vec ExprNode Global) where
  -- a product
  pub product_chain : e ≡ nodes.Product first others → IsChain s e first.value Times others.items
  product_chain is = record {
    gives =
        ap (λ n. typed s (written n)) (is ∙ sym (nodes.rolls-Product first others))
        ∙ ap (typed s) (fold-roll-ExprNode Written written_step (node.Product first others))
        ∙ typed-product s (written first.value) (map written others.items);
  }

  -- AND and OR
  pub connection_chain : (e ≡ nodes.And first others) ⊎ (e ≡ nodes.Or first others) → IsChain s e first.value Connect others.items
  connection_chain (inl is) = record {
    gives =
        ap (λ n. typed s (written n)) (is ∙ sym (nodes.rolls-And first others))
        ∙ ap (typed s) (fold-roll-ExprNode Written written_step (node.And first others))
        ∙ typed-and s (written first.value) (map written others.items);
  }
  connection_chain (inr is) = record {
    gives =
        ap (λ n. typed s (written n)) (is ∙ sym (nodes.rolls-Or first others))
        ∙ ap (typed s) (fold-roll-ExprNode Written written_step (node.Or first others))
        ∙ typed-or s (written first.value) (map written others.items);
  }

  -- a sum, whose later terms are as many as have a sign
  pub sum_chain : (signs : Vec Sign Global) (n : ℕ) (items : List ExprNode) → e ≡ nodes.Sum first signs others
      → n ≡ min (length signs.items) (length others.items) → items ≡ others.items → IsChain s e first.value Plus (take n items)
  sum_chain signs n items is count same =
      let few : take (length signs.items) (map written others.items) ≡ map written (take n items)
      = take-map written (length signs.items) others.items ∙ ap (map written) (sym (take_min (length signs.items) others.items))
      ∙ ap₂ (λ (k : ℕ) (es : List ExprNode). map written (take k es)) (sym count) (sym same) in
      record {
        gives =
            ap (λ n. typed s (written n)) (is ∙ sym (nodes.rolls-Sum first signs others))
            ∙ ap (typed s) (fold-roll-ExprNode Written written_step (node.Sum first signs others))
            ∙ typed-sum s (written first.value) signs.items (map written others.items)
            ∙ ap (λ ws. typed s (written first.value) and_then λ x. chained s Plus x ws) few;
      }

-- the deepest of the first few is no deeper than the deepest of all
pub most_take : (size : ExprNode → ℕ) (n : ℕ) (es : List ExprNode) → most size (take n es) ≤ most size es
most_take size zero es = omega arith
most_take size (suc n) [] = omega arith
most_take size (suc n) (e ∷ es) = omega (arith, most_take size n es)
