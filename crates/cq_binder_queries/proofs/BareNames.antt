-- A chain of one part is that part, and a chain of several is no column.
use Rattle.std.proofs.Common.{arith, ◌≡◌, ◌⊎◌, inl, inr, ◌<◌, List, [], ◌∷◌, map, length, None, refl, ap, ◌∙◌, Box, Vec, Global}
use Rattle.std.specs.List.{fold}
use Rattle.cq_sql_language.specs.declared.written.ExprNode.{ExprNode}
use Rattle.cq_sql_language.specs.declared.written.ExprNode.TheViews as nodes
use Rattle.cq_sql_language.specs.declared.written.Sign.{Sign}
use Rattle.cq_sql_language.specs.declared.written.Sign.TheVariants as signs
use Rattle.cq_sql_language.specs.Written.{Written, And, Or, Times, signed, written}
use Rattle.cq_binder_rules.specs.Headers.{bare_name}
use Rattle.cq_binder_expressions.proofs.Several.{several, several_terms, sum_alone, written-And, written-Or, written-Product, written-Sum}

-- what is no column
abbrev IsNone : Written → Type 0
IsNone w = bare_name w ≡ None

-- an expression is a chain of these parts behind its first, with an operator between them
pub record IsChain (e first : ExprNode) (parts : List ExprNode) : Type 0 where
  pub join : Written → Written → Written
  pub joins : (a b : Written) → bare_name (join a b) ≡ None
  pub gives : written e ≡ fold join (written first) (map written parts)

-- one part is the whole
pub one_part : (e first : ExprNode) (parts : List ExprNode) → IsChain e first parts → length parts ≡ 0 → written e ≡ written first
one_part e first [] is none = is.gives
one_part e first (n ∷ ns) is none = absurd (omega (arith, none))

-- several parts have no name
pub several_parts : (e first : ExprNode) (parts : List ExprNode) → IsChain e first parts → 0 < length parts → bare_name (written e) ≡ None
several_parts e first parts is some = ap bare_name is.gives ∙ several is.join IsNone is.joins (written first) parts some

signed_nameless : (sign : Sign) (a b : Written) → IsNone (signed sign a b)
signed_nameless signs.Plus a b = refl
signed_nameless signs.Minus a b = refl

module _ (e : ExprNode) (first : Box ExprNode Global) (rest : Vec ExprNode Global) where
  -- products, AND and OR
  pub chain_of : (e ≡ nodes.Product first rest) ⊎ ((e ≡ nodes.And first rest) ⊎ (e ≡ nodes.Or first rest)) → IsChain e first.value rest.items
  chain_of (inl is) = record { join = Times; joins = λ a b. refl; gives = ap written is ∙ written-Product first rest }
  chain_of (inr (inl is)) = record { join = And; joins = λ a b. refl; gives = ap written is ∙ written-And first rest }
  chain_of (inr (inr is)) = record { join = Or; joins = λ a b. refl; gives = ap written is ∙ written-Or first rest }

  module _ (ss : Vec Sign Global) (is : e ≡ nodes.Sum first ss rest) where
    pub sum_of_one : (length ss.items ≡ 0) ⊎ (length rest.items ≡ 0) → written e ≡ written first.value
    sum_of_one none = sum_alone e first ss rest none is

    pub sum_of_several : 0 < length ss.items → 0 < length rest.items → bare_name (written e) ≡ None
    sum_of_several all some = ap bare_name (ap written is ∙ written-Sum first rest ss) ∙ several_terms IsNone signed_nameless (written first.value) ss.items rest.items all some
