-- Chains and sums of nodes as they are written: of one part, and of several.
use Rattle.std.proofs.Common.{arith, Bool, ◌≡◌, ◌⊎◌, inl, inr, ◌<◌, List, [], ◌∷◌, map, length, refl, sym, ◌∙◌, ap, Box, Vec, Global}
use Rattle.std.specs.List.{fold}
use Rattle.cq_sql_language.specs.declared.written.ExprNode.{ExprNode}
use Rattle.cq_sql_language.specs.declared.written.ExprNode.TheOpen as node
use Rattle.cq_sql_language.specs.declared.written.ExprNode.TheViews as nodes
use Rattle.cq_sql_language.specs.declared.written.ExprNode.TheFolds.{fold-roll-ExprNode}
use Rattle.cq_sql_language.specs.declared.written.ExprNode.TheVariants.{rolls-And, rolls-In, rolls-Or, rolls-Product, rolls-Sum}
use Rattle.cq_sql_language.specs.declared.written.Sign.{Sign}
use Rattle.cq_sql_language.specs.Written.{Written, choices, signed, terms, written, written_step, Times, And, In, Or}

module _ (first : Box ExprNode Global) (rest : Vec ExprNode Global) where
  pub written-Product : written (nodes.Product first rest) ≡ fold Times (written first.value) (map written rest.items)
  written-Product = ap written (sym (rolls-Product first rest)) ∙ fold-roll-ExprNode Written written_step (node.Product first rest)

  pub written-Sum : (ss : Vec Sign Global) → written (nodes.Sum first ss rest) ≡ terms (written first.value) ss.items (map written rest.items)
  written-Sum ss = ap written (sym (rolls-Sum first ss rest)) ∙ fold-roll-ExprNode Written written_step (node.Sum first ss rest)

  pub written-And : written (nodes.And first rest) ≡ fold And (written first.value) (map written rest.items)
  written-And = ap written (sym (rolls-And first rest)) ∙ fold-roll-ExprNode Written written_step (node.And first rest)

  pub written-Or : written (nodes.Or first rest) ≡ fold Or (written first.value) (map written rest.items)
  written-Or = ap written (sym (rolls-Or first rest)) ∙ fold-roll-ExprNode Written written_step (node.Or first rest)

pub written-In : (negated : Bool) (value : Box ExprNode Global) (among : Vec ExprNode Global) → written (nodes.In negated value among) ≡ In negated (written value.value) (choices (map written among.items))
written-In negated value among = ap written (sym (rolls-In negated value among)) ∙ fold-roll-ExprNode Written written_step (node.In negated value among)

-- ---- One part
-- a chain of one part is that part
pub chain_alone : (join : Written → Written → Written) (w : Written) (ns : List ExprNode) → length ns ≡ 0 → fold join w (map written ns) ≡ w
chain_alone join w [] none = refl
chain_alone join w (n ∷ ns) none = absurd (omega (arith, none))

-- a sum without a later term is its first
pub one_term : (w : Written) (ss : List Sign) (ns : List ExprNode) → (length ss ≡ 0) ⊎ (length ns ≡ 0) → terms w ss (map written ns) ≡ w
one_term w [] ns none = refl
one_term w (s ∷ ss) [] none = refl
one_term w (s ∷ ss) (n ∷ ns) (inl none) = absurd (omega (arith, none))
one_term w (s ∷ ss) (n ∷ ns) (inr none) = absurd (omega (arith, none))

pub sum_alone : (n : ExprNode) (first : Box ExprNode Global) (ss : Vec Sign Global) (rest : Vec ExprNode Global) → (length ss.items ≡ 0) ⊎ (length rest.items ≡ 0) → n ≡ nodes.Sum first ss rest → written n ≡ written first.value
sum_alone n first ss rest none is = ap written is ∙ written-Sum first rest ss ∙ one_term (written first.value) ss.items rest.items none

-- ---- Several parts
module _ (join : Written → Written → Written) where
  -- what holds of every join of two parts holds of a chain of two or more
  joined : (P : Written → Type 0) → ((a b : Written) → P (join a b)) → (a b : Written) (ws : List Written) → P (fold join (join a b) ws)
  joined P each a b [] = each a b
  joined P each a b (w ∷ ws) = joined P each (join a b) w ws

  -- and so of a chain with a later part
  pub several : (P : Written → Type 0) → ((a b : Written) → P (join a b)) → (a : Written) (ns : List ExprNode) → 0 < length ns → P (fold join a (map written ns))
  several P each a [] some = absurd (omega (arith, some))
  several P each a (n ∷ ns) some = joined P each a (written n) (map written ns)

-- what holds of every sum of two terms holds of a sum of several
module _ (P : Written → Type 0) (each : (x : Sign) (a b : Written) → P (signed x a b)) where
  summed : (a : Written) (ss : List Sign) (ws : List Written) → P a → P (terms a ss ws)
  summed a [] ws is = is
  summed a (x ∷ ss) [] is = is
  summed a (x ∷ ss) (w ∷ ws) is = summed (signed x a w) ss ws (each x a w)

  pub several_terms : (a : Written) (ss : List Sign) (ns : List ExprNode) → 0 < length ss → 0 < length ns → P (terms a ss (map written ns))
  several_terms a [] ns some more = absurd (omega (arith, some))
  several_terms a (x ∷ ss) [] some more = absurd (omega (arith, more))
  several_terms a (x ∷ ss) (n ∷ ns) some more = summed (signed x a (written n)) ss (map written ns) (each x a (written n))
