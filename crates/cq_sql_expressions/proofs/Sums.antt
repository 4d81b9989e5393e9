-- Sums and products of lists: one more part at the end.
use Rattle.std.proofs.Common.{◌≡◌, List, [], ◌∷◌, ◌++◌, length, refl, sym, arith, map}
use Rattle.cq_sql_language.specs.declared.written.Sign.{Sign}
use Rattle.cq_sql_language.specs.declared.written.ExprNode.{ExprNode}
use Rattle.cq_sql_language.specs.Written.{Written, signed, terms, written}

-- a sum with no later term is its first term
pub terms_nil : (first : Written) (signs : List Sign) → terms first signs [] ≡ first
terms_nil first [] = refl
terms_nil first (s ∷ ss) = refl

-- a sum whose later terms are an empty list is its first term
pub terms_none : (first : Written) (signs : List Sign) (nodes : List ExprNode) → length nodes ≡ 0 → first ≡ terms first signs (map written nodes)
terms_none first signs [] e = sym (terms_nil first signs)
terms_none first signs (n ∷ ns) e = absurd (omega (arith, e))

-- one more sign and one more term at the end of a sum
pub terms_push : (first : Written) (signs : List Sign) (ws : List Written) (sign : Sign) (w : Written) → length signs ≡ length ws
    → terms first (signs ++ sign ∷ []) (ws ++ w ∷ []) ≡ signed sign (terms first signs ws) w
terms_push first [] [] sign w same = refl
terms_push first [] (v ∷ vs) sign w same = absurd (omega (arith, same))
terms_push first (s ∷ ss) [] sign w same = absurd (omega (arith, same))
terms_push first (s ∷ ss) (v ∷ vs) sign w same = terms_push (signed s first v) ss vs sign w (omega (arith, same))
