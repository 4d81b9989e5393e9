-- What a chain gives, walked through from the left.
use Rattle.std.proofs.Common.{◌≡◌, List, [], ◌∷◌, Result, Ok, Err, length, take, refl, ap, ◌∙◌}
use Rattle.std.specs.List.{fold}
use Rattle.cq_sql_language.specs.declared.written.Sign.{Sign}
use Rattle.cq_sql_language.specs.declared.written.Sign.TheVariants as signs
use Rattle.cq_sql_language.specs.Written as tree
use Rattle.cq_sql_language.specs.Written.{Written, signed, terms}
use Rattle.cq_binder_rules.specs.declared.fault.Fault.{Fault}
use Rattle.cq_binder_rules.specs.declared.typing.Typing.{Typing}
use Rattle.cq_binder_rules.specs.Kinds.{◌and_then◌}
use Rattle.cq_binder_rules.specs.Typing.{Scope, typed}
use Rattle.cq_binder_expressions.specs.declared.walk.Operator.{Operator}
use Rattle.cq_binder_expressions.specs.declared.walk.Operator.TheVariants.{Times, Plus, Connect}
use Rattle.cq_binder_expressions.specs.Chains.{chained, joined}

-- a step that hands on what stands changes nothing
only : (r : Result Typing Fault) → r ≡ (r and_then λ x. Ok x)
only (Ok x) = refl
only (Err f) = refl

-- a step behind two operands and their operator
behind : (r q : Result Typing Fault) (op : Operator) (g : Typing → Result Typing Fault)
    → ((r and_then λ x. q and_then joined op x) and_then g) ≡ (r and_then λ x. q and_then λ y. joined op x y and_then g)
behind (Err f) q op g = refl
behind (Ok x) (Err f) op g = refl
behind (Ok x) (Ok y) op g = refl

module _ (s : Scope) where
  -- a chain gives what its first part does, and then the others
  folded : (op : Operator) (join : Written → Written → Written)
      → ((v w : Written) → typed s (join v w) ≡ (typed s v and_then λ x. typed s w and_then joined op x)) → (w : Written) (ws : List Written)
      → typed s (fold join w ws) ≡ (typed s w and_then λ x. chained s op x ws)
  folded op join joins w [] = only (typed s w)
  folded op join joins w (v ∷ vs) =
      folded op join joins (join w v) vs ∙ ap (λ r. r and_then λ x. chained s op x vs) (joins w v)
      ∙ behind (typed s w) (typed s v) op (λ z. chained s op z vs)

  pub typed-product : (w : Written) (ws : List Written) → typed s (fold tree.Times w ws) ≡ (typed s w and_then λ x. chained s Times x ws)
  typed-product w ws = folded Times tree.Times (λ u v. refl) w ws

  pub typed-and : (w : Written) (ws : List Written) → typed s (fold tree.And w ws) ≡ (typed s w and_then λ x. chained s Connect x ws)
  typed-and w ws = folded Connect tree.And (λ u v. refl) w ws

  pub typed-or : (w : Written) (ws : List Written) → typed s (fold tree.Or w ws) ≡ (typed s w and_then λ x. chained s Connect x ws)
  typed-or w ws = folded Connect tree.Or (λ u v. refl) w ws

  typed-signed : (sign : Sign) (v w : Written) → typed s (signed sign v w) ≡ (typed s v and_then λ x. typed s w and_then joined Plus x)
  typed-signed signs.Plus v w = refl
  typed-signed signs.Minus v w = refl

  -- a sum has as many later terms as signs before them
  pub typed-sum : (w : Written) (ss : List Sign) (ws : List Written)
      → typed s (terms w ss ws) ≡ (typed s w and_then λ x. chained s Plus x (take (length ss) ws))
  typed-sum w [] ws = only (typed s w)
  typed-sum w (sign ∷ ss) [] = only (typed s w)
  typed-sum w (sign ∷ ss) (v ∷ vs) =
      typed-sum (signed sign w v) ss vs ∙ ap (λ r. r and_then λ x. chained s Plus x (take (length ss) vs)) (typed-signed sign w v)
      ∙ behind (typed s w) (typed s v) Plus (λ z. chained s Plus z (take (length ss) vs))
