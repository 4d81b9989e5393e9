-- Chains of operators, walked through from the left.
use Rattle.std.specs.Prelude.{List, [], ◌∷◌, Result, Ok}
use Rattle.cq_sql_language.specs.Written.{Written}
use Rattle.cq_binder_rules.specs.declared.fault.Fault.{Fault}
use Rattle.cq_binder_rules.specs.declared.typing.Typing.{Typing}
use Rattle.cq_binder_rules.specs.Kinds.{◌and_then◌, connected, product_of, sum_of}
use Rattle.cq_binder_rules.specs.Typing.{Scope, typed}
use Rattle.cq_binder_expressions.specs.declared.walk.Operator.{Operator}
use Rattle.cq_binder_expressions.specs.declared.walk.Operator.TheVariants.{Times, Plus, Connect}

-- two parts of a chain, joined by what stands between them
abbrev pub joined : Operator → Typing → Typing → Result Typing Fault
joined Times x y = product_of x y
joined Plus x y = sum_of x y
joined Connect x y = connected x y

-- what a chain gives that gave this so far: each later part, and then the operator before it
abbrev pub chained : Scope → Operator → Typing → List Written → Result Typing Fault
chained s op x [] = Ok x
chained s op x (w ∷ ws) = typed s w and_then λ y. joined op x y and_then λ z. chained s op z ws
