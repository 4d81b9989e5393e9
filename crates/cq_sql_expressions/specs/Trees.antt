-- What was read or made, seen as trees.
use Rattle.std.specs.Global.{Vec}
use Rattle.std.specs.Prelude.{◌≡◌, List, Option, Result, IfOk, map}
use denote.Ref.{Bor}
use Rattle.cq_sql_language.specs.declared.token.Token.{Token}
use Rattle.cq_sql_language.specs.declared.written.ExprNode.{ExprNode}
use Rattle.cq_sql_language.specs.Written.{Written, written}
use Rattle.cq_sql_expressions.specs.declared.fault.SqlFault.{SqlFault}
use Rattle.cq_sql_expressions.specs.Gives.{Gives}

-- the trees of some nodes
abbrev pub trees : Vec ExprNode → List Written
trees nodes = map written nodes.items

-- an expression was read, and this is what there is to read
abbrev pub GivesTree : Result (ExprNode × Bor (List Token)) SqlFault → Option (Written × List Token) → Type 0
GivesTree result read = Gives (λ x. (written x.0, x.1.now)) result read

-- expressions were read, and this is what there is to read
abbrev pub GivesTrees : Result (Vec ExprNode × Bor (List Token)) SqlFault → Option (List Written × List Token) → Type 0
GivesTrees result read = Gives (λ x. (trees x.0, x.1.now)) result read

-- the node that was made stands for this tree, unless memory ran out
abbrev pub IsMade : {E : Type 0} → Result ExprNode E → Written → Type 0
IsMade result w = IfOk result (λ e. written e ≡ w)
