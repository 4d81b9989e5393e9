-- What stands in a row's place after an UPDATE.
use Rattle.std.specs.Prelude.{if◌then◌else◌, List, Option}
use Rattle.cq_values.specs.Value.{Row}
use Rattle.cq_model.specs.declared.assignment.Assignment.{Assignment}
use Rattle.cq_model.specs.Expr.{Cond}
use Rattle.cq_model.specs.Meaning.{keeps}
use Rattle.cq_model.specs.Write.{image_of}

-- its image where WHERE chooses it, else the row itself
abbrev pub replacement : List Assignment → Option Cond → Row → Row
replacement assignments condition old = if keeps condition old then image_of assignments old else old
