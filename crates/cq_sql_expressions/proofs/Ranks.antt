-- How far each reader of expressions stands from the parentheses below it.
use Rattle.std.proofs.Common.{ℕ}
use Rattle.cq_sql_expressions.specs.declared.separators.Operator.{Operator}
use Rattle.cq_sql_expressions.specs.declared.separators.Operator.TheVariants as operators
use Rattle.cq_sql_expressions.specs.declared.separators.Separator.{Separator}
use Rattle.cq_sql_expressions.specs.declared.separators.Separator.TheVariants as separators

-- the rank of the reader of an operator's parts
abbrev pub operand_rank : Operator → ℕ
operand_rank operators.Times = 3
operand_rank operators.And = 12
operand_rank operators.Or = 15

-- the rank of the reader of the parts that a separator stands between
abbrev pub part_rank : Separator → ℕ
part_rank (separators.Operator operator) = operand_rank operator
part_rank separators.Comma = 8
