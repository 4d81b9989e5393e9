-- Which columns expressions and conditions read.
use Rattle.std.specs.Prelude.{ℕ, ◌==◌, Bool, true, false, ◌&&◌, ◌||◌}
use Rattle.std.specs.List.{list_all, list_any}
use Rattle.cq_model.specs.Expr.{Expr, Column, Literal, Negate, Plus, Times, Extract, Cond, Compare, IsNull, Between, In, Like, Not, And, Or}

-- whether an expression reads a column
abbrev pub reads : ℕ → Expr → Bool
reads place (Column i) = i == place
reads place (Literal v) = false
reads place (Negate e) = reads place e
reads place (Plus a b) = reads place a || reads place b
reads place (Times a b) = reads place a || reads place b
reads place (Extract part e) = reads place e

-- whether a condition does
abbrev pub reads_in : ℕ → Cond → Bool
reads_in place (Compare c a b) = reads place a || reads place b
reads_in place (IsNull e) = reads place e
reads_in place (Between e a b) = reads place e || (reads place a || reads place b)
reads_in place (In e es) = reads place e || list_any (reads place) es
reads_in place (Like e pattern) = reads place e
reads_in place (Not c) = reads_in place c
reads_in place (And a b) = reads_in place a || reads_in place b
reads_in place (Or a b) = reads_in place a || reads_in place b

-- whether an expression is read and not worked out: a column, a literal, or a part of the day that is one
abbrev pub only_reads : Expr → Bool
only_reads (Column i) = true
only_reads (Literal v) = true
only_reads (Negate e) = false
only_reads (Plus a b) = false
only_reads (Times a b) = false
only_reads (Extract part e) = only_reads e

-- whether each expression of a condition is
abbrev pub only_reads_in : Cond → Bool
only_reads_in (Compare c a b) = only_reads a && only_reads b
only_reads_in (IsNull e) = only_reads e
only_reads_in (Between e a b) = only_reads e && (only_reads a && only_reads b)
only_reads_in (In e es) = only_reads e && list_all only_reads es
only_reads_in (Like e pattern) = only_reads e
only_reads_in (Not c) = only_reads_in c
only_reads_in (And a b) = only_reads_in a && only_reads_in b
only_reads_in (Or a b) = only_reads_in a && only_reads_in b
