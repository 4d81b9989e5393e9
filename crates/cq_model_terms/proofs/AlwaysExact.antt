-- What works no number out is exact in every row.
use Rattle.std.proofs.Common.{◌≡◌, Bool, true, false, ◌&&◌, List, [], ◌∷◌}
use Rattle.std.specs.List.{list_all}
use Rattle.std.proofs.lemmas.Bool.{and_parts}
use Rattle.cq_model.specs.Exact.{AreExactAt, AreExactIn, IsExactAt}
use Rattle.cq_model.specs.Expr.{Expr, Column, Literal, Negate, Plus, Times, Extract, Cond, Compare, IsNull, Between, In, Like, Not, And, Or}
use Rattle.cq_model_terms.specs.Reads.{only_reads, only_reads_in}
use Rattle.cq_values.specs.Value.{Row}

exact-read : (e : Expr) (row : Row) → only_reads e ≡ true → IsExactAt e row
exact-read (Column i) row h = tt
exact-read (Literal v) row h = tt
exact-read (Negate e) row h = absurd (cc h)
exact-read (Plus a b) row h = absurd (cc h)
exact-read (Times a b) row h = absurd (cc h)
exact-read (Extract part e) row h = exact-read e row h

each-exact : (es : List Expr) (row : Row) → list_all only_reads es ≡ true → AreExactAt es row
each-exact [] row h = tt
each-exact (e ∷ es) row h =
    let both = and_parts (only_reads e) (list_all only_reads es) h in
    (exact-read e row both.0, each-exact es row both.1)

-- a condition that reads its expressions alone is exact
pub exact-condition : (c : Cond) (row : Row) → only_reads_in c ≡ true → AreExactIn c row
exact-condition (Compare c a b) row h =
    let both = and_parts (only_reads a) (only_reads b) h in
    (exact-read a row both.0, exact-read b row both.1)
exact-condition (IsNull e) row h = exact-read e row h
exact-condition (Between e a b) row h =
    let first = and_parts (only_reads e) (only_reads a && only_reads b) h in
    let both = and_parts (only_reads a) (only_reads b) first.1 in
    (exact-read e row first.0, exact-read a row both.0, exact-read b row both.1)
exact-condition (In e es) row h =
    let both = and_parts (only_reads e) (list_all only_reads es) h in
    (exact-read e row both.0, each-exact es row both.1)
exact-condition (Like e pattern) row h = exact-read e row h
exact-condition (Not c) row h = exact-condition c row h
exact-condition (And a b) row h =
    let both = and_parts (only_reads_in a) (only_reads_in b) h in
    (exact-condition a row both.0, exact-condition b row both.1)
exact-condition (Or a b) row h =
    let both = and_parts (only_reads_in a) (only_reads_in b) h in
    (exact-condition a row both.0, exact-condition b row both.1)
