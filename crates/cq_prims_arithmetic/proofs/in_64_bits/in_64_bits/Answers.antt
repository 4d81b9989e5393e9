use Rattle.std.proofs.Common.{List, length, map, ap, subst, sym, ◌∙◌, arith}
use lib.Lanes.{zip2}
use Rattle.cq_vectors_stored.specs.Columns.{number_unless}
use Rattle.cq_vectors_stored.specs.Sizes.{AreUpTo}
use Rattle.cq_values.specs.declared.value.Value.{Value}
use Rattle.cq_values.specs.Order.{number}
use Rattle.cq_prims_arithmetic.specs.Operation.{zero_if}
use Rattle.cq_prims_arithmetic.proofs.ColumnLemmas.{cleared-same, fit_cleared, fit_within, results-same, values_cleared, within_values, zero_cleared}
use Rattle.cq_prims_arithmetic.proofs.in_64_bits.in_64_bits.Goals as goal

pub clear_nulls-requires : goal.clear_nulls-requires
clear_nulls-requires g c = sym (ap length c.in_ok-values.ensures ∙ results-same g.O.Operation.apply (g.A.Side.numbers c.args.a.now) (g.B.Side.numbers c.args.b.now) c.args.nulls c.requires.left c.requires.right)

pub new-requires-clause-same : goal.new-requires-clause-same
new-requires-clause-same g c =
    rw (c.clear_nulls.ensures, c.in_ok-values.ensures) (sym (cleared-same g.O.Operation.apply (g.A.Side.numbers c.args.a.now) (g.B.Side.numbers c.args.b.now) c.args.nulls c.requires.left c.requires.right))

pub new-requires-clause-few : goal.new-requires-clause-few
new-requires-clause-few g c =
    let same = cleared-same g.O.Operation.apply (g.A.Side.numbers c.args.a.now) (g.B.Side.numbers c.args.b.now) c.args.nulls c.requires.left c.requires.right in
    rw (c.clear_nulls.ensures, c.in_ok-values.ensures) (omega (arith, same, c.len.ensures.len, c.len.ensures.few))

pub new-requires-clause-zero : goal.new-requires-clause-zero
new-requires-clause-zero g c = rw (c.clear_nulls.ensures, c.in_ok-values.ensures) (zero_cleared (zip2 g.O.Operation.apply (g.A.Side.numbers c.args.a.now) (g.B.Side.numbers c.args.b.now)) c.args.nulls)

pub new-requires-clause-fit : goal.new-requires-clause-fit
new-requires-clause-fit g c = rw (c.clear_nulls.ensures, c.in_ok-values.ensures) (fit_cleared (zip2 g.O.Operation.apply (g.A.Side.numbers c.args.a.now) (g.B.Side.numbers c.args.b.now)) c.args.nulls (fit_within c.args.size (zip2 g.O.Operation.apply (g.A.Side.numbers c.args.a.now) (g.B.Side.numbers c.args.b.now)) c.requires.fits c.requires.within))

pub results_in_64_bits-requires-clause-fits : goal.results_in_64_bits-requires-clause-fits
results_in_64_bits-requires-clause-fits g c =
    fit_within c.args.size (zip2 g.O.Operation.apply (g.A.Side.numbers c.args.a.now) (g.B.Side.numbers c.args.b.now)) c.requires.fits c.requires.within

pub sized-numbers-requires : goal.sized-numbers-requires
sized-numbers-requires g c =
    rw (c.new.ensures, c.clear_nulls.ensures, c.in_ok-values.ensures) (subst (λ (vs : List Value). AreUpTo c.args.size (map number vs)) (sym (values_cleared (zip2 g.O.Operation.apply (g.A.Side.numbers c.args.a.now) (g.B.Side.numbers c.args.b.now)) c.args.nulls))
    (within_values c.args.size (zip2 g.O.Operation.apply (g.A.Side.numbers c.args.a.now) (g.B.Side.numbers c.args.b.now)) c.args.nulls c.requires.within))

pub returns : goal.returns
returns g c =
    c.new-2.ensures ∙ c.sized-numbers.ensures ∙ c.new.ensures ∙ ap (λ l. zip2 number_unless l c.args.nulls) (c.clear_nulls.ensures ∙ ap (λ l. zip2 zero_if l c.args.nulls) c.in_ok-values.ensures)
    ∙ values_cleared (zip2 g.O.Operation.apply (g.A.Side.numbers c.args.a.now) (g.B.Side.numbers c.args.b.now)) c.args.nulls
