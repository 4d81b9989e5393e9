use Rattle.std.proofs.Common.{◌∙◌}
use Rattle.cq_values.specs.Comparison.{compared}
use Rattle.cq_prims.proofs.Compared.{turned_by, zip2-turned}
use Rattle.cq_prims.proofs.comparisons.compare.Goals as goal

pub returns-in-Some-of-2 : goal.returns-in-Some-of-2
returns-in-Some-of-2 c =
    let a = c.args.a.now in
    let b = c.args.b.now in
    c.compare-in-Some-of-2.ensures b a c.in-Some-of-2.ensures ∙ zip2-turned (compared c.turned.result) (compared c.args.comparison) (turned_by c.args.comparison c.turned.result c.turned.ensures) a b

pub returns-then-compare_codes-2 : goal.returns-then-compare_codes-2
returns-then-compare_codes-2 c =
    let a = c.args.a.now in
    let b = c.args.b.now in
    c.if-compare_codes-2.ensures ∙ zip2-turned (compared c.turned-2.result) (compared c.args.comparison) (turned_by c.args.comparison c.turned-2.result c.turned-2.ensures) a b
