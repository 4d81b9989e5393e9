use Rattle.std.proofs.Common.{◌∙◌, sym, ap, map}
use lib.Lanes.{zip2}
use Rattle.cq_values.specs.Comparison.{compared}
use Rattle.cq_values.specs.Truth.{not_truth}
use Rattle.cq_values.specs.declared.comparison.Comparison.TheVariants.{Equal, NotEqual, Less, LessOrEqual, Greater, GreaterOrEqual}
use Rattle.cq_prims.proofs.Compared.{compared-turned, zip2-turned, zip2-opposite, not_equal, not_less, not_greater}
use Rattle.cq_prims.proofs.comparisons.compare_sides.Goals as goal

pub returns-in-Greater : goal.returns-in-Greater
returns-in-Greater c =
    c.set_less-in-Greater.ensures
    ∙ zip2-turned (compared Less) (compared Greater) compared-turned c.args.a.now c.args.b.now
    ∙ ap (λ k. zip2 (compared k) c.args.a.now c.args.b.now) (sym c.in-Greater.is)

pub returns-in-NotEqual : goal.returns-in-NotEqual
returns-in-NotEqual c =
    c.negate.ensures
    ∙ ap (map not_truth) c.set_equal-in-NotEqual.ensures
    ∙ zip2-opposite Equal NotEqual not_equal c.args.a.now c.args.b.now
    ∙ ap (λ k. zip2 (compared k) c.args.a.now c.args.b.now) (sym c.in-NotEqual.is)

pub returns-in-LessOrEqual : goal.returns-in-LessOrEqual
returns-in-LessOrEqual c =
    c.negate-in-LessOrEqual.ensures
    ∙ ap (map not_truth) (c.set_less-in-LessOrEqual.ensures ∙ zip2-turned (compared Less) (compared Greater) compared-turned c.args.a.now c.args.b.now)
    ∙ zip2-opposite Greater LessOrEqual not_greater c.args.a.now c.args.b.now
    ∙ ap (λ k. zip2 (compared k) c.args.a.now c.args.b.now) (sym c.in-LessOrEqual.is)

pub returns-in-GreaterOrEqual : goal.returns-in-GreaterOrEqual
returns-in-GreaterOrEqual c =
    c.negate-in-GreaterOrEqual.ensures
    ∙ ap (map not_truth) c.set_less-in-GreaterOrEqual.ensures
    ∙ zip2-opposite Less GreaterOrEqual not_less c.args.a.now c.args.b.now
    ∙ ap (λ k. zip2 (compared k) c.args.a.now c.args.b.now) (sym c.in-GreaterOrEqual.is)
