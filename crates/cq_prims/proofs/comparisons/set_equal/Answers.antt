use Rattle.std.proofs.Common.{◌∙◌, false, true}
use Rattle.std.specs.Ordering.{int_eq}
use Rattle.std.specs.Str.{bytes_eq}
use Rattle.cq_values.specs.declared.comparison.Comparison.TheVariants.{Equal}
use Rattle.cq_prims.proofs.Compared.{by_numbers, by_texts, by_lent, equal_agrees, equal_texts_agree}
use Rattle.cq_prims.proofs.comparisons.set_equal.Goals as goal

pub returns-in-Numbers : goal.returns-in-Numbers
returns-in-Numbers c =
    c.set_known_by.ensures ∙ by_numbers c.args.a.now c.args.b.now c.nulls_of_both-nulls.result c.requires c.nulls_of_both-nulls.ensures.nulls Equal int_eq equal_agrees false c.in-Numbers.m c.in-Numbers.n c.in-Numbers.ensures.0 c.in-Numbers.ensures.1

pub returns-in-Days : goal.returns-in-Days
returns-in-Days c =
    c.set_known_by-in-Days.ensures ∙ by_numbers c.args.a.now c.args.b.now c.nulls_of_both-nulls.result c.requires c.nulls_of_both-nulls.ensures.nulls Equal int_eq equal_agrees true c.in-Days.d c.in-Days.e c.in-Days.ensures.0 c.in-Days.ensures.1

pub returns-in-Texts : goal.returns-in-Texts
returns-in-Texts c =
    c.set_known_by-in-Texts.ensures ∙ by_texts c.args.a.now c.args.b.now c.nulls_of_both-nulls.result c.requires c.nulls_of_both-nulls.ensures.nulls Equal bytes_eq equal_texts_agree c.in-Texts.t c.in-Texts.u c.in-Texts.ensures.0 c.in-Texts.ensures.1

pub returns-in-Wide : goal.returns-in-Wide
returns-in-Wide c =
    c.set_known_by-in-Wide.ensures ∙ by_numbers c.args.a.now c.args.b.now c.nulls_of_both-nulls.result c.requires c.nulls_of_both-nulls.ensures.nulls Equal int_eq equal_agrees false c.in-Wide.m c.in-Wide.n c.in-Wide.ensures.0 c.in-Wide.ensures.1

pub returns-in-WideDays : goal.returns-in-WideDays
returns-in-WideDays c =
    c.set_known_by-in-WideDays.ensures ∙ by_numbers c.args.a.now c.args.b.now c.nulls_of_both-nulls.result c.requires c.nulls_of_both-nulls.ensures.nulls Equal int_eq equal_agrees true c.in-WideDays.d c.in-WideDays.e c.in-WideDays.ensures.0 c.in-WideDays.ensures.1

pub returns-in-Mixed : goal.returns-in-Mixed
returns-in-Mixed c = c.set_known_by-in-Mixed.ensures ∙ by_lent c.args.a.now c.args.b.now c.nulls_of_both-nulls.result c.requires c.nulls_of_both-nulls.ensures.nulls Equal
