use Rattle.std.proofs.Common.{◌∙◌, sym, ap, arith, rules}
use Rattle.std.proofs.lemmas.Bool.Decides.{nat_tests}
use Rattle.std.specs.Str.{chars}
use Rattle.cq_model_eval.specs.PatternPrefix.{seen}
use Rattle.cq_model_eval.proofs.Prefixes.{open_same, open_shorter, whole_fits, misfit_next, misfit_last, empty_fits}
use Rattle.cq_model_eval.proofs.pattern.some_end_fits.Goals as goal

pub returns-then-is_empty : goal.returns-then-is_empty
returns-then-is_empty c =
    let none = c.if-is_empty.ensures in
    sym (empty_fits c.loop-pattern.pattern.now (chars c.loop-pattern.text.now) (grind (arith, nat_tests))) ∙ c.loop-pattern.invariant.2

pub returns-in-Whole : goal.returns-in-Whole
returns-in-Whole c =
    sym (whole_fits (chars c.loop-pattern.pattern.now) (chars c.loop-pattern.text.now) (ap seen (sym c.in-Whole.is) ∙ c.match_prefix.ensures)) ∙ c.loop-pattern.invariant.2

pub loop-pattern-smaller-in-Open : goal.loop-pattern-smaller-in-Open
loop-pattern-smaller-in-Open c =
    open_shorter (chars c.loop-pattern.pattern.now) (chars c.loop-pattern.text.now) (chars c.in-Open.signs.now) (chars c.in-Open.rest.now) (ap seen (sym c.in-Open.is) ∙ c.match_prefix.ensures)

pub loop-pattern-preserved-in-Open : goal.loop-pattern-preserved-in-Open
loop-pattern-preserved-in-Open c = (
  search rules,
  search rules,
  open_same (chars c.loop-pattern.pattern.now) (chars c.loop-pattern.text.now) (chars c.in-Open.signs.now) (chars c.in-Open.rest.now) (ap seen (sym c.in-Open.is) ∙ c.match_prefix.ensures) ∙ c.loop-pattern.invariant.2,
)

pub loop-pattern-preserved : goal.loop-pattern-preserved
loop-pattern-preserved c = (
  search rules,
  search rules,
  misfit_next (chars c.loop-pattern.pattern.now) c.in-Some.field-0-0 (chars c.in-Some.rest.now) (chars c.loop-pattern.text.now) c.in-Some.ensures c.in-Misfit.ensures ∙ c.loop-pattern.invariant.2,
)

pub returns-in-None : goal.returns-in-None
returns-in-None c = misfit_last (chars c.loop-pattern.pattern.now) (chars c.loop-pattern.text.now) c.in-None.ensures c.in-Misfit.ensures ∙ c.loop-pattern.invariant.2
