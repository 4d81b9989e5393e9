use Rattle.std.proofs.Common.{[], ◌∙◌, subst}
use Rattle.std.specs.Str.{IsUtf8}
use Rattle.std.proofs.lemmas.Str.Pattern.{starts_text, ends_text}
use Rattle.cq_prims_like.specs.Patterns.{IsFormOf}
use Rattle.cq_prims_like.proofs.Fitting.{whole_fits, prefix_fits, suffix_fits}
use Rattle.cq_prims_like.proofs.PieceLemmas.{parts_valid}
use Rattle.cq_prims_like.proofs.pattern.PatternForm.fits.Goals as goal

pub returns-in-Whole : goal.returns-in-Whole
returns-in-Whole c =
    let pattern = c.args.pattern.now in
    let form = subst (λ f. IsFormOf f pattern) c.in-Whole.is c.requires in
    c.eq.ensures ∙ whole_fits c.args.text.now c.utf8.text c.in-Whole.whole.now pattern (subst IsUtf8 form.0 c.utf8.pattern) form

pub returns-in-Prefix : goal.returns-in-Prefix
returns-in-Prefix c =
    let text = c.args.text.now in
    let pattern = c.args.pattern.now in
    let front = c.in-Prefix.front.now in
    let form = subst (λ f. IsFormOf f pattern) c.in-Prefix.is c.requires in
    let valid = (parts_valid front [] pattern form.0 c.utf8.pattern).0 in
    let r = c.starts_with.result in
    prefix_fits text c.utf8.text front pattern valid form r (starts_text r front text c.starts_with.ensures.cases)

pub returns-in-Suffix : goal.returns-in-Suffix
returns-in-Suffix c =
    let text = c.args.text.now in
    let pattern = c.args.pattern.now in
    let end = c.in-Suffix.end.now in
    let form = subst (λ f. IsFormOf f pattern) c.in-Suffix.is c.requires in
    let valid = (parts_valid [] end pattern form.0 c.utf8.pattern).1 in
    let r = c.ends_with.result in
    suffix_fits text c.utf8.text end pattern valid form r (ends_text r end text c.ends_with.ensures.cases)
