use Rattle.std.proofs.Common.{◌≡◌, false, get_or, sym, subst, []}
use Rattle.std.specs.Str.{chars}
use Rattle.memchr.specs.Find.{FindsNeedle}
use Rattle.cq_model.specs.Like.{like}
use Rattle.cq_prims_like.specs.Patterns.{PatternByRun}
use Rattle.cq_prims_like.proofs.FormLemmas.{run_nowhere}
use Rattle.cq_prims_like.proofs.sought.Sought.fits_at.Goals as goal

pub returns-in-None : goal.returns-in-None
returns-in-None c =
    let text = get_or c.args.texts.now c.args.i [] in
    let sought = c.self.inside in
    let known = c.self.invariant in
    let first = subst (λ (s : PatternByRun). FindsNeedle text s.run 0 c.args.first) (sym c.self.view_is) c.requires.found in
    let none = subst (λ r. FindsNeedle text sought.run.now 0 r) c.in-None.is first in
    subst (λ (s : PatternByRun). false ≡ like (chars s.pattern) (chars text)) c.self.view_is
    (sym (run_nowhere sought.pattern.now text sought.run.now known.0 c.requires.utf8 none sought.form.now known.1 known.2))
