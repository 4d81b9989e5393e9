use Rattle.std.proofs.Common.{◌+◌, ap, sym, subst, length}
use Rattle.std.specs.Str.{IsCharBoundary}
use Rattle.cq_prims_like.proofs.AroundLemmas.{run_cuts}
use Rattle.cq_prims_like.proofs.around.Around.fits_at.Goals as goal

pub range-requires-clause-end_boundary : goal.range-requires-clause-end_boundary
range-requires-clause-end_boundary c =
    let known = c.requires.around in
    (run_cuts c.args.self.now.run c.args.text.now known.some known.text c.utf8.text c.args.place c.requires.there).begins

pub range_from-requires : goal.range_from-requires
range_from-requires c =
    let known = c.requires.around in
    let ends = (run_cuts c.args.self.now.run c.args.text.now known.some known.text c.utf8.text c.args.place c.requires.there).ends in
    λ _. subst (IsCharBoundary c.args.text.now) (ap (λ l. c.args.place + length l) (sym c.needle.ensures)) ends
