use Rattle.std.proofs.Common.{subst}
use Rattle.memchr.specs.Find.{FindsNeedle}
use Rattle.cq_prims_like.proofs.pattern.Pattern.fits.Goals as goal

pub fits-requires : goal.fits-requires
fits-requires c =
    let found = subst (λ t. FindsNeedle t c.run.result.now 0 c.find.result) c.as_bytes.ensures.value c.find.ensures in
    subst (λ r. FindsNeedle c.args.text.now r 0 c.find.result) c.run.ensures found
