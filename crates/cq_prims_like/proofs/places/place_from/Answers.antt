use Rattle.std.proofs.Common.{subst}
use Rattle.std.specs.Prelude.{Some, None}
use Rattle.memchr.specs.Find.{FindsNeedle}
use Rattle.cq_prims_like.proofs.PieceLemmas.{whole_rest}
use Rattle.cq_prims_like.proofs.PlaceLemmas.{none_from, first_from}
use Rattle.cq_prims_like.proofs.places.place_from.Goals as goal

pub returns-in_err-at : goal.returns-in_err-at
returns-in_err-at c =
    let bytes = c.args.bytes.now in
    let run = c.args.run.now in
    rw c.from_residual.ensures
    (none_from run bytes c.args.from c.requires (subst (λ hay. FindsNeedle hay run 0 None) (whole_rest bytes c.args.from) c.in_err-at.ensures))

pub returns : goal.returns
returns c =
    let bytes = c.args.bytes.now in
    let run = c.args.run.now in
    let at = c.in_ok-at.at in
    first_from run bytes c.args.from c.requires at (subst (λ hay. FindsNeedle hay run 0 (Some at)) (whole_rest bytes c.args.from) c.in_ok-at.ensures)
