use Rattle.std.proofs.Common.{◌∙◌, sym}
use Rattle.cq_operators_listing.proofs.Truths.{none_kept}
use Rattle.cq_operators_listing.proofs.places.keep_places.Goals as goal

-- nothing is True
pub returns-then-len-eq0 : goal.returns-then-len-eq0
returns-then-len-eq0 c = none_kept c.args.truths.now c.set_true.new.self c.args.places.now c.set_true.ensures (sym c.len.ensures.len ∙ c.if-len-eq0.true)
