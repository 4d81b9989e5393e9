use Rattle.std.proofs.Common.{◌++◌}
use Rattle.std.proofs.lemmas.Result.{on_ok_weaker}
use Rattle.cq_vectors.specs.Batch.{rows_of}
use Rattle.cq_operators_listing.proofs.listing.Listing.add.Goals as goal

-- what is left by the cut lists what was appended too
pub returns-clause-ok : goal.returns-clause-ok
returns-clause-ok c =
    on_ok_weaker c.cut.result
    (λ cut all can. cut (all ++ rows_of c.args.batch.now) (c.in_ok-append_shown.ensures.ok all can))
    c.cut.ensures.ok
