use Rattle.cq_test_plain.proofs.Agreeing.{listing-respects}
use Rattle.cq_test_plain.proofs.answering.answer_listed.Goals as goal

pub returns-clause-listing : goal.returns-clause-listing
returns-clause-listing c = listing-respects _ _ _ _ _ c.in_ok-rows.ensures.same_bag c.in_ok-listing.ensures
