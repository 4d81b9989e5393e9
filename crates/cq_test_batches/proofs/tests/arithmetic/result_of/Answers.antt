use Rattle.cq_test_batches.proofs.SmallNumbers.{opposites_fit, products_fit, sums_fit}
use Rattle.cq_test_batches.proofs.tests.arithmetic.result_of.Goals as goal

pub add-requires-clause-fits : goal.add-requires-clause-fits
add-requires-clause-fits c = sums_fit c.args.a.now c.args.b.now c.requires.left c.requires.right

pub mul-requires-clause-fits : goal.mul-requires-clause-fits
mul-requires-clause-fits c = products_fit c.args.a.now c.args.b.now c.requires.left c.requires.right

pub neg-requires : goal.neg-requires
neg-requires c = opposites_fit c.args.a.now c.requires.left
