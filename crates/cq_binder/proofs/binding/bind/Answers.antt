use Rattle.cq_binder.proofs.binding.bind.Goals as goal

pub returns-in-Copy-clause-bound : goal.returns-in-Copy-clause-bound
returns-in-Copy-clause-bound g c = rw c.in-Copy.is c.bind_copy.ensures.bound
