use Rattle.std.proofs.Common.{◌≡◌, drop}
use Rattle.cq_model_bags.specs.Bag.{once_each}
use Rattle.cq_model.specs.Meaning.{chain}
use Rattle.cq_test_plain.specs.SourceRows.{lent_bags}
use Rattle.cq_test_plain.proofs.answering.chain.Given as goal

-- the joins that are left complete the rows
abbrev pub invariant-loop-join : goal.invariant-loop-join
invariant-loop-join l = chain (lent_bags l.sources) (once_each l.rows.items) (drop l.join-index l.joins) ≡ chain (lent_bags l.sources) (once_each l.initial.rows.items) l.joins
