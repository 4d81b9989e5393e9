use Rattle.cq_hash_groups_slots.proofs.OneGroup.{counted-at_hand}
use Rattle.cq_hash_groups_slots.proofs.counts.count_at_hand.Goals as goal

pub returns : goal.returns
returns c = λ values known same. counted-at_hand c.args.group c.args.numbers.now values c.args.counts.now c.requires.group c.requires.one known same
