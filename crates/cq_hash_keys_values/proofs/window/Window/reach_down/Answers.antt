use Rattle.std.proofs.Common.{rules}
use Rattle.cq_hash_keys_values.proofs.Windows.{lower}
use Rattle.cq_hash_keys_values.proofs.window.Window.reach_down.Goals as goal

pub returns-in_ok-self : goal.returns-in_ok-self
returns-in_ok-self c = search (rules, lower)
