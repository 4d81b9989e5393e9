use Rattle.std.proofs.Common.{refl}
use Rattle.std.proofs.lemmas.Result.{on_ok_weaker}
use Rattle.cq_hash_keys_values.proofs.TextKeys.{puts-text}
use Rattle.cq_hash_keys_values.proofs.dictionary.Dictionary.put_text.Goals as goal

pub returns-clause-ok : goal.returns-clause-ok
returns-clause-ok c = on_ok_weaker c.put.result (puts-text c.args.self.now _ c.args.key.now c.args.number (λ m. refl) (λ d. refl) refl) c.put.ensures.ok
