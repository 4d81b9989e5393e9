-- Values as they were first met.
use Rattle.std.specs.Prelude.{List, map}
use Rattle.cq_values.specs.declared.value.Value.{Value}
use Rattle.cq_values.specs.declared.value.Value.TheVariants.{Number}
use Rattle.cq_hash_keys_values.specs.declared.kept.Kept.{Kept}
use Rattle.cq_hash_keys_values.specs.declared.kept.Kept.TheVariants as kept

-- the values, numbers of 64 bits or any
abbrev pub kept_values : Kept → List Value
kept_values (kept.Numbers numbers) = map Number numbers.items
kept_values (kept.Values values) = values.items
