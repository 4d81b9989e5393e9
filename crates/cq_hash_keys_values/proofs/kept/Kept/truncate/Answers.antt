use Rattle.std.proofs.Common.{ap, arith, map, rules, sym, take, ◌≡◌, ◌∙◌}
use Rattle.std.proofs.lemmas.List.{take-map}
use Rattle.cq_values.specs.declared.value.Value.TheVariants.{Number}
use Rattle.cq_hash_keys_values.specs.Kept.{kept_values}
use Rattle.cq_hash_keys_values.specs.declared.kept.Kept.{Kept}
use Rattle.cq_hash_keys_values.proofs.kept.Kept.truncate.Goals as goal

pub returns-in-Numbers : goal.returns-in-Numbers
returns-in-Numbers c =
    let left : c.truncate.new.self.items ≡ take c.args.len c.in-Numbers.numbers.items = first_of (search rules, grind arith) in
    ap (map Number) left ∙ sym (take-map Number c.args.len c.in-Numbers.numbers.items) ∙ ap (λ (k : Kept). take c.args.len (kept_values k)) (sym c.in-Numbers.is)
