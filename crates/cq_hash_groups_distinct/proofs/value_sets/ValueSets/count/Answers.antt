use Rattle.std.proofs.Common.{◌≡◌, List, [], length, get_or, arith, rules, ◌∙◌, ap}
use Rattle.std.proofs.lemmas.Grind.{common_steps}
use Rattle.cq_values.specs.declared.value.Value.{Value}
use Rattle.cq_hash_groups_distinct.proofs.SetsPut.{size-at}
use Rattle.cq_hash_groups_distinct.proofs.value_sets.ValueSets.count.Goals as goal

pub returns-in-Some : goal.returns-in-Some
returns-in-Some c =
    let met = c.self.inside.met in
    let counts = c.self.inside.counts.items in
    let read : c.in-Some.count.now ≡ get_or counts c.args.group 0 = first_of (search rules, grind (arith, common_steps)) in
    read ∙ size-at met.width met.keys counts c.args.group c.self.invariant ∙ ap (λ (sets : List (List Value)). length (get_or sets c.args.group [])) c.self.view_is

pub returns-in-None : goal.returns-in-None
returns-in-None c =
    let met = c.self.inside.met in
    let counts = c.self.inside.counts.items in
    let none : 0 ≡ get_or counts c.args.group 0 = first_of (search rules, grind (arith, common_steps)) in
    none ∙ size-at met.width met.keys counts c.args.group c.self.invariant ∙ ap (λ (sets : List (List Value)). length (get_or sets c.args.group [])) c.self.view_is
