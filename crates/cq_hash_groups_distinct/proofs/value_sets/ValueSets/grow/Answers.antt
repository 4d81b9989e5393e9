use Rattle.std.proofs.Common.{◌≡◌, ℕ, ◌-◌, ◌++◌, List, [], length, replicate, arith, rules, ◌∙◌, ap}
use Rattle.std.proofs.lemmas.Result.{on_ok_weaker}
use Rattle.cq_values.specs.declared.value.Value.{Value}
use Rattle.cq_hash_groups_sums.specs.Puts.{grown}
use Rattle.cq_hash_groups_distinct.specs.Sets.{sets_in}
use Rattle.cq_hash_groups_distinct.proofs.SetsPut.{more-groups}
use Rattle.cq_hash_groups_distinct.proofs.value_sets.ValueSets.grow.Goals as goal

pub returns-clause-ok : goal.returns-clause-ok
returns-clause-ok c =
    let met = c.self.inside.met in
    let counts = c.self.inside.counts.items in
    let groups = c.args.groups in
    let many : c.len.result ≡ length counts = first_of (search rules, omega arith) in
    let missing : c.saturating_sub-missing.result ≡ groups - length counts = c.saturating_sub-missing.ensures ∙ ap (λ (n : ℕ). groups - n) many in
    on_ok_weaker c.push_zeros.result
    (λ items.
    ap (λ (cs : List ℕ). sets_in (length cs) met.keys) (items ∙ ap (λ (n : ℕ). counts ++ replicate n 0) missing)
    ∙ more-groups met.width met.keys counts groups c.self.invariant
    ∙ ap (grown {S = List Value} [] groups) c.self.view_is)
    c.push_zeros.ensures.ok
