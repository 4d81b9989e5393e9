use Rattle.std.proofs.Common.{◌≡◌, ℕ, List, [], length, take, arith, rules, sym, ◌∙◌, ap, subst}
use Rattle.cq_values.specs.declared.value.Value.{Value}
use Rattle.cq_hash_keys.specs.Keys.{StoredKeys}
use Rattle.cq_hash_groups_sums.specs.Puts.{AreNumbers, put_all}
use Rattle.cq_hash_groups_distinct.specs.Sets.{AreCounted, AreSizes, put_value}
use Rattle.cq_hash_groups_distinct.proofs.SetsPut.{front-sizes, many-sets, more-keys, none-counted, sets-put, still-counted}
use Rattle.cq_hash_groups_distinct.proofs.value_sets.ValueSets.put.Goals as goal

pub meet-met-requires-clause-there : goal.meet-met-requires-clause-there
meet-met-requires-clause-there c =
    let counts = c.self.inside.counts.items in
    let many : length counts ≡ c.len.result = first_of (search rules, omega arith) in
    subst (λ (n : ℕ). AreNumbers n c.args.numbers.now) (sym (ap (λ (sets : List (List Value)). length sets) c.self.view_is) ∙ many-sets (length counts) c.self.inside.met.keys ∙ many) c.requires.there

pub count_new-requires-clause-from : goal.count_new-requires-clause-from
count_new-requires-clause-from c =
    let most = more-keys c.self.inside.met c.meet-met.new.met c.self.inside.counts.items c.args.numbers.now c.args.values.now c.self.invariant c.in-Ok.ensures in
    omega (arith, most, c.len-before.ensures)

pub count_new-requires-clause-sizes : goal.count_new-requires-clause-sizes
count_new-requires-clause-sizes c =
    let new = c.meet-met.new.met in
    let counts = c.self.inside.counts.items in
    subst (λ (n : ℕ). AreSizes (take n new.keys) counts) (sym c.len-before.ensures) (front-sizes c.self.inside.met new counts c.args.numbers.now c.args.values.now c.self.invariant c.in-Ok.ensures)

pub invariant_of-self : goal.invariant_of-self
invariant_of-self c =
    let counts = c.self.inside.counts.items in
    let numbers = c.args.numbers.now in
    let many = sym (ap (λ (sets : List (List Value)). length sets) c.self.view_is) ∙ many-sets (length counts) c.self.inside.met.keys in
    let there : AreNumbers (length counts) numbers = subst (λ (n : ℕ). AreNumbers n numbers) many c.requires.there in
    still-counted c.self.inside.met c.meet-met.new.met counts numbers c.args.values.now c.self.invariant c.in-Ok.ensures c.count_new.new.counts.items there c.count_new.ensures.sizes c.count_new.ensures.same

pub invariant_of-self-in-Err : goal.invariant_of-self-in-Err
invariant_of-self-in-Err c =
    let none : c.clear.new.self.items ≡ [] = first_of (search rules, grind arith) in
    subst (λ (counts : List ℕ). AreCounted c.new.result.width c.new.result.keys counts) (sym none)
    (subst (λ (t : StoredKeys). AreCounted t.width t.keys []) (sym c.new.ensures) none-counted)

pub returns-in-Ok : goal.returns-in-Ok
returns-in-Ok c =
    let counts = c.self.inside.counts.items in
    let numbers = c.args.numbers.now in
    let values = c.args.values.now in
    let many = sym (ap (λ (sets : List (List Value)). length sets) c.self.view_is) ∙ many-sets (length counts) c.self.inside.met.keys in
    let there : AreNumbers (length counts) numbers = subst (λ (n : ℕ). AreNumbers n numbers) many c.requires.there in
    sets-put c.self.inside.met c.meet-met.new.met counts numbers values c.self.invariant c.in-Ok.ensures c.count_new.new.counts.items there c.count_new.ensures.sizes c.count_new.ensures.same c.width-width.ensures.wide
    ∙ ap (put_all put_value [] numbers values) c.self.view_is
