use Rattle.std.proofs.Common.{◌≡◌, ℕ, ◌+◌, ◌<◌, ◌≤◌, length, get_or, set, arith, rules, sym, ◌∙◌, subst}
use Rattle.std.proofs.lemmas.List.{get_or_default}
use Rattle.cq_values.specs.Lent.{owned}
use Rattle.cq_hash_groups_distinct.specs.Sets.{CountsValue}
use Rattle.cq_hash_groups_distinct.proofs.Counted.{counts-at, counts-none}
use Rattle.cq_hash_groups_distinct.proofs.counting.count_value.Goals as goal

pub returns-then-group-len-clause-counts : goal.returns-then-group-len-clause-counts
returns-then-group-len-clause-counts c =
    let counts = c.args.counts.now.items in
    let n = c.in-Some.group in
    let number = owned c.args.group.now in
    let value = owned c.args.value.now in
    let lt : n < length counts = first_of (omega arith, search (rules, arith)) in
    let read : c.index.result.now ≡ get_or counts n 0 = c.index.ensures ∙ get_or_default counts n c.index.result.now 0 lt in
    subst (λ (x : ℕ). CountsValue number value counts (set counts n (x + 1))) (sym read) (counts-at number value counts n c.in-Some.ensures (sym c.if-is_null.ensures) lt)

pub returns-else-group-len-clause-counts : goal.returns-else-group-len-clause-counts
returns-else-group-len-clause-counts c =
    let counts = c.args.counts.now.items in
    counts-none (owned c.args.group.now) (owned c.args.value.now) counts
    (λ group lt is.
    let e : c.in-Some.group ≡ group = cc (sym c.in-Some.ensures ∙ is) in
    let past : length counts ≤ c.in-Some.group = first_of (omega arith, search (rules, arith)) in
    omega (arith, lt, e, past))

pub returns-in_default-clause-counts : goal.returns-in_default-clause-counts
returns-in_default-clause-counts c =
    let counts = c.args.counts.now.items in
    counts-none (owned c.args.group.now) (owned c.args.value.now) counts (λ group lt is. c.in_default.ensures group (omega (arith, lt)) is)
