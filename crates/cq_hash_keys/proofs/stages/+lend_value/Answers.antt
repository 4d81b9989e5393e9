use Rattle.std.proofs.Common.{◌∙◌, ℕ, length, sym, ap, subst, rules}
use Rattle.cq_values.specs.Value.{column}
use Rattle.cq_hash_keys.specs.Stages.{IsWithinBoth, longest, singles}
use Rattle.cq_hash_keys.specs.Keys.{key_at}
use Rattle.cq_hash_keys.proofs.Lending.{before-are, earlier, latest, within}
use Rattle.cq_hash_keys.proofs.stages.+lend_value.Goals as goal

pub lend_value-requires : goal.lend_value-requires
lend_value-requires t c =
    let first = c.args.first.now in
    let before = c.in-Some.before.now in
    let stage = c.in-Some.stage.now in
    let split = c.in-Some.ensures.cases.0 in
    let both : IsWithinBoth (length (longest (singles first) before)) (length stage.values) c.pair-number.result =
    subst (IsWithinBoth (length (longest (singles first) before)) (length stage.values)) (sym c.pair-number.ensures) (within first before stage c.args.stages.now split c.requires.stages c.args.key c.requires.key) in
    (search rules, (before-are first before stage c.args.stages.now split c.requires.stages, (both.0, c.if-column-before.true)))

pub lend-requires-else-column-before : goal.lend-requires-else-column-before
lend-requires-else-column-before t c =
    let first = c.args.first.now in
    let before = c.in-Some.before.now in
    let stage = c.in-Some.stage.now in
    let both : IsWithinBoth (length (longest (singles first) before)) (length stage.values) c.pair-number.result =
    subst (IsWithinBoth (length (longest (singles first) before)) (length stage.values)) (sym c.pair-number.ensures)
    (within first before stage c.args.stages.now c.in-Some.ensures.cases.0 c.requires.stages c.args.key c.requires.key) in
    both.1

pub returns-then-column-before : goal.returns-then-column-before
returns-then-column-before t c =
    let first = c.args.first.now in
    let before = c.in-Some.before.now in
    let stage = c.in-Some.stage.now in
    c.lend_value.ensures
    ∙ ap (λ (p : ℕ × ℕ). column (key_at (longest (singles first) before) p.0) c.args.column) c.pair-number.ensures
    ∙ earlier first before stage c.args.stages.now c.in-Some.ensures.cases.0 c.requires.stages c.args.key c.requires.key c.args.column c.if-column-before.true

pub returns-else-column-before : goal.returns-else-column-before
returns-else-column-before t c =
    let first = c.args.first.now in
    let before = c.in-Some.before.now in
    let stage = c.in-Some.stage.now in
    c.lend-else-column-before.ensures
    ∙ ap (λ (p : ℕ × ℕ). column stage.values p.1) c.pair-number.ensures
    ∙ latest first before stage c.args.stages.now c.in-Some.ensures.cases.0 c.requires.stages c.args.key c.requires.key c.args.column c.if-column-before.false c.requires.column
