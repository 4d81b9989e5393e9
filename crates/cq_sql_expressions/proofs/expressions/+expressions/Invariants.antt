use Rattle.std.proofs.Common.{◌≡◌, ◌+◌, ◌-◌, ◌*◌, map, length}
use Rattle.cq_sql_language.specs.Written.{written, terms}
use Rattle.cq_sql_expressions.specs.Lists.{chain_from}
use Rattle.cq_sql_expressions.specs.Chains.{separated_part, more_parts, signed_term, more_terms}
use Rattle.cq_sql_expressions.specs.Expressions.{part_of, product_of, readers}
use Rattle.cq_sql_expressions.proofs.Ranks.{operand_rank, part_rank}
use Rattle.cq_sql_expressions.proofs.expressions.+expressions.Given as goal

abbrev pub decreases-content_at : goal.decreases-content_at
decreases-content_at l = 18 * l.depth

abbrev pub decreases-entries_at : goal.decreases-entries_at
decreases-entries_at l = 18 * l.depth

abbrev pub decreases-choices_at : goal.decreases-choices_at
decreases-choices_at l = 18 * l.depth + 1

abbrev pub decreases-primary_at : goal.decreases-primary_at
decreases-primary_at l = 18 * l.depth + 1

abbrev pub decreases-factor_at : goal.decreases-factor_at
decreases-factor_at l = 18 * l.depth + 2

abbrev pub decreases-part_at : goal.decreases-part_at
decreases-part_at l = 18 * l.depth + part_rank l.separator

abbrev pub decreases-more_parts : goal.decreases-more_parts
decreases-more_parts l = 18 * l.depth + part_rank l.separator + 1

abbrev pub decreases-chain_at : goal.decreases-chain_at
decreases-chain_at l = 18 * l.depth + operand_rank l.operator + 2

abbrev pub decreases-more_terms : goal.decreases-more_terms
decreases-more_terms l = 18 * l.depth + 6

abbrev pub decreases-sum_at : goal.decreases-sum_at
decreases-sum_at l = 18 * l.depth + 7

abbrev pub decreases-tested : goal.decreases-tested
decreases-tested l = 18 * l.depth + 9

abbrev pub decreases-between_at : goal.decreases-between_at
decreases-between_at l = 18 * l.depth + 8

abbrev pub decreases-predicate_at : goal.decreases-predicate_at
decreases-predicate_at l = 18 * l.depth + 10

abbrev pub decreases-negation_at : goal.decreases-negation_at
decreases-negation_at l = 18 * l.depth + 11

-- the parts so far and what is still read make the whole
abbrev pub invariant-more_parts-loop : goal.invariant-more_parts-loop
invariant-more_parts-loop l =
    chain_from (separated_part l.separator (part_of (readers l.depth) l.separator)) (l.end - l.counter) (map written l.parts.items) l.rest
    ≡ more_parts l.separator (part_of (readers l.depth) l.separator) (map written l.fn.before.items) l.tokens

-- the terms so far and what is still read make the whole, and each later term has its sign
abbrev pub invariant-more_terms-loop : goal.invariant-more_terms-loop
invariant-more_terms-loop l =
    (chain_from (signed_term (product_of (readers l.depth))) (l.end - l.counter) (terms (written l.first) l.signs.items (map written l.terms.items)) l.rest
    ≡ more_terms (product_of (readers l.depth)) (written l.fn.first) l.tokens)
    × (length l.signs.items ≡ length l.terms.items)
