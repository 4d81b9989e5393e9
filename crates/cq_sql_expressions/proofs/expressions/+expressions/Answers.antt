use Rattle.std.proofs.Common.{◌≡◌, ◌-◌, Option, List, ◌∷◌, ◌++◌, [], length, map, arith, rules, sym, subst, ◌∙◌, length-append}
use Rattle.std.proofs.lemmas.Result.{err_from_is_err_and}
use Rattle.std.proofs.lemmas.List.{map-append, length-map}
use Rattle.cq_sql_language.specs.declared.token.Token.{Token}
use Rattle.cq_sql_language.specs.Written.{Written, written, terms}
use Rattle.cq_sql_expressions.specs.Gives.{Fails}
use Rattle.cq_sql_expressions.specs.Chains.{after_separator, separated_part, more_parts, signed_term, more_terms}
use Rattle.cq_sql_expressions.specs.Expressions.{part_of, product_of, readers}
use Rattle.cq_sql_expressions.proofs.Chains.{runs_out}
use Rattle.cq_sql_expressions.proofs.Terms.{term_goes_on, term_fails, term_stops, product_is}
use Rattle.cq_sql_expressions.proofs.Turns.{entry_goes_on, entry_fails, entries_stop}
use Rattle.cq_sql_expressions.proofs.Depths.{choices_shut, choices_inside, expression_inside, sum_inside}
use Rattle.cq_sql_expressions.proofs.expressions.+expressions.Goals as goal

pub more_parts-returns-in_err-part-in-Some : goal.more_parts-returns-in_err-part-in-Some
more_parts-returns-in_err-part-in-Some t c =
    let p = err_from_is_err_and c.from_residual.result c.from_residual.ensures.1 in
    rw (p.1, p.2) (entry_fails (after_separator c.args.separator) (part_of (readers c.args.depth) c.args.separator) (map written c.loop.parts.items) (length c.args.tokens.now) c.loop.counter c.loop.rest.now (more_parts c.args.separator (part_of (readers c.args.depth) c.args.separator) (map written c.args.before.items) c.args.tokens.now) c.loop-test.true c.loop.invariant c.in_err-part-in-Some.field-0.0 c.in-Some.after.now (sym c.in-Some.ensures) c.in_err-part-in-Some.ensures)

pub more_parts-returns-in-None : goal.more_parts-returns-in-None
more_parts-returns-in-None t c =
    entries_stop (after_separator c.args.separator) (part_of (readers c.args.depth) c.args.separator) (map written c.loop.parts.items) (length c.args.tokens.now) c.loop.counter c.loop.rest.now (more_parts c.args.separator (part_of (readers c.args.depth) c.args.separator) (map written c.args.before.items) c.args.tokens.now) c.loop-test.true c.loop.invariant (sym c.in-None.ensures)

pub more_parts-loop-preserved : goal.more_parts-loop-preserved
more_parts-loop-preserved t c =
    rw (c.in_ok-push-in-Some.ensures.items, map-append written c.loop.parts.items (c.in_ok-part-in-Some.part ∷ [])) (entry_goes_on (after_separator c.args.separator) (part_of (readers c.args.depth) c.args.separator) (map written c.loop.parts.items) (length c.args.tokens.now) c.loop.counter c.loop.rest.now (more_parts c.args.separator (part_of (readers c.args.depth) c.args.separator) (map written c.args.before.items) c.args.tokens.now) c.loop-test.true c.loop.invariant c.in-Some.after.now c.in_ok-part-in-Some.next.now (written c.in_ok-part-in-Some.part) (sym c.in-Some.ensures) c.in_ok-part-in-Some.ensures)

pub more_parts-returns : goal.more_parts-returns
more_parts-returns t c =
    sym c.loop.invariant ∙ runs_out (separated_part c.args.separator (part_of (readers c.args.depth) c.args.separator)) (length c.args.tokens.now - c.loop.counter) (map written c.loop.parts.items) c.loop.rest.now (omega arith)

pub more_terms-returns-in-Err : goal.more_terms-returns-in-Err
more_terms-returns-in-Err t c =
    let failed = subst (λ (read : Option (Written × List Token)). Fails c.in-Err.fault read) (product_is (readers c.args.depth) c.in-Some.after.now) c.in-Err.ensures in
    term_fails (product_of (readers c.args.depth)) (written c.args.first) c.loop.signs.items (map written c.loop.terms.items) (length c.args.tokens.now) c.loop.counter c.loop.rest.now (more_terms (product_of (readers c.args.depth)) (written c.args.first) c.args.tokens.now) c.loop-test.true c.loop.invariant.0 c.in-Err.fault c.in-Some.sign c.in-Some.after.now (sym c.in-Some.ensures) failed

pub more_terms-returns-in-None : goal.more_terms-returns-in-None
more_terms-returns-in-None t c =
    rw c.in_ok-summed-in-None.ensures (term_stops (product_of (readers c.args.depth)) (written c.args.first) c.loop.signs.items (map written c.loop.terms.items) (length c.args.tokens.now) c.loop.counter c.loop.rest.now (more_terms (product_of (readers c.args.depth)) (written c.args.first) c.args.tokens.now) c.loop-test.true c.loop.invariant.0 (sym c.in-None.ensures))

pub more_terms-loop-preserved : goal.more_terms-loop-preserved
more_terms-loop-preserved t c =
    let read = sym (product_is (readers c.args.depth) c.in-Some.after.now) ∙ c.in-Ok.ensures in
    let same : length c.loop.signs.items ≡ length (map written c.loop.terms.items) = c.loop.invariant.1 ∙ sym (length-map c.loop.terms.items written) in
    let so_far = term_goes_on (product_of (readers c.args.depth)) (written c.args.first) c.loop.signs.items (map written c.loop.terms.items) (length c.args.tokens.now) c.loop.counter c.loop.rest.now (more_terms (product_of (readers c.args.depth)) (written c.args.first) c.args.tokens.now) c.loop-test.true c.loop.invariant.0 c.in-Some.sign c.in-Some.after.now c.in-Ok.read.1.now (written c.in-Ok.read.0) same (sym c.in-Some.ensures) read in
    let counts : length (c.loop.signs.items ++ c.in-Some.sign ∷ []) ≡ length (c.loop.terms.items ++ c.in-Ok.read.0 ∷ [])
    = omega (arith, c.loop.invariant.1, length-append c.loop.signs.items (c.in-Some.sign ∷ []), length-append c.loop.terms.items (c.in-Ok.read.0 ∷ [])) in
    rw (c.in-Ok-add_term.ensures.sign, c.in-Ok-add_term.ensures.term, map-append written c.loop.terms.items (c.in-Ok.read.0 ∷ [])) (so_far, counts)

pub more_terms-returns : goal.more_terms-returns
more_terms-returns t c =
    rw c.in_ok-summed.ensures (sym c.loop.invariant.0 ∙ runs_out (signed_term (product_of (readers c.args.depth))) (length c.args.tokens.now - c.loop.counter) (terms (written c.args.first) c.loop.signs.items (map written c.loop.terms.items)) c.loop.rest.now (omega arith))

pub entries_at-returns-then-depth-eq0 : goal.entries_at-returns-then-depth-eq0
entries_at-returns-then-depth-eq0 t c = choices_shut c.args.depth c.args.tokens.now (omega arith)

pub entries_at-returns-in_err-first : goal.entries_at-returns-in_err-first
entries_at-returns-in_err-first t c = rw (choices_inside c.args.depth c.args.tokens.now (omega arith)) (search rules)

pub entries_at-returns : goal.entries_at-returns
entries_at-returns t c = rw (choices_inside c.args.depth c.args.tokens.now (omega arith)) (search rules)

pub content_at-returns-in-Parens : goal.content_at-returns-in-Parens
content_at-returns-in-Parens t c = rw (c.in-Parens.is, expression_inside c.args.depth c.args.tokens.now (omega arith)) c.chain_at.ensures

pub content_at-returns-in-Extract : goal.content_at-returns-in-Extract
content_at-returns-in-Extract t c = rw (sum_inside c.args.depth (omega arith)) (search rules)

pub content_at-returns-in-Aggregate : goal.content_at-returns-in-Aggregate
content_at-returns-in-Aggregate t c = rw (sum_inside c.args.depth (omega arith)) (search rules)
