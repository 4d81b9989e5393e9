use Rattle.std.proofs.Common.{arith, ◌≡◌, ◌∙◌, sym, ap, Ok, length}
use Rattle.std.proofs.lemmas.Result.{err_from_is_err_and}
use Rattle.cq_binder_rules.specs.From.{From}
use Rattle.cq_binder_queries.specs.From.{may_stand, shown_from, shown_source}
use Rattle.cq_binder_queries.proofs.Joining.{equality_refused, joined_made, joins, may_join, source_refused, stand_behind}
use Rattle.cq_binder_queries.proofs.from.joined.Goals as goal

pub returns-in_err-check : goal.returns-in_err-check
returns-in_err-check c =
    let p = err_from_is_err_and c.from_residual.result c.from_residual.ensures.1 in
    let from = shown_from c.args.from in
    let may = may_join from c.args.join.now (shown_source c.args.found.now) c.known_as-known.result.now c.name.result.now c.deref.result.now c.bases.result c.is_known.result c.are_too_many.result c.known_as-known.ensures c.name.ensures c.deref.ensures.value c.is_known.ensures c.if-is_known.false c.bases.ensures c.are_too_many.ensures c.if-are_too_many.false in
    rw (p.1, p.2) (source_refused (may_stand c.args.allowed) from c.args.join.now (shown_source c.args.found.now) may.free may.few c.in_err-check.field-0.0 c.in_err-check.ensures)

pub returns-in_err-on : goal.returns-in_err-on
returns-in_err-on c =
    let p = err_from_is_err_and c.from_residual-in_err-on.result c.from_residual-in_err-on.ensures.1 in
    let from = shown_from c.args.from in
    let source = shown_source c.args.found.now in
    let may = may_join from c.args.join.now source c.known_as-known.result.now c.name.result.now c.deref.result.now c.bases.result c.is_known.result c.are_too_many.result c.known_as-known.ensures c.name.ensures c.deref.ensures.value c.is_known.ensures c.if-is_known.false c.bases.ensures c.are_too_many.ensures c.if-are_too_many.false in
    let wide = stand_behind from c.args.join.now source c.known_as-known.result.now c.push_columns.new.columns.items may c.in_ok-push_columns.ensures in
    let before : c.len-before.result ≡ length from.columns = omega (arith, c.len-before.ensures, c.args.from.columns.ok.0) in
    let e = rw (c.as_slice.ensures, before, c.deref-2.ensures.value, wide) at c.in_err-on.ensures in
    rw (p.1, p.2) (equality_refused (may_stand c.args.allowed) from c.args.join.now source may.free may.few c.in_ok-check.ensures.0 c.in_err-on.field-0.0 e)

pub returns : goal.returns
returns c =
    let from = shown_from c.args.from in
    let source = shown_source c.args.found.now in
    let may = may_join from c.args.join.now source c.known_as-known.result.now c.name.result.now c.deref.result.now c.bases.result c.is_known.result c.are_too_many.result c.known_as-known.ensures c.name.ensures c.deref.ensures.value c.is_known.ensures c.if-is_known.false c.bases.ensures c.are_too_many.ensures c.if-are_too_many.false in
    let wide = stand_behind from c.args.join.now source c.known_as-known.result.now c.push_columns.new.columns.items may c.in_ok-push_columns.ensures in
    let before : c.len-before.result ≡ length from.columns = omega (arith, c.len-before.ensures, c.args.from.columns.ok.0) in
    let on = rw (c.as_slice.ensures, before, c.deref-2.ensures.value, wide) at c.in_ok-on.ensures in
    joins (may_stand c.args.allowed) from c.args.join.now source may.free may.few c.in_ok-check.ensures.0 on.0
    ∙ ap (λ (f : From). Ok f) (sym (joined_made from c.args.join.now source c.push.new.self c.push_columns.new.columns.items c.in_ok-on.on c.source.result c.bases-2.result c.in_ok-push.ensures.ok wide on.1 c.source.ensures c.bases-2.ensures))
