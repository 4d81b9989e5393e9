use Rattle.std.proofs.Common.{◌≡◌, Option, Some}
use Rattle.std.proofs.lemmas.Result.{err_from_is_err_and}
use Rattle.cq_binder_rules.specs.Scopes.{Named, source_named}
use Rattle.cq_binder_queries.specs.Catalog.{state_of}
use Rattle.cq_binder_queries.specs.From.{may_stand, shown_from, shown_source}
use Rattle.cq_binder_queries.proofs.Joining.{first_refused, first_stands}
use Rattle.cq_binder_queries.proofs.from.start.Goals as goal

pub returns-in_err-check : goal.returns-in_err-check
returns-in_err-check g c =
    let p = err_from_is_err_and c.from_residual-in_err-check.result c.from_residual-in_err-check.ensures.1 in
    let f = c.args.source.now in
    let named : Option Named = source_named f.name (state_of g.C.Catalog.tables g.C.Catalog.views c.args.catalog.now) in
    let source = shown_source c.in_ok-found.found in
    let there : named ≡ Some source = rw c.as_str.ensures at c.in_ok-found.ensures in
    rw (p.1, p.2) (first_refused (may_stand c.args.allowed) f named source there c.in_err-check.field-0.0 c.in_err-check.ensures)

pub returns : goal.returns
returns g c =
    let f = c.args.source.now in
    let named : Option Named = source_named f.name (state_of g.C.Catalog.tables g.C.Catalog.views c.args.catalog.now) in
    let source = shown_source c.in_ok-found.found in
    let there : named ≡ Some source = rw c.as_str.ensures at c.in_ok-found.ensures in
    first_stands (may_stand c.args.allowed) f named source there (shown_from c.in_ok-first_of.field-0) c.in_ok-check.ensures.0 c.in_ok-first_of.ensures
