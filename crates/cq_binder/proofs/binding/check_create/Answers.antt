use Rattle.std.proofs.Common.{◌≡◌, ℕ, false, rules, List, [], map}
use Rattle.std.proofs.lemmas.Result.{err_from_is_err_and}
use Rattle.cq_binder_rules.specs.Scopes.{place_in}
use Rattle.cq_binder_rules.specs.Refusal.{create_checks, sort_checks}
use Rattle.cq_model_state.specs.State.{is_taken}
use Rattle.cq_binder_queries.specs.Catalog.{alone}
use Rattle.cq_binder.proofs.Creating.{columns_refused, length_refused, sort_decides}
use Rattle.cq_binder_queries.proofs.Faults.{walked_same}
use Rattle.cq_binder.proofs.binding.check_create.Goals as goal

pub returns-in_err-check_names : goal.returns-in_err-check_names
returns-in_err-check_names g c =
    let p = err_from_is_err_and c.from_residual.result c.from_residual.ensures.1 in
    let tables = g.C.Catalog.tables c.args.catalog.now in
    let views = g.C.Catalog.views c.args.catalog.now in
    let free : is_taken c.args.name.now (alone tables views) ≡ false = search rules in
    rw (p.1, p.2) (columns_refused c.args.name.now c.args.columns.now c.args.sort.now tables views free c.in_err-check_names.field-0.0 c.in_err-check_names.ensures)

pub returns-in_err-check_length : goal.returns-in_err-check_length
returns-in_err-check_length g c =
    let p = err_from_is_err_and c.from_residual-in_err-check_length.result c.from_residual-in_err-check_length.ensures.1 in
    let tables = g.C.Catalog.tables c.args.catalog.now in
    let views = g.C.Catalog.views c.args.catalog.now in
    let free : is_taken c.args.name.now (alone tables views) ≡ false = search rules in
    rw (p.1, p.2) (length_refused c.args.name.now c.args.columns.now c.args.sort.now tables views free c.in_err-check_length.field-0.0 c.in_ok-check_names.ensures.0 c.in_err-check_length.ensures)

pub returns : goal.returns
returns g c =
    let columns = c.args.columns.now in
    let tables = g.C.Catalog.tables c.args.catalog.now in
    let views = g.C.Catalog.views c.args.catalog.now in
    let free : is_taken c.args.name.now (alone tables views) ≡ false = search rules in
    walked_same (sort_checks columns [] c.args.sort.now) (create_checks c.args.name.now columns c.args.sort.now (alone tables views)) (λ (places : List ℕ). places ≡ map (place_in columns) c.args.sort.now) c.sort_columns.result
    (sort_decides c.args.name.now columns c.args.sort.now tables views free c.in_ok-check_names.ensures.0 c.in_ok-check_length.ensures.0) c.sort_columns.ensures
