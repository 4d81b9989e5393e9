use Rattle.std.proofs.Common.{Bool, ap, rules, sym}
use Rattle.std.proofs.lemmas.Result.{err_from_is_err_and}
use Rattle.cq_binder_queries.proofs.Found.{table_absent, table_there}
use Rattle.cq_binder_rules.specs.Sources.{reads_behind}
use Rattle.cq_binder.proofs.CopiedFiles.{bad_file, copied, gave_nothing, long_name_unread, named_too_long, unwritten_bound}
use Rattle.cq_binder.proofs.copying.bind_copy.Goals as goal

pub returns-in_default-clause-bound : goal.returns-in_default-clause-bound
returns-in_default-clause-bound g c =
    let absent = rw c.as_str.ensures at c.in_default.ensures in
    unwritten_bound _ c.args.name.now c.args.file.now (g.C.Catalog.tables c.args.catalog.now) (g.C.Catalog.views c.args.catalog.now) _ _ (table_absent _ absent) (rw c.as_str-in_default.ensures at c.unwritten.ensures)

pub returns-in_err-check_file_name-clause-bound : goal.returns-in_err-check_file_name-clause-bound
returns-in_err-check_file_name-clause-bound g c =
    let p = err_from_is_err_and c.from_residual.result c.from_residual.ensures.1 in
    let t = table_there c.in-Some.table _ (rw c.as_str.ensures at c.in-Some.ensures) in
    rw (p.1, p.2) (named_too_long _ c.args.name.now c.args.file.now (g.C.Catalog.tables c.args.catalog.now) (g.C.Catalog.views c.args.catalog.now) _ t.0 t.1 c.in_err-check_file_name.field-0.0 c.in_err-check_file_name.ensures.passed)

pub returns-in_err-check_file_name-clause-reads : goal.returns-in_err-check_file_name-clause-reads
returns-in_err-check_file_name-clause-reads g c =
    let t = table_there c.in-Some.table _ (rw c.as_str.ensures at c.in-Some.ensures) in
    let unread = long_name_unread c.args.name.now c.args.file.now (g.C.Catalog.tables c.args.catalog.now) (g.C.Catalog.views c.args.catalog.now) t.0 t.1 c.in_err-check_file_name.ensures.long in
    sym (ap (λ (b : Bool). reads_behind b (g.S.Sources.reads c.args.files.now)) unread)

pub returns-in_err-bytes-clause-bound : goal.returns-in_err-bytes-clause-bound
returns-in_err-bytes-clause-bound g c =
    let p = err_from_is_err_and c.from_residual-in_err-bytes.result c.from_residual-in_err-bytes.ensures.1 in
    let t = table_there c.in-Some.table _ (rw c.as_str.ensures at c.in-Some.ensures) in
    rw p.1 (gave_nothing _ c.args.name.now c.args.file.now (g.C.Catalog.tables c.args.catalog.now) (g.C.Catalog.views c.args.catalog.now) _ t.0 t.1 c.in_ok-check_file_name.ensures.passed.0 _ _ c.in_err-bytes.field-0.0 _ c.as_str-2.ensures c.in_err-bytes.ensures.read p.2)

pub returns-in_err-rows-clause-bound : goal.returns-in_err-rows-clause-bound
returns-in_err-rows-clause-bound g c =
    let p = err_from_is_err_and c.from_residual-in_err-rows.result c.from_residual-in_err-rows.ensures.1 in
    let t = table_there c.in-Some.table _ (rw c.as_str.ensures at c.in-Some.ensures) in
    rw (p.1, p.2)
    (bad_file _ c.args.name.now c.args.file.now (g.C.Catalog.tables c.args.catalog.now) (g.C.Catalog.views c.args.catalog.now) _ t.0 t.1 c.in_ok-check_file_name.ensures.passed.0 _ c.as_str-2.ensures _ c.in_ok-bytes.bytes c.in_ok-bytes.ensures.read c.in-Some.table.columns.now (ap (λ h. h.columns) t.2) c.as_slice.result.now (search rules) c.in_err-rows.field-0.0 c.in_err-rows.ensures)

pub returns-clause-bound : goal.returns-clause-bound
returns-clause-bound g c =
    let t = table_there c.in-Some.table _ (rw c.as_str.ensures at c.in-Some.ensures) in
    copied _ c.args.name.now c.args.file.now (g.C.Catalog.tables c.args.catalog.now) (g.C.Catalog.views c.args.catalog.now) _ t.0 t.1 c.in_ok-check_file_name.ensures.passed.0 _ c.as_str-2.ensures _ c.in_ok-bytes.bytes c.in_ok-bytes.ensures.read c.in-Some.table.columns.now (ap (λ h. h.columns) t.2) c.as_slice.result.now (search rules)
    c.in-Some.table.number c.in_ok-rows.rows (ap (λ h. h.number) t.2) c.in_ok-rows.ensures
