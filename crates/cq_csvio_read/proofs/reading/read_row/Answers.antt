use Rattle.std.proofs.Common.{◌∙◌, ◌∷◌, [], arith, length-append, sym}
use Rattle.std.proofs.lemmas.Result.{err_from_is_err_and}
use Rattle.csv.specs.Records.{fields_of}
use Rattle.cq_binder_rules.specs.Records.{field_values, record_row}
use Rattle.cq_csvio_read.proofs.Walk.{field_given, field_missing, field_refused, of_width}
use Rattle.cq_csvio_read.proofs.reading.read_row.Goals as goal

pub returns-in_err-put_field-in-Some-clause-err : goal.returns-in_err-put_field-in-Some-clause-err
returns-in_err-put_field-in-Some-clause-err c =
    let p = err_from_is_err_and c.from_residual.result c.from_residual.ensures.1 in
    let inv = c.loop-i.invariant in
    let fields = fields_of c.args.«record».now in
    rw (p.1, p.2) (field_refused c.args.at c.args.columns.now fields c.loop-i.i c.index-columns-i.result c.in-Some.field.now c.loop-i-test.true c.index-columns-i.is (sym c.in-Some.ensures.value)
    (record_row c.args.columns.now c.args.at fields) c.loop-i.rows.begun (of_width c.args.at c.args.columns.now fields inv.wide ∙ inv.values) _ c.in_err-put_field-in-Some.ensures.err)

pub unreachable-requires : goal.unreachable-requires
unreachable-requires c =
    field_missing (fields_of c.args.«record».now) c.loop-i.i (omega (arith, c.loop-i.invariant.wide, c.loop-i-test.true)) (sym c.in-None.ensures.value)

pub loop-i-preserved : goal.loop-i-preserved
loop-i-preserved c =
    let inv = c.loop-i.invariant in
    let fields = fields_of c.args.«record».now in
    let put = c.in_ok-put_field-in-Some.ensures.ok in
    rw put.put (record {
      wide = inv.wide;
      width = inv.width;
      kept = inv.kept;
      so_far = omega (arith, inv.so_far, length-append c.loop-i.rows.begun (put.value ∷ []));
      values = field_given c.args.at c.args.columns.now fields c.loop-i.i c.index-columns-i.result c.in-Some.field.now c.loop-i-test.true c.index-columns-i.is (sym c.in-Some.ensures.value)
          (field_values c.args.at c.args.columns.now fields) c.loop-i.rows.begun inv.values put.value put.is;
    })
