use Rattle.std.proofs.Common.{◌∙◌, ◌<◌, ◌++◌, ◌∷◌, [], ap, arith, length, sym, take}
use Rattle.std.proofs.lemmas.List.{length-take-le, take_all, take_more}
use Rattle.std.proofs.lemmas.Result.{on_ok_weaker}
use Rattle.cq_segments_pieces.specs.Rows.{row_of}
use Rattle.cq_values.specs.Lent.{owned}
use Rattle.cq_values.specs.declared.value.Value.{Value}
use Rattle.cq_values.specs.declared.value.Value.TheVariants.{Null}
use Rattle.cq_writestore_rows.specs.Filling.{Filled}
use Rattle.cq_writestore_rows.proofs.filling.Filling.push_row.Goals as goal

pub push-requires : goal.push-requires
push-requires c =
    let row = row_of c.args.row.now in
    let i = c.loop-column.column in
    let inv = c.loop-column.invariant in
    let lt : i < length row = omega (arith, c.loop-column-test.true, c.len-column-end.ensures) in
    omega (arith, lt, ap length inv.begun, length-take-le i row (omega (arith, lt)), inv.wide, c.requires.wide.0)

pub loop-column-preserved : goal.loop-column-preserved
loop-column-preserved c =
    let row = row_of c.args.row.now in
    let i = c.loop-column.column in
    let inv = c.loop-column.invariant in
    let lt : i < length row = omega (arith, c.loop-column-test.true, c.len-column-end.ensures) in
    let is = c.in_ok-push.ensures in
    record {
      rows = ap (λ (f : Filled). f.rows) is ∙ inv.rows;
      begun = ap (λ (f : Filled). f.begun) is ∙ ap (λ l. l ++ owned c.lend.result ∷ []) inv.begun ∙ ap (λ (v : Value). take i row ++ v ∷ []) c.lend.ensures ∙ sym (take_more row i Null lt);
      wide = ap (λ (f : Filled). f.width) is ∙ inv.wide;
    }

pub end_row-requires : goal.end_row-requires
end_row-requires c =
    let row = row_of c.args.row.now in
    let i = c.loop-column.column in
    let inv = c.loop-column.invariant in
    omega (arith, ap length (inv.begun ∙ take_all i row (omega (arith, c.loop-column-test.false, c.len-column-end.ensures))), inv.wide, c.requires.wide.0)

pub returns : goal.returns
returns c =
    let row = row_of c.args.row.now in
    let i = c.loop-column.column in
    let inv = c.loop-column.invariant in
    let begun = inv.begun ∙ take_all i row (omega (arith, c.loop-column-test.false, c.len-column-end.ensures)) in
    on_ok_weaker c.end_row.result
    (λ is. record {
      put = ap (λ (f : Filled). f.rows) is ∙ ap (λ l. l ++ c.loop-column.self.begun ∷ []) inv.rows ∙ ap (λ r. c.args.self.now.rows ++ r ∷ []) begun;
      none = ap (λ (f : Filled). f.begun) is;
      wide = ap (λ (f : Filled). f.width) is ∙ inv.wide;
    })
    c.end_row.ensures
