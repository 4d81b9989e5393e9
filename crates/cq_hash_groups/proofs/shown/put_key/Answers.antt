use Rattle.std.proofs.Common.{◌∙◌, List, [], ◌∷◌, ◌++◌, ap, ap₂, arith, length, length-append, sym}
use Rattle.std.proofs.lemmas.List.{take_all, take_more}
use Rattle.cq_values.specs.declared.value.Value.{Value}
use Rattle.cq_values.specs.declared.value.Value.TheVariants.{Null}
use Rattle.cq_values.specs.Lent.{owned}
use Rattle.cq_hash_keys.specs.Keys.{key_at}
use Rattle.cq_writestore_rows.specs.Filling.{Filled}
use Rattle.cq_hash_groups.proofs.shown.put_key.Goals as goal

pub loop-column-preserved : goal.loop-column-preserved
loop-column-preserved c =
    let key = key_at c.args.found.now.keys c.args.group in
    let begun = c.loop-column.filling.begun in
    let value = owned c.lend.result in
    let new = c.in_ok-push.ensures in
    record {
      rows = ap (λ (f : Filled). f.rows) new ∙ c.loop-column.invariant.rows;
      wide = ap (λ (f : Filled). f.width) new ∙ c.loop-column.invariant.wide;
      count = omega (arith, ap (λ (f : Filled). length f.begun) new, c.loop-column.invariant.count, length-append begun (value ∷ []));
      key = λ wide.
          ap (λ (f : Filled). f.begun) new ∙ ap₂ (λ (vs : List Value) (v : Value). vs ++ v ∷ []) (c.loop-column.invariant.key wide) c.lend.ensures
          ∙ sym (take_more key c.loop-column.column Null (omega (arith, wide, c.loop-column-test.true)));
    }

pub returns : goal.returns
returns c = record {
  rows = c.loop-column.invariant.rows;
  wide = c.loop-column.invariant.wide;
  count = omega (arith, c.loop-column.invariant.count, c.loop-column-test.false);
  values = λ wide.
      c.loop-column.invariant.key wide
      ∙ take_all c.loop-column.column (key_at c.args.found.now.keys c.args.group) (omega (arith, wide, c.loop-column-test.false));
}
