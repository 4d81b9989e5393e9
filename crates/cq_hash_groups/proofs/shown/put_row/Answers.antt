use Rattle.std.proofs.Common.{◌∙◌, ◌∷◌, [], ap, arith, length, length-append, sym}
use Rattle.std.proofs.lemmas.List.{append-nil}
use Rattle.cq_model_bags.proofs.Lists.{all-next}
use Rattle.cq_values.specs.Lent.{owned}
use Rattle.cq_hash_keys.specs.Keys.{key_at}
use Rattle.cq_hash_groups_slots.specs.Slots.{CanShow}
use Rattle.cq_writestore_rows.specs.Filling.{Filled}
use Rattle.cq_hash_groups.proofs.ShownRow.{shown-more}
use Rattle.cq_hash_groups.proofs.shown.put_row.Goals as goal

pub loop-each-init : goal.loop-each-init
loop-each-init c = record {
  rows = c.in_ok-put_key.ensures.rows;
  wide = c.in_ok-put_key.ensures.wide;
  count = omega (arith, c.in_ok-put_key.ensures.count);
  row = λ wide. c.in_ok-put_key.ensures.values wide ∙ sym (append-nil (key_at c.args.found.now.keys c.args.group));
  range = tt;
}

pub push-requires : goal.push-requires
push-requires c = omega (arith, c.loop-each.invariant.count, c.loop-each.invariant.wide, c.requires.ready.wide, c.loop-each-test.true)

pub loop-each-preserved : goal.loop-each-preserved
loop-each-preserved c =
    let key = key_at c.args.found.now.keys c.args.group in
    let begun = c.loop-each.filling.begun in
    let value = owned c.in-Ok.value in
    let slots = c.args.slots.now in
    let i = c.loop-each.each-index in
    let each = c.each-item.result in
    let lt = c.loop-each-test.true in
    let new = c.in_ok-push-in-Ok.ensures in
    record {
      rows = ap (λ (f : Filled). f.rows) new ∙ c.loop-each.invariant.rows;
      wide = ap (λ (f : Filled). f.width) new ∙ c.loop-each.invariant.wide;
      count = omega (arith, ap (λ (f : Filled). length f.begun) new, c.loop-each.invariant.count, length-append begun (value ∷ []));
      row = λ wide.
          ap (λ (f : Filled). f.begun) new
          ∙ shown-more c.args.group slots i each lt c.each-item.is key begun value (c.loop-each.invariant.row wide) c.in-Ok.ensures.value;
      range = all-next (CanShow c.args.group) slots i each lt c.each-item.is c.loop-each.invariant.range c.in-Ok.ensures.range;
    }
