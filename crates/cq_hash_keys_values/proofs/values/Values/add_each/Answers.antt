use Rattle.std.proofs.Common.{◌≡◌, ◌<◌, ◌∷◌, ◌++◌, [], length, get_or, sym, subst, arith, rules}
use Rattle.cq_values.specs.Lent.{owned}
use Rattle.cq_values.specs.declared.value.Value.TheVariants.{Null}
use Rattle.cq_hash_keys_values.specs.Met.{AreNumbersOf}
use Rattle.cq_hash_keys_values.specs.Values.{same_value}
use Rattle.cq_hash_keys_values.proofs.Meeting.{met-next, told-next}
use Rattle.cq_hash_keys_values.proofs.ValueKeys.{value-itself, value-same}
use Rattle.cq_hash_keys_values.proofs.values.Values.add_each.Goals as goal

pub loop-place-preserved : goal.loop-place-preserved
loop-place-preserved c =
    let column = c.args.column.now in
    let i = c.loop-place.place in
    let v = owned c.lend.result in
    let lt : i < length column = first_of (search rules, omega arith) in
    let is : v ≡ get_or column i Null = c.lend.ensures in
    let appended : c.push_reserved.new.self.items ≡ c.loop-place.numbers.items ++ c.in_ok-number.number ∷ [] = search rules in
    let made = c.in_ok-number.ensures.met in
    record {
      met = met-next same_value Null value-same value-itself c.args.self.now c.loop-place.self c.number.new.self column i v lt is made c.loop-place.invariant.met;
      told =
          subst (AreNumbersOf Null c.number.new.self _) (sym appended)
          (told-next same_value Null value-same value-itself c.loop-place.self c.number.new.self column i v c.loop-place.numbers.items c.in_ok-number.number lt is made c.in_ok-number.ensures.number c.loop-place.invariant.told);
      room = first_of (search rules, omega arith, grind arith);
    }
