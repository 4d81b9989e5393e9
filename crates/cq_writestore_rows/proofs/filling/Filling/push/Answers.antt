use Rattle.std.proofs.Common.{◌<◌, List, arith, length, subst, sym}
use Rattle.std.proofs.lemmas.List.{length-map}
use Rattle.cq_values.specs.Lent.{owned}
use Rattle.cq_values.specs.declared.value.Value.{Value}
use Rattle.cq_writestore_rows.specs.Filling.{IsFilling}
use Rattle.cq_writestore_rows.specs.TypedColumn.{column_values}
use Rattle.cq_writestore_rows.proofs.NextFilling.{filled_more, filling_more, has_column, values_more, values_stay}
use Rattle.cq_writestore_rows.proofs.filling.Filling.push.Goals as goal

pub invariant_of-self : goal.invariant_of-self
invariant_of-self c =
    let f = c.self.inside in
    let cols = f.columns.items in
    let lt : f.begun < length cols = omega (arith, has_column _ _ _ _ _ c.self.invariant _ c.self.view_is c.requires, length-map cols column_values) in
    let same = values_stay cols f.begun c.index_mut.result.now c.push.new.self lt (sym c.index_mut.ensures.value) c.in_err-push.ensures.err in
    subst (λ (l : List (List Value)). IsFilling f.pieces.items (length f.types.items) l f.begun f.len) (sym same) c.self.invariant

pub invariant_of-self-2 : goal.invariant_of-self-2
invariant_of-self-2 c =
    let f = c.self.inside in
    let cols = f.columns.items in
    let value = owned c.args.value.now in
    let lt : f.begun < length cols = omega (arith, has_column _ _ _ _ _ c.self.invariant _ c.self.view_is c.requires, length-map cols column_values) in
    let more = values_more cols f.begun c.index_mut.result.now c.push.new.self lt (sym c.index_mut.ensures.value) value c.in_ok-push.ensures.ok in
    filling_more _ _ _ _ _ c.self.invariant _ c.self.view_is c.requires value _ more

pub returns : goal.returns
returns c =
    let f = c.self.inside in
    let cols = f.columns.items in
    let value = owned c.args.value.now in
    let lt : f.begun < length cols = omega (arith, has_column _ _ _ _ _ c.self.invariant _ c.self.view_is c.requires, length-map cols column_values) in
    let more = values_more cols f.begun c.index_mut.result.now c.push.new.self lt (sym c.index_mut.ensures.value) value c.in_ok-push.ensures.ok in
    filled_more _ _ _ _ _ c.self.invariant _ c.self.view_is c.requires value _ more
