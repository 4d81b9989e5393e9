use Rattle.std.proofs.Common.{◌≡◌, ◌∙◌, List, [], ap, arith, length, replicate, rules, subst, sym}
use Rattle.cq_segments_pieces.specs.Columns.{AreColumns, rows_of_columns}
use Rattle.cq_segments_pieces.specs.Marked.{unmarked}
use Rattle.cq_values.specs.declared.value.Value.{Value}
use Rattle.cq_writestore_rows.specs.TypedColumn.{values_in}
use Rattle.cq_writestore_rows.proofs.NextFilling.{filled_emptied, filled_ended, filling_emptied, filling_ended, filling_full, filling_lost}
use Rattle.cq_writestore_rows.proofs.filling.Filling.end_row.Goals as goal

pub invariant_of-self : goal.invariant_of-self
invariant_of-self c = filling_ended _ _ _ _ _ c.self.invariant _ c.self.view_is c.requires c.in_ok-count_more.ensures.ok c.if-self-lt1023.true

pub returns-then-self-lt1023 : goal.returns-then-self-lt1023
returns-then-self-lt1023 c = filled_ended _ _ _ _ _ c.self.invariant _ c.self.view_is c.requires c.in_ok-count_more.ensures.ok

pub piece_of-requires : goal.piece_of-requires
piece_of-requires c =
    let same : values_in c.replace-full.result.items ≡ values_in c.self.inside.columns.items = search rules in
    let full : c.self.inside.len ≡ 1023 = omega (arith, c.self.invariant.few, c.if-self-lt1023.false) in
    subst (λ l. AreColumns l 1024) (sym same) (filling_full _ _ _ _ _ c.self.invariant _ c.self.view_is c.requires c.in_ok-count_more.ensures.ok full)

pub invariant_of-self-in_err-push : goal.invariant_of-self-in_err-push
invariant_of-self-in_err-push c =
    let none : values_in c.replace-full.new.dest.items ≡ replicate (length c.self.inside.types.items) [] = search rules in
    filling_lost _ _ _ _ _ c.self.invariant _ c.in_err-push.ensures.items _ none

pub invariant_of-self-2 : goal.invariant_of-self-2
invariant_of-self-2 c =
    let none : values_in c.replace-full.new.dest.items ≡ replicate (length c.self.inside.types.items) [] = search rules in
    let full : c.self.inside.len ≡ 1023 = omega (arith, c.self.invariant.few, c.if-self-lt1023.false) in
    let same : values_in c.replace-full.result.items ≡ values_in c.self.inside.columns.items = search rules in
    let made = c.in_ok-piece_of.ensures ∙ ap (λ (l : List (List Value)). unmarked (rows_of_columns l 1024)) same in
    filling_emptied _ _ _ _ _ c.self.invariant _ c.self.view_is c.requires c.in_ok-count_more.ensures.ok full _ made _ c.in_ok-push.ensures.items _ none

pub returns : goal.returns
returns c =
    let none : values_in c.replace-full.new.dest.items ≡ replicate (length c.self.inside.types.items) [] = search rules in
    let full : c.self.inside.len ≡ 1023 = omega (arith, c.self.invariant.few, c.if-self-lt1023.false) in
    let same : values_in c.replace-full.result.items ≡ values_in c.self.inside.columns.items = search rules in
    let made = c.in_ok-piece_of.ensures ∙ ap (λ (l : List (List Value)). unmarked (rows_of_columns l 1024)) same in
    filled_emptied _ _ _ _ _ c.self.invariant _ c.self.view_is c.requires c.in_ok-count_more.ensures.ok full _ made _ c.in_ok-push.ensures.items _ none
