use Rattle.std.proofs.Common.{◌∙◌, ap, refl, sym, List, ℕ}
use Rattle.cq_binder_rules.specs.Fields.{typed_field}
use Rattle.cq_csvio_read.proofs.Fields.{field_numeric, field_typed, no_text, null_field}
use Rattle.cq_csvio_read.proofs.field.read_field.Goals as goal

pub returns-then-is_null : goal.returns-then-is_null
returns-then-is_null c =
    c.null_in.ensures ∙ sym (null_field c.args.at c.args.column.now c.args.field.now (sym c.is_null.ensures ∙ c.if-is_null.true))

pub returns-in-Integer : goal.returns-in-Integer
returns-in-Integer c =
    c.read_number.ensures ∙ sym (field_numeric c.args.at c.args.column.now c.args.field.now c.in-Integer.is (sym c.is_null.ensures ∙ c.if-is_null.false))

pub returns-in-Ok : goal.returns-in-Ok
returns-in-Ok c =
    let typed = field_typed c.args.at c.args.column.now c.args.field.now c.in-Ok.ensures.cases.1 c.args.column.now.ty refl (sym c.is_null.ensures ∙ c.if-is_null.false) in
    c.read_typed.ensures ∙ ap (λ (t : List ℕ). typed_field c.args.at c.args.column.now.ty t) c.in-Ok.ensures.cases.0 ∙ sym typed

pub returns-in-Err : goal.returns-in-Err
returns-in-Err c = sym (no_text c.args.at c.args.column.now c.args.field.now c.in-Err.ensures.cases.0)
