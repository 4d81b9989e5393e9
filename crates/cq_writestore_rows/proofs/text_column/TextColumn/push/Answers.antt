use Rattle.std.proofs.Common.{◌∙◌, ◌∷◌, ◌++◌, [], List, Bool, ℕ, ap, ap₂, arith, length}
use Rattle.cq_values.specs.Lent.{owned}
use Rattle.cq_values.specs.Value.{is_null}
use Rattle.cq_values.specs.declared.value.Value.{Value}
use Rattle.cq_vectors_stored.specs.Columns.{text_unless}
use Rattle.cq_encodings_plain.proofs.Zipped.{length-zipped}
use Rattle.std.specs.Simd.Lanes.{zip2}
use Rattle.cq_writestore_rows.proofs.Zipped.{zip_more}
use Rattle.cq_writestore_rows.proofs.text_column.TextColumn.push.Goals as goal

pub push-requires-in-Some : goal.push-requires-in-Some
push-requires-in-Some c =
    let inside = c.self.inside in
    omega (arith, c.requires, c.self.invariant.0, ap length c.self.view_is, length-zipped text_unless inside.texts inside.nulls c.self.invariant.0)

pub returns-in_ok-push-in-Some-clause-ok : goal.returns-in_ok-push-in-Some-clause-ok
returns-in_ok-push-in-Some-clause-ok c =
    let inside = c.self.inside in
    let flag = is_null (owned c.args.value.now) in
    let flags = c.push-in-Some.ensures ∙ ap (λ (b : Bool). inside.nulls ++ b ∷ []) c.is_null.ensures in
    ap₂ (λ (ts : List (List ℕ)) (fs : List Bool). zip2 text_unless ts fs) c.in_ok-push-in-Some.ensures.ok flags
    ∙ zip_more text_unless inside.texts inside.nulls c.in-Some.text.now flag (owned c.args.value.now) c.self.invariant.0 c.in-Some.ensures.same
    ∙ ap (λ (vs : List Value). vs ++ owned c.args.value.now ∷ []) c.self.view_is
