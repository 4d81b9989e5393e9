use Rattle.std.proofs.Common.{◌≡◌, ◌∙◌, ◌∷◌, ◌++◌, [], List, Bool, ℤ, ap, ap₂, arith, length, pos, rules, w64}
use mir.Val.{of_z, to_z}
use Rattle.std.proofs.lemmas.Int.{to_z-of_z}
use Rattle.cq_values.specs.Lent.{owned}
use Rattle.cq_values.specs.Value.{is_null}
use Rattle.cq_values.specs.declared.value.Value.{Value}
use Rattle.cq_encodings_plain.specs.Kind.{datum}
use Rattle.cq_encodings_plain.proofs.Zipped.{length-zipped}
use Rattle.std.specs.Simd.Lanes.{zip2}
use Rattle.cq_writestore_rows.proofs.Zipped.{fit_more, zip_more}
use Rattle.cq_writestore_rows.proofs.number_column.NumberColumn.push.Goals as goal

pub push-requires-in-Some : goal.push-requires-in-Some
push-requires-in-Some c =
    let inside = c.self.inside in
    omega (arith, c.requires, c.self.invariant.0, ap length c.self.view_is, length-zipped (datum inside.kind) inside.numbers.items inside.nulls c.self.invariant.0)

pub invariant_of-self-in-Some : goal.invariant_of-self-in-Some
invariant_of-self-in-Some c =
    let inside = c.self.inside in
    let flag = is_null (owned c.args.value.now) in
    let number : to_z w64 (of_z w64 c.in-Some.number) ≡ c.in-Some.number = to_z-of_z w64 c.in-Some.number (search rules) in
    let items = c.in_ok-push-in-Some.ensures.items ∙ ap (λ (n : ℤ). inside.numbers.items ++ n ∷ []) number in
    let flags = c.push-in-Some.ensures ∙ ap (λ (b : Bool). inside.nulls ++ b ∷ []) c.is_null.ensures in
    rw (flags, items) (fit_more (datum inside.kind) (pos 0) inside.nulls inside.numbers.items flag c.in-Some.number c.self.invariant c.in-Some.ensures.any)

pub returns-in_ok-push-in-Some-clause-ok : goal.returns-in_ok-push-in-Some-clause-ok
returns-in_ok-push-in-Some-clause-ok c =
    let inside = c.self.inside in
    let flag = is_null (owned c.args.value.now) in
    let number : to_z w64 (of_z w64 c.in-Some.number) ≡ c.in-Some.number = to_z-of_z w64 c.in-Some.number (search rules) in
    let items = c.in_ok-push-in-Some.ensures.items ∙ ap (λ (n : ℤ). inside.numbers.items ++ n ∷ []) number in
    let flags = c.push-in-Some.ensures ∙ ap (λ (b : Bool). inside.nulls ++ b ∷ []) c.is_null.ensures in
    ap₂ (λ (ns : List ℤ) (fs : List Bool). zip2 (datum inside.kind) ns fs) items flags
    ∙ zip_more (datum inside.kind) inside.numbers.items inside.nulls c.in-Some.number flag (owned c.args.value.now) c.self.invariant.0 c.in-Some.ensures.same
    ∙ ap (λ (vs : List Value). vs ++ owned c.args.value.now ∷ []) c.self.view_is
