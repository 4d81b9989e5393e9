use Rattle.std.proofs.Common.{Bool, List, ap, false, length, pos, replicate, subst, sym, w64, ◌+ℤ◌, ◌∙◌, ◌≡◌, ℕ, ℤ, IfSome, Option}
use mir.Val.{of_z, to_z}
use Rattle.std.specs.Simd.Lanes.{zip2}
use Rattle.std.proofs.Math.IntN.{+ℤ_idr}
use Rattle.std.proofs.lemmas.Bool.{OnTrue_at}
use Rattle.cq_encodings_plain.specs.Kind.{IsOf, datum}
use Rattle.cq_encodings_plain.specs.PackedNumbers.{numbers_in}
use Rattle.cq_encodings_plain.specs.declared.packed_numbers.Widths.{Widths}
use Rattle.cq_encodings_numbers.specs.Packed.{AreOffsets, above}
use Rattle.cq_encodings_numbers.proofs.NumbersAbove.{are_offsets, packed_numbers}
use Rattle.cq_encodings_numbers.proofs.packed.Packed.of_numbers.Goals as goal

pub with_ends-requires : goal.with_ends-requires
with_ends-requires c =
    let kind = c.args.kind in
    let least : ℤ = to_z w64 (of_z w64 c.ends_of-least.result.0) in
    let numbers = c.args.numbers.now in
    let offsets = numbers_in c.in-Some.widths in
    let same : above least offsets ≡ numbers = subst (λ (found : Option Widths). IfSome found (λ list. above least (numbers_in list) ≡ numbers)) c.in-Some.is c.in_ok-widths.ensures in
    let past : IsOf kind (least +ℤ pos 0) = subst (IsOf kind) (sym (+ℤ_idr least)) (OnTrue_at c.if-not-is_of.false c.is_of.ensures) in
    subst (λ (flags : List Bool). AreOffsets kind least offsets flags) (sym c.in_ok-nulls.ensures) (are_offsets kind least offsets numbers same past c.requires)

pub returns : goal.returns
returns c =
    let kind = c.args.kind in
    let least : ℤ = to_z w64 (of_z w64 c.ends_of-least.result.0) in
    let numbers = c.args.numbers.now in
    let offsets = numbers_in c.in-Some.widths in
    let same : above least offsets ≡ numbers = subst (λ (found : Option Widths). IfSome found (λ list. above least (numbers_in list) ≡ numbers)) c.in-Some.is c.in_ok-widths.ensures in
    c.in_ok-with_ends.ensures ∙ ap (λ (flags : List Bool). zip2 (datum kind) (above least offsets) flags) c.in_ok-nulls.ensures ∙ packed_numbers kind least offsets numbers same
