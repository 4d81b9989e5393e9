use Rattle.std.proofs.Common.{◌∙◌, ◌≡◌, ℕ, ap, ap₂, length, of_z, subst, sym, to_z, to_z-of_z, w64, IfSome, List, Option}
use Rattle.cq_values.specs.declared.value.Value.{Value}
use Rattle.cq_vectors_stored.specs.LentColumns.{days_above, numbers_above}
use Rattle.cq_vectors_stored.specs.Offsets.{offsets_in}
use Rattle.cq_encodings_vectors.specs.Places.{AreBelow, values_at}
use Rattle.cq_encodings_vectors.proofs.Packing.{days_whole, least_fits, numbers_whole, packed-long}
use Rattle.cq_encodings_vectors.proofs.column_numbers.packed_at.Goals as goal

pub narrow_at-requires-clause-there : goal.narrow_at-requires-clause-there
narrow_at-requires-clause-there c =
    let p = c.parts-kind in
    subst (λ (n : ℕ). AreBelow n c.args.places.now)
    (packed-long p.result.0 p.result.1 p.result.2.now p.result.3.now p.ensures.parts c.args.packed.now p.ensures.whole ∙ sym (ap length c.in-Some.ensures)) c.requires.there

pub clear_days_at-requires-clause-there : goal.clear_days_at-requires-clause-there
clear_days_at-requires-clause-there c =
    let p = c.parts-kind in
    subst (λ (n : ℕ). AreBelow n c.args.places.now)
    (packed-long p.result.0 p.result.1 p.result.2.now p.result.3.now p.ensures.parts c.args.packed.now p.ensures.whole ∙ sym (ap length c.in-Some.ensures)) c.requires.there

pub returns-in_ok-numbers-in-Numbers : goal.returns-in_ok-numbers-in-Numbers
returns-in_ok-numbers-in-Numbers c =
    let p = c.parts-kind in
    let flags = p.result.3.now in
    c.in_ok-numbers-in-Numbers.ensures
    ∙ ap₂ (λ b os. values_at (numbers_above b os flags) c.args.places.now) (to_z-of_z (least_fits 0 p.ensures.parts)) c.in-Some.ensures
    ∙ ap (λ vs. values_at vs c.args.places.now) (sym (p.ensures.whole ∙ numbers_whole p.result.0 p.result.1 p.result.2.now flags c.in-Numbers.is))

pub returns-in-Some-2 : goal.returns-in-Some-2
returns-in-Some-2 c =
    let p = c.parts-kind in
    let flags = p.result.3.now in
    let least = to_z-of_z (least_fits 0 p.ensures.parts) in
    let made = ap₂ (λ b os. values_at (days_above b os flags) c.args.places.now) least c.in-Some.ensures
    ∙ ap (λ vs. values_at vs c.args.places.now) (sym (p.ensures.whole ∙ days_whole p.result.0 p.result.1 p.result.2.now flags c.in-Days.is p.ensures.parts.fit)) in
    let kept = to_z w64 (of_z w64 p.result.1) in
    subst (λ (found : Option (List Value)). IfSome found (λ d. d ≡ values_at (days_above kept (offsets_in c.in-Some.offsets) flags) c.args.places.now)) c.in-Some-2.is c.in_ok-days-in-Days.ensures
    ∙ made
