use Rattle.std.proofs.Common.{◌≡◌, ◌∙◌, false, ◌*◌, ◌+◌, ◌≤◌, ℤ, List, Option, None, ap, drop, get_or, length, rules, subst, sym, take, w64}
use Rattle.std.specs.Simd.Lanes.{zip2}
use mir.Val.{SFits}
use Rattle.std.proofs.lemmas.Int.{to_z-of_z}
use Rattle.std.proofs.lemmas.List.{get_or_past}
use Rattle.cq_values.specs.declared.value.Value.{Value}
use Rattle.cq_encodings_plain.specs.Kind.{datum}
use Rattle.cq_encodings_numbers.specs.Bounds.{AreBounds, Ends, owned_ends}
use Rattle.cq_encodings_numbers.specs.Ends.{AreEnds, ends_above, no_ends}
use Rattle.cq_encodings_numbers.specs.Packed.{above}
use Rattle.cq_encodings_numbers.specs.declared.ends.PartEnds.{PartEnds}
use Rattle.cq_encodings_numbers.proofs.PartEnds.{part_bounds}
use Rattle.cq_encodings_numbers.proofs.packed.Packed.part_bounds.Goals as goal

pub returns-in-Some : goal.returns-in-Some
returns-in-Some c =
    let inside = c.self.inside in
    let part = c.args.part in
    let known = c.in-Some.known.now in
    let start = 1024 * part in
    let read : known ≡ get_or c.deref.result.now part no_ends = search rules in
    let there : get_or inside.ends.items part no_ends ≡ known = sym (read ∙ ap (λ (es : List PartEnds). get_or es part no_ends) c.deref.ensures.value) in
    let have = subst (AreEnds start (start + 1024) inside.offsets inside.nulls) there (c.self.invariant.have part) in
    let base : SFits w64 inside.least = search rules in
    let ends = ap (λ (z : ℤ). ends_above inside.kind z known.ends) (sym (to_z-of_z w64 inside.least base)) ∙ sym c.lend_ends.ensures in
    let bounds = part_bounds inside.kind inside.least inside.offsets inside.nulls c.self.invariant.are start known have in
    subst (λ (values : List Value). AreBounds known.has_null (owned_ends c.lend_ends.result) (take 1024 (drop start values))) c.self.view_is
    (subst (λ (e : Ends). AreBounds known.has_null e (take 1024 (drop start (zip2 (datum inside.kind) (above inside.least inside.offsets) inside.nulls)))) ends bounds)

pub returns-in-None : goal.returns-in-None
returns-in-None c =
    let inside = c.self.inside in
    let part = c.args.part in
    let start = 1024 * part in
    let past : length c.deref.result.now ≤ part = search rules in
    let there : get_or inside.ends.items part no_ends ≡ no_ends = sym (ap (λ (es : List PartEnds). get_or es part no_ends) c.deref.ensures.value) ∙ get_or_past c.deref.result.now part no_ends past in
    let have = subst (AreEnds start (start + 1024) inside.offsets inside.nulls) there (c.self.invariant.have part) in
    let bounds = part_bounds inside.kind inside.least inside.offsets inside.nulls c.self.invariant.are start no_ends have in
    subst (λ (values : List Value). AreBounds false None (take 1024 (drop start values))) c.self.view_is bounds
