use Rattle.std.proofs.Common.{◌∙◌, ◌+ℤ◌, ℕ, ℤ, ap, pos, refl, subst, sym, to_z-of_z, FitsSigned, w64}
use Rattle.std.proofs.lemmas.Result.{IfOk-weaker}
use Rattle.cq_vectors_stored.specs.LentColumns.{FitAbove, number_above, numbers_above}
use Rattle.cq_vectors_stored.specs.Offsets.{offsets_in, own_offsets_in}
use Rattle.cq_encodings_vectors.proofs.OffsetsAt.{facts-at, offsets-clear, offsets-made}
use Rattle.cq_encodings_vectors.proofs.Packing.{at_base}
use Rattle.cq_encodings_vectors.proofs.numbers_at.above_at.Goals as goal

pub own-requires-clause-clear : goal.own-requires-clause-clear
own-requires-clause-clear c =
    let p = c.parts-base in
    offsets-clear c.args.numbers.now (offsets_in p.result.1) c.args.places.now c.nulls-nulls.ensures p.ensures.clear c.in_ok-copied.ensures c.nulls_at-flags.ensures

pub own-requires-clause-fit : goal.own-requires-clause-fit
own-requires-clause-fit c =
    let p = c.parts-base in
    let offsets = offsets_in p.result.1 in
    let back = to_z-of_z (at_base (FitsSigned w64) p.result.0 offsets p.ensures.fit) in
    let fit = facts-at (λ (offset : ℕ). FitsSigned w64 (p.result.0 +ℤ pos offset)) offsets c.args.places.now p.ensures.fit in
    subst (λ (base : ℤ). FitAbove base (own_offsets_in c.in_ok-copied.copied)) (sym back) (subst (FitAbove p.result.0) (sym c.in_ok-copied.ensures) fit)

pub returns : goal.returns
returns c =
    let p = c.parts-base in
    let back = to_z-of_z (at_base (FitsSigned w64) p.result.0 (offsets_in p.result.1) p.ensures.fit) in
    let made =
    ap (λ b. numbers_above b (own_offsets_in c.in_ok-copied.copied) c.nulls_at-flags.result) back
    ∙ offsets-made c.args.numbers.now (offsets_in p.result.1) c.args.places.now c.nulls-nulls.ensures p.ensures.clear c.in_ok-copied.ensures c.nulls_at-flags.ensures
    (number_above p.result.0) (λ x y. refl) p.ensures.long p.ensures.whole c.requires.there in
    IfOk-weaker c.own.result _ _ (λ own is. is ∙ made) c.own.ensures
