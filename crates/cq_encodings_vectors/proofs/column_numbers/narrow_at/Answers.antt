use Rattle.std.proofs.Common.{◌∙◌, ◌+ℤ◌, ℕ, ℤ, ap, pos, refl, subst, sym, to_z-of_z, FitsSigned, w64}
use Rattle.std.proofs.lemmas.Result.{IfOk-weaker}
use Rattle.cq_vectors_stored.specs.LentColumns.{FitAbove, number_above, numbers_above}
use Rattle.cq_vectors_stored.specs.Offsets.{offsets_in, own_offsets_in}
use Rattle.cq_encodings_vectors.proofs.CopiedAt.{copied-clear, copied-made}
use Rattle.cq_encodings_vectors.proofs.OffsetsAt.{facts-at}
use Rattle.cq_encodings_vectors.proofs.column_numbers.narrow_at.Goals as goal

pub own-requires-clause-clear : goal.own-requires-clause-clear
own-requires-clause-clear c =
    copied-clear 0 (offsets_in c.args.offsets) c.args.nulls.now c.args.places.now c.requires.clear c.in_ok-copied.ensures c.flags_of-flags.ensures

pub own-requires-clause-fit : goal.own-requires-clause-fit
own-requires-clause-fit c =
    let fit = facts-at (λ (offset : ℕ). FitsSigned w64 (c.args.base +ℤ pos offset)) (offsets_in c.args.offsets) c.args.places.now c.requires.fit in
    subst (λ (base : ℤ). FitAbove base (own_offsets_in c.in_ok-copied.copied)) (sym (to_z-of_z c.ranges.base)) (subst (FitAbove c.args.base) (sym c.in_ok-copied.ensures) fit)

pub returns : goal.returns
returns c =
    let made =
    ap (λ b. numbers_above b (own_offsets_in c.in_ok-copied.copied) c.flags_of-flags.result) (to_z-of_z c.ranges.base)
    ∙ copied-made 0 (offsets_in c.args.offsets) c.args.nulls.now c.args.places.now c.requires.clear c.in_ok-copied.ensures c.flags_of-flags.ensures
    (number_above c.args.base) (λ x y. refl) c.requires.long c.requires.there in
    IfOk-weaker c.own.result _ _ (λ own is. is ∙ made) c.own.ensures
