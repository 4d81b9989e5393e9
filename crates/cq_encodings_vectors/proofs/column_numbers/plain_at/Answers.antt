use Rattle.std.proofs.Common.{◌∙◌, ℕ, ap, length, subst, sym}
use Rattle.std.proofs.lemmas.Simd.{length-zip2}
use Rattle.cq_encodings_plain.specs.Kind.{datum}
use Rattle.cq_encodings_vectors.specs.Places.{AreBelow}
use Rattle.cq_encodings_vectors.proofs.column_numbers.plain_at.Goals as goal

pub wide_at-requires-clause-there : goal.wide_at-requires-clause-there
wide_at-requires-clause-there c =
    let p = c.parts-kind in
    subst (λ (n : ℕ). AreBelow n c.args.places.now)
    (ap length p.ensures.whole ∙ length-zip2 (datum p.result.0) p.result.1.now p.result.2.now (sym p.ensures.long)) c.requires.there
