use Rattle.std.proofs.Common.{◌∙◌, ◌<◌, ℕ, length, refl, subst, sym}
use Rattle.std.proofs.lemmas.Result.{IfOk-weaker}
use Rattle.cq_vectors_stored.specs.LentColumns.{AreCodes, entry_unless}
use Rattle.cq_vectors_stored.specs.Offsets.{offsets_in}
use Rattle.cq_encodings_vectors.specs.Places.{AreBelow}
use Rattle.cq_encodings_vectors.proofs.OffsetsAt.{known-at, offsets-clear, offsets-few, offsets-made, offsets-same}
use Rattle.cq_encodings_vectors.proofs.texts_at.entries_at.Goals as goal

pub offsets_at-requires : goal.offsets_at-requires
offsets_at-requires c = subst (λ (n : ℕ). AreBelow n c.args.places.now) (sym c.parts.ensures.long) c.requires.there

pub own-requires-clause-few : goal.own-requires-clause-few
own-requires-clause-few c =
    offsets-few c.args.texts.now (offsets_in c.parts.result.1) c.args.places.now c.nulls-nulls.ensures c.parts.ensures.clear c.in_ok-copied.ensures c.nulls_at-flags.ensures c.requires.few

pub own-requires-clause-same : goal.own-requires-clause-same
own-requires-clause-same c =
    offsets-same c.args.texts.now (offsets_in c.parts.result.1) c.args.places.now c.nulls-nulls.ensures c.parts.ensures.clear c.in_ok-copied.ensures c.nulls_at-flags.ensures

pub own-requires-clause-clear : goal.own-requires-clause-clear
own-requires-clause-clear c =
    offsets-clear c.args.texts.now (offsets_in c.parts.result.1) c.args.places.now c.nulls-nulls.ensures c.parts.ensures.clear c.in_ok-copied.ensures c.nulls_at-flags.ensures

pub own-requires-clause-known : goal.own-requires-clause-known
own-requires-clause-known c =
    let entries = c.parts.result.0.now in
    let codes = offsets_in c.parts.result.1 in
    let below = subst (λ (n : ℕ). AreBelow n c.args.places.now) (sym c.parts.ensures.long) c.requires.there in
    subst (AreCodes entries) (sym c.in_ok-copied.ensures) (known-at (λ (code : ℕ). code < length entries) codes c.args.places.now c.parts.ensures.known below)

pub returns : goal.returns
returns c =
    let made =
    offsets-made c.args.texts.now (offsets_in c.parts.result.1) c.args.places.now c.nulls-nulls.ensures c.parts.ensures.clear c.in_ok-copied.ensures c.nulls_at-flags.ensures
    (entry_unless c.parts.result.0.now) (λ x y. refl) c.parts.ensures.long c.parts.ensures.whole c.requires.there in
    IfOk-weaker c.own.result _ _ (λ own is. is ∙ made) c.own.ensures
