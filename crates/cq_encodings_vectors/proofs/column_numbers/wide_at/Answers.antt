use Rattle.std.proofs.Common.{◌∙◌, pos, refl}
use Rattle.cq_vectors_stored.specs.Columns.{number_unless}
use Rattle.cq_encodings_vectors.proofs.CopiedAt.{copied-clear, copied-few, copied-made, copied-same}
use Rattle.cq_encodings_vectors.proofs.column_numbers.wide_at.Goals as goal

pub new-requires-clause-few : goal.new-requires-clause-few
new-requires-clause-few c =
    copied-few (pos 0) c.args.numbers.now c.args.nulls.now c.args.places.now c.requires.clear (c.in_ok-copied.ensures (pos 0)) c.flags_of-flags.ensures c.requires.few

pub new-requires-clause-same : goal.new-requires-clause-same
new-requires-clause-same c =
    copied-same (pos 0) c.args.numbers.now c.args.nulls.now c.args.places.now c.requires.clear (c.in_ok-copied.ensures (pos 0)) c.flags_of-flags.ensures

pub new-requires-clause-zero : goal.new-requires-clause-zero
new-requires-clause-zero c =
    copied-clear (pos 0) c.args.numbers.now c.args.nulls.now c.args.places.now c.requires.clear (c.in_ok-copied.ensures (pos 0)) c.flags_of-flags.ensures

pub returns : goal.returns
returns c =
    c.new.ensures
    ∙ copied-made (pos 0) c.args.numbers.now c.args.nulls.now c.args.places.now c.requires.clear (c.in_ok-copied.ensures (pos 0)) c.flags_of-flags.ensures
    number_unless (λ x y. refl) c.requires.long c.requires.there
