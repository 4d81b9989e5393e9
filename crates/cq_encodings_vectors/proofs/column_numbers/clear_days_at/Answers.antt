use Rattle.std.proofs.Common.{◌∙◌, subst, sym, to_z-of_z}
use Rattle.cq_values.specs.Days.{IsDay}
use Rattle.cq_vectors_stored.specs.Offsets.{offsets_in}
use Rattle.cq_encodings_vectors.proofs.DaysAt.{days-are, days-made}
use Rattle.cq_encodings_vectors.proofs.Packing.{at_base, day_fits}
use Rattle.cq_encodings_vectors.proofs.column_numbers.clear_days_at.Goals as goal

pub new-requires-clause-days : goal.new-requires-clause-days
new-requires-clause-days c =
    let offsets = offsets_in c.args.offsets in
    let same = c.in-Ok.ensures.1 ∙ to_z-of_z c.ranges.base in
    let back = to_z-of_z (day_fits c.in-Ok.number (subst IsDay (sym same) (at_base IsDay c.args.base offsets c.requires.fit))) ∙ same in
    days-are c.args.base offsets c.args.nulls.now c.args.places.now back c.in_ok-values-in-Ok.ensures c.flags_of-flags.ensures c.if-is_clear.ensures c.requires.fit

pub returns-in_ok-values-in-Ok : goal.returns-in_ok-values-in-Ok
returns-in_ok-values-in-Ok c =
    let offsets = offsets_in c.args.offsets in
    let same = c.in-Ok.ensures.1 ∙ to_z-of_z c.ranges.base in
    let back = to_z-of_z (day_fits c.in-Ok.number (subst IsDay (sym same) (at_base IsDay c.args.base offsets c.requires.fit))) ∙ same in
    c.new.ensures
    ∙ days-made c.args.base offsets c.args.nulls.now c.args.places.now back c.in_ok-values-in-Ok.ensures c.flags_of-flags.ensures c.if-is_clear.ensures c.requires.long c.requires.there
