use Rattle.std.proofs.Common.{length, ap, ap₂, sym, ◌∙◌}
use lib.Lanes.{zip2}
use Rattle.std.proofs.lemmas.Simd.{length-zip2}
use Rattle.cq_vectors_masks.specs.Plane.{either}
use Rattle.cq_vectors_stored.specs.Columns.{number_unless}
use Rattle.cq_prims_arithmetic.specs.Operation.{lifted}
use Rattle.cq_prims_arithmetic.proofs.ColumnLemmas.{of_columns}
use Rattle.cq_prims_arithmetic.proofs.SideLemmas.{nulls-long, nulls-same, numbers-long}
use Rattle.cq_prims_arithmetic.proofs.columns.SecondTaker.take.Goals as goal

pub set_or-requires : goal.set_or-requires
set_or-requires g c =
    nulls-same (g.A.Side.numbers c.args.self.now.left.now) (g.S.Side.numbers c.args.side.now) c.args.self.now.left_nulls.now c.args.nulls.now c.args.self.now.of.now.a.now c.args.self.now.of.now.b.now c.args.self.now.is_left c.requires c.args.self.now.of.now.same

pub in_64_bits-requires-clause-left : goal.in_64_bits-requires-clause-left
in_64_bits-requires-clause-left g c =
    let flags = nulls-same (g.A.Side.numbers c.args.self.now.left.now) (g.S.Side.numbers c.args.side.now) c.args.self.now.left_nulls.now c.args.nulls.now c.args.self.now.of.now.a.now c.args.self.now.of.now.b.now c.args.self.now.is_left c.requires c.args.self.now.of.now.same in
    numbers-long (g.A.Side.numbers c.args.self.now.left.now) c.args.self.now.left_nulls.now c.args.self.now.of.now.a.now c.args.self.now.is_left
    ∙ sym (ap length c.set_or.ensures ∙ length-zip2 either c.args.self.now.left_nulls.now c.args.nulls.now flags ∙ nulls-long (g.A.Side.numbers c.args.self.now.left.now) c.args.self.now.left_nulls.now c.args.self.now.of.now.a.now c.args.self.now.is_left)

pub in_64_bits-requires-clause-right : goal.in_64_bits-requires-clause-right
in_64_bits-requires-clause-right g c =
    let flags = nulls-same (g.A.Side.numbers c.args.self.now.left.now) (g.S.Side.numbers c.args.side.now) c.args.self.now.left_nulls.now c.args.nulls.now c.args.self.now.of.now.a.now c.args.self.now.of.now.b.now c.args.self.now.is_left c.requires c.args.self.now.of.now.same in
    numbers-long (g.S.Side.numbers c.args.side.now) c.args.nulls.now c.args.self.now.of.now.b.now c.requires ∙ sym c.args.self.now.of.now.same
    ∙ sym (ap length c.set_or.ensures ∙ length-zip2 either c.args.self.now.left_nulls.now c.args.nulls.now flags ∙ nulls-long (g.A.Side.numbers c.args.self.now.left.now) c.args.self.now.left_nulls.now c.args.self.now.of.now.a.now c.args.self.now.is_left)

pub returns-in_ok-made-in-Some : goal.returns-in_ok-made-in-Some
returns-in_ok-made-in-Some g c =
    let ms = g.A.Side.numbers c.args.self.now.left.now in
    let ns = g.S.Side.numbers c.args.side.now in
    c.in_ok-made-in-Some.ensures ∙ ap (zip2 number_unless (zip2 g.O.Operation.apply ms ns)) c.set_or.ensures
    ∙ of_columns g.O.Operation.apply ms ns c.args.self.now.left_nulls.now c.args.nulls.now
    ∙ ap₂ (zip2 (lifted g.O.Operation.apply)) (sym c.args.self.now.is_left.made) (sym c.requires.made)
