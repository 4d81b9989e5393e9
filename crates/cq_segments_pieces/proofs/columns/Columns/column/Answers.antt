use Rattle.std.proofs.Common.{◌∙◌, ◌<◌, ap, arith, get_or, length, replicate, subst, sym}
use Rattle.std.specs.Global.{Vec}
use Rattle.cq_encodings.specs.declared.any_encoded.AnyEncoded.{AnyEncoded}
use Rattle.cq_values.specs.declared.value.Value.TheVariants.{Null}
use Rattle.cq_vectors.specs.Gathered.{column_of}
use Rattle.cq_segments_pieces.proofs.Parts.{length-rows_of_part, nulls_of_part, part_kept_from, part_there}
use Rattle.cq_segments_pieces.proofs.columns.Columns.column.Goals as goal

pub returns-in-Some-clause-there : goal.returns-in-Some-clause-there
returns-in-Some-clause-there c =
    let at = c.args.at in
    let one = c.in-Some.encoded.now in
    let item = c.in-Some.ensures.lookup in
    let same = c.deref.ensures.value ∙ ap (λ (v : Vec AnyEncoded). v.items) c.as_ref.ensures in
    part_there c.self.inside.encoded.value.items c.self.inside.part c.self.inside.count at one c.self.invariant.are (subst (λ l. at < length l) same item.3.0) (item.1 ∙ ap (λ l. get_or l at one) same)

pub returns-in-Some-clause-part : goal.returns-in-Some-clause-part
returns-in-Some-clause-part c =
    let at = c.args.at in
    let one = c.in-Some.encoded.now in
    let item = c.in-Some.ensures.lookup in
    let same = c.deref.ensures.value ∙ ap (λ (v : Vec AnyEncoded). v.items) c.as_ref.ensures in
    part_kept_from c.self.inside.encoded.value.items c.self.inside.part c.self.inside.count at one c.self.invariant.are (subst (λ l. at < length l) same item.3.0) (item.1 ∙ ap (λ l. get_or l at one) same) c.self.inside.from
    ∙ ap (λ rows. column_of rows at) c.self.view_is

pub returns-in-None-clause-past : goal.returns-in-None-clause-past
returns-in-None-clause-past c =
    let encoded = c.self.inside.encoded.value.items in
    let part = c.self.inside.part in
    let from = c.self.inside.from in
    let count = c.self.inside.count in
    let same = c.deref.ensures.value ∙ ap (λ (v : Vec AnyEncoded). v.items) c.as_ref.ensures in
    ap (λ rows. column_of rows c.args.at) (sym c.self.view_is)
    ∙ nulls_of_part encoded part from count c.args.at c.self.invariant.are (omega (arith, c.in-None.ensures.lookup.3, ap length same))
    ∙ ap (λ n. replicate n Null) (sym (length-rows_of_part encoded part from count) ∙ ap length c.self.view_is)
