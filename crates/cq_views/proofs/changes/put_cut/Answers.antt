use Rattle.std.proofs.Common.{◌≡◌, ◌∙◌, ◌+◌, ◌++◌, List, length, map, refl, sym, ap, subst, take}
use mir.Val.{SFits}
use mir.Syntax.{w128}
use Rattle.std.proofs.lemmas.List.{take_all}
use Rattle.std.proofs.lemmas.Simd.{map-map}
use Rattle.std.proofs.lemmas.Int.{to_z-of_z}
use Rattle.cq_segments_pieces.specs.Rows.{row_of}
use Rattle.cq_segments_pieces.specs.declared.stored_row.StoredRow.{StoredRow}
use Rattle.cq_values.specs.Value.{Row}
use Rattle.cq_model_bags.specs.Bag.{SameBag}
use Rattle.cq_views.specs.Changes.{weighed}
use Rattle.cq_model.specs.Group.{key_of}
use Rattle.cq_views.proofs.Exchanges.{cut-fewer, cut-longer, one-more, still-in_range}
use Rattle.cq_views.proofs.changes.put_cut.Goals as goal

pub add-requires : goal.add-requires
add-requires c =
    let fits : SFits w128 c.args.weight = c.ranges.weight in
    let cut : StoredRow → Row = λ s. key_of c.args.columns.now (row_of s) in
    let rows = c.args.rows.now in
    let i = c.loop-row.row-index in
    rw (to_z-of_z w128 c.args.weight fits, c.requires.one) (
    still-in_range c.args.weight c.args.cut.now.entries c.loop-row.cut.entries (map cut (take i rows)) c.in_ok-cut.field-0 (simp to_z-of_z at c.loop-row.invariant) (length rows) c.requires.one c.requires.range
    (cut-fewer cut rows i c.loop-row-test.true)
    )

pub loop-row-preserved : goal.loop-row-preserved
loop-row-preserved c =
    let fits : SFits w128 c.args.weight = c.ranges.weight in
    let cut : StoredRow → Row = λ s. key_of c.args.columns.now (row_of s) in
    let rows = c.args.rows.now in
    let i = c.loop-row.row-index in
    rw (to_z-of_z w128 c.args.weight fits) (
    one-more c.args.weight c.args.cut.now.entries c.loop-row.cut.entries (map cut (take i rows)) c.in_ok-cut.field-0 (simp to_z-of_z at c.loop-row.invariant) c.add.new.self.entries (map cut (take (i + 1) rows))
    (cut-longer cut rows i c.loop-row-test.true c.row-item.result c.in_ok-cut.field-0 (c.in_ok-cut.ensures ∙ ap cut c.row-item.is)) (simp to_z-of_z at c.in_ok-add.ensures.ok)
    )

pub returns : goal.returns
returns c =
    let fits : SFits w128 c.args.weight = c.ranges.weight in
    let f = key_of c.args.columns.now in
    let rows = c.args.rows.now in
    let old = c.args.cut.now.entries in
    let all : take c.loop-row.row-index rows ≡ rows = take_all c.loop-row.row-index rows c.loop-row-test.false in
    subst (λ (rows : List Row). SameBag c.loop-row.cut.entries (old ++ weighed rows c.args.weight)) (ap (map (λ (s : StoredRow). f (row_of s))) all ∙ sym (map-map f row_of rows)) (simp to_z-of_z at c.loop-row.invariant)
