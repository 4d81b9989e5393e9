use Rattle.std.proofs.Common.{◌∙◌, ap, arith, length, refl}
use Rattle.cq_segments_pieces.specs.Marked.{live}
use Rattle.cq_segments_pieces.specs.Pieces.{joined}
use Rattle.cq_segments_pieces.proofs.Marks.{length-live}
use Rattle.cq_table.specs.Table.{table_of}
use Rattle.cq_table.proofs.Tables.{alone, count-segments, merged, merges-bag, merges-counts, merges-kept, whole, wide-segments}
use Rattle.cq_table.proofs.table.Table.merge_step.Goals as goal

pub overflow_sub-live-2 : goal.overflow_sub-live-2
overflow_sub-live-2 c =
    let t = table_of c.self.inside.layout c.self.inside.max_rows c.self.inside.segments.items c.self.inside.written.rows in
    omega (arith, count-segments t c.self.inside.live c.self.invariant, c.len.ensures.len, c.marked_len.ensures.len, length-live (joined t.segments))

pub new-rows-requires : goal.new-rows-requires
new-rows-requires c =
    let t = table_of c.self.inside.layout c.self.inside.max_rows c.self.inside.segments.items c.self.inside.written.rows in
    let all = ap live (alone t.segments _ _ _ refl c.as_slice.ensures.value c.of.ensures) in
    omega (arith, count-segments t c.self.inside.live c.self.invariant, c.len.ensures.len, c.marked_len.ensures.len, c.marked_len.ensures.few, ap length all)

pub build_front-requires : goal.build_front-requires
build_front-requires c =
    let t = table_of c.self.inside.layout c.self.inside.max_rows c.self.inside.segments.items c.self.inside.written.rows in
    let all = alone t.segments _ _ _ c.new-rows.ensures.stored c.as_slice.ensures.value c.of.ensures in
    rw (whole t.segments c.count_rows-count.result (c.count_rows-count.ensures ∙ ap (λ ls. length (joined ls)) c.as_slice-2.ensures.value) _ all) (wide-segments t c.self.invariant.sound.fitting)

pub invariant_of-self : goal.invariant_of-self
invariant_of-self c =
    let t = table_of c.self.inside.layout c.self.inside.max_rows c.self.inside.segments.items c.self.inside.written.rows in
    let all = alone t.segments _ _ _ c.new-rows.ensures.stored c.as_slice.ensures.value c.of.ensures in
    let merges = merged t c.in_ok-made.made.items c.count_rows-count.result (c.count_rows-count.ensures ∙ ap (λ ls. length (joined ls)) c.as_slice-2.ensures.value) _ all c.in_ok-made.ensures in
    merges-kept t _ merges c.self.inside.live c.self.invariant

pub returns-clause-ok : goal.returns-clause-ok
returns-clause-ok c =
    let t = table_of c.self.inside.layout c.self.inside.max_rows c.self.inside.segments.items c.self.inside.written.rows in
    let all = alone t.segments _ _ _ c.new-rows.ensures.stored c.as_slice.ensures.value c.of.ensures in
    let merges = merged t c.in_ok-made.made.items c.count_rows-count.result (c.count_rows-count.ensures ∙ ap (λ ls. length (joined ls)) c.as_slice-2.ensures.value) _ all c.in_ok-made.ensures in
    rw (← c.self.view_is) merges

pub returns-clause-counts : goal.returns-clause-counts
returns-clause-counts c = merges-counts _ _ (returns-clause-ok c)

pub returns-clause-bag : goal.returns-clause-bag
returns-clause-bag c = merges-bag _ _ (returns-clause-ok c)
