use Rattle.std.proofs.Common.{◌∙◌, ◌+◌, ◌<◌, [], length, map, pos, refl, take, ap, arith}
use Rattle.cq_table_columns.specs.Stored.{front_rows}
use Rattle.cq_model.specs.Group.{key_of}
use Rattle.cq_views.proofs.Exchanges.{cut-fewer, cut-longer, none-in_range, one-more, still-in_range}
use Rattle.cq_views.proofs.cutting.cut_once.Goals as goal

pub add-requires : goal.add-requires
add-requires c =
    let f = key_of c.args.columns.now in
    let rows = front_rows c.args.front.now in
    let i = c.loop-place.place in
    let within : i < length rows = omega arith in
    still-in_range (pos 1) [] c.loop-place.once.entries (map f (take i rows)) c.in_ok-short.short c.loop-place.invariant (length rows) refl (none-in_range (length rows) (omega (arith, c.requires))) (cut-fewer f rows i within)

pub loop-place-preserved : goal.loop-place-preserved
loop-place-preserved c =
    let f = key_of c.args.columns.now in
    let rows = front_rows c.args.front.now in
    let i = c.loop-place.place in
    let within : i < length rows = omega arith in
    one-more (pos 1) [] c.loop-place.once.entries (map f (take i rows)) c.in_ok-short.short c.loop-place.invariant c.add.new.self.entries (map f (take (i + 1) rows))
    (cut-longer f rows i within [] c.in_ok-short.short (c.in_ok-short.ensures ∙ ap f c.row.ensures)) c.in_ok-add.ensures.ok
