use Rattle.std.proofs.Common.{◌++◌, List, length, refl, subst, sym}
use Rattle.cq_values.specs.Value.{Row}
use Rattle.cq_segments_pieces.specs.Columns.{AreWide}
use Rattle.cq_segments_pieces.specs.Marked.{rows_of}
use Rattle.cq_segments_pieces.specs.Pieces.{joined}
use Rattle.cq_writestore_rows.proofs.Adding.{can-front, is_ready, left-can}
use Rattle.cq_writestore.proofs.refilled.refilled.Goals as goal

pub put_rows-requires : goal.put_rows-requires
put_rows-requires c = can-front c.args.front.now c.args.rows c.in_ok-filling.filling (is_ready _ _ c.in_ok-filling.filling c.in_ok-filling.ensures c.requires)

pub put_pieces-requires : goal.put_pieces-requires
put_pieces-requires c =
    let front = c.args.front.now in
    let begun = c.in_ok-filling.filling in
    let made = rows_of (joined c.into_parts-pieces.result.0.items) in
    let behind = c.into_parts-pieces.result.1.items in
    let can = is_ready _ _ begun c.in_ok-filling.ensures (subst (λ (l : List Row). AreWide (length c.args.columns.now) (front ++ l)) (sym c.into_parts-pieces.ensures.rows) c.requires) in
    can-front made behind c.put_rows.new.filling (left-can _ front (made ++ behind) refl begun c.put_rows.new.filling c.in_ok-put_rows.ensures can)

pub put_rows-requires-2 : goal.put_rows-requires-2
put_rows-requires-2 c =
    let front = c.args.front.now in
    let begun = c.in_ok-filling.filling in
    let made = rows_of (joined c.into_parts-pieces.result.0.items) in
    let behind = c.into_parts-pieces.result.1.items in
    let can = is_ready _ _ begun c.in_ok-filling.ensures (subst (λ (l : List Row). AreWide (length c.args.columns.now) (front ++ l)) (sym c.into_parts-pieces.ensures.rows) c.requires) in
    let next = left-can _ front (made ++ behind) refl begun c.put_rows.new.filling c.in_ok-put_rows.ensures can in
    rw c.as_slice.ensures.value (left-can _ made behind refl c.put_rows.new.filling c.put_pieces.new.filling c.in_ok-put_pieces.ensures next)
