use Rattle.std.proofs.Common.{◌≡◌, ◌*◌, ◌-◌, arith, length, subst}
use Rattle.cq_model_bags.proofs.Lists.{all-front}
use Rattle.cq_segments_pieces.specs.Columns.{AreWide}
use Rattle.cq_segments_pieces.specs.Marked.{rows_of}
use Rattle.cq_segments_pieces.specs.Pieces.{joined}
use Rattle.cq_segments_pieces.proofs.Marks.{rows_of-append}
use Rattle.cq_values.specs.Value.{Row}
use Rattle.cq_table.proofs.WholePieces.{live-behind, live-split, live-wide, wide-behind}
use Rattle.cq_writestore.specs.Writes.{tail_rows}
use Rattle.cq_table.proofs.building.build_written.Goals as goal

pub build_whole-requires-clause-wide : goal.build_whole-requires-clause-wide
build_whole-requires-clause-wide c =
    let w = c.args.written.now in
    let width = length c.args.layout.now.columns in
    let all = subst (AreWide width) (rows_of-append (joined w.pieces.now) (tail_rows w.tail)) c.requires.wide in
    all-front (λ (row : Row). length row ≡ width) (rows_of (joined w.pieces.now)) (rows_of (tail_rows w.tail)) all

pub behind-requires : goal.behind-requires
behind-requires c = c.count_whole-whole.ensures.whole.there

pub overflow_sub-live_len : goal.overflow_sub-live_len
overflow_sub-live_len c =
    let w = c.args.written.now in
    let is = c.count_whole-whole.ensures in
    omega (arith, c.requires.live, live-behind w.pieces.now (tail_rows w.tail) c.count_whole-whole.result c.args.count is.whole is.few)

pub new-rest-requires : goal.new-rest-requires
new-rest-requires c =
    let w = c.args.written.now in
    let is = c.count_whole-whole.ensures in
    rw c.behind.ensures (omega (arith, c.requires.live, live-behind w.pieces.now (tail_rows w.tail) c.count_whole-whole.result c.args.count is.whole is.few))

pub build_front-requires : goal.build_front-requires
build_front-requires c =
    let w = c.args.written.now in
    let n = c.count_whole-whole.result in
    let is = c.count_whole-whole.ensures in
    let width = length c.args.layout.now.columns in
    rw (c.new-rest.ensures.stored, c.behind.ensures)
    (live-wide width (c.args.count - 65536 * n) _ (wide-behind w.pieces.now (tail_rows w.tail) n c.args.count is.whole is.few width c.requires.wide))

pub returns : goal.returns
returns c =
    let w = c.args.written.now in
    let n = c.count_whole-whole.result in
    let is = c.count_whole-whole.ensures in
    let sort = c.args.layout.now.sort in
    let more = rw (c.new-rest.ensures.stored, c.behind.ensures) at c.in_ok-more.ensures in
    rw (c.in_ok-append.ensures.items, live-split w.pieces.now (tail_rows w.tail) n c.args.count is.whole is.few) (c.in_ok-made.ensures _ c.in_ok-more.more.items more)
