use Rattle.std.proofs.Common.{◌≡◌, ◌∙◌, ◌++◌, ◌-◌, [], List, ap, get_or, length, rules}
use Rattle.cq_segments_pieces.specs.Marked.{MarkedRow, with_mark}
use Rattle.cq_segments_pieces.specs.Pieces.{joined}
use Rattle.cq_segments_pieces.proofs.Marks.{length-mark}
use Rattle.cq_table.proofs.Segmenting.{lengths-mark, marked-in, marked-written, same-there}
use Rattle.cq_table.proofs.placing.mark_at.Goals as goal

pub returns-then-reached-len-clause-stored : goal.returns-then-reached-len-clause-stored
returns-then-reached-len-clause-stored c =
    let segments = c.args.segments.now.items in
    let at = c.args.reached.segment in
    let here : c.index_mut.result.now ≡ get_or segments at [] = c.index_mut.ensures.value ∙ same-there segments at c.index_mut.result.now [] (search rules) in
    marked-in segments c.args.written.now.rows c.args.reached c.args.place c.requires.reached c.requires.there (search rules) c.mark.new.self
    (c.mark.ensures ∙ ap (with_mark (c.args.place - c.args.reached.before)) here)

pub returns-then-reached-len-clause-segments : goal.returns-then-reached-len-clause-segments
returns-then-reached-len-clause-segments c =
    let segments = c.args.segments.now.items in
    let at = c.args.reached.segment in
    let here : c.index_mut.result.now ≡ get_or segments at [] = c.index_mut.ensures.value ∙ same-there segments at c.index_mut.result.now [] (search rules) in
    lengths-mark segments at c.mark.new.self (search rules)
    (ap length c.mark.ensures ∙ length-mark c.index_mut.result.now (c.args.place - c.args.reached.before) ∙ ap length here)

pub returns-else-reached-len-clause-stored : goal.returns-else-reached-len-clause-stored
returns-else-reached-len-clause-stored c =
    ap (λ (rs : List MarkedRow). joined c.args.segments.now.items ++ rs) c.mark-else-reached-len.ensures.rows
    ∙ marked-written c.args.segments.now.items c.args.written.now.rows c.args.reached c.args.place c.requires.reached c.requires.there (search rules)

pub returns-else-reached-len-clause-written : goal.returns-else-reached-len-clause-written
returns-else-reached-len-clause-written c = ap length c.mark-else-reached-len.ensures.rows ∙ length-mark c.args.written.now.rows (c.args.place - c.args.reached.before)
