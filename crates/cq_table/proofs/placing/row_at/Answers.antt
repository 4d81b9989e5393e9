use Rattle.std.proofs.Common.{◌∙◌, rules}
use Rattle.cq_writestore.specs.Writes.{written_rows}
use Rattle.cq_table.proofs.Segmenting.{inside-written, row-in, row-written}
use Rattle.cq_table.proofs.placing.row_at.Goals as goal

pub returns-then-reached-segments : goal.returns-then-reached-segments
returns-then-reached-segments c =
    c.at-at.ensures
    ∙ row-in c.args.segments.now (written_rows c.args.written) c.args.reached c.args.place c.requires.reached c.requires.there (search rules) c.index-segments-reached.result c.index-segments-reached.is

pub at-requires : goal.at-requires
at-requires c = inside-written c.args.segments.now (written_rows c.args.written) c.args.reached c.args.place c.requires.reached c.requires.there (search rules) c.requires.within

pub returns-else-reached-segments : goal.returns-else-reached-segments
returns-else-reached-segments c =
    c.at.ensures ∙ row-written c.args.segments.now (written_rows c.args.written) c.args.reached c.args.place c.requires.reached c.requires.there (search rules)
