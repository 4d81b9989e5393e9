use Rattle.std.proofs.Common.{◌∙◌, ap}
use Rattle.cq_model.specs.Views.{sources_of}
use Rattle.cq_engine_answers.specs.Narrow.{source_widths}
use Rattle.cq_engine_answers.specs.Reading.{IsSourceThere}
use Rattle.cq_engine_tables.specs.Views.{views_of}
use Rattle.cq_engine_answers.proofs.Joined.{can_answer, gathered_there, selects_joined}
use Rattle.cq_engine_tables.specs.HeldTables.{tables_of}
use Rattle.cq_engine_answers.proofs.reading.select_gathered.Goals as goal

-- each of what was gathered is there
pub lend_all-requires-clause-there : goal.lend_all-requires-clause-there
lend_all-requires-clause-there c =
    let tables = tables_of c.args.tables.now in
    let views = c.args.views.now in
    (views_of views, gathered_there (IsSourceThere tables (views_of views)) views (sources_of c.args.query.now) c.args.gathered.now c.requires.gathered c.requires.can_read.there)

-- and so is each source
pub widths_of-requires-clause-there : goal.widths_of-requires-clause-there
widths_of-requires-clause-there c = rw (c.deref.ensures.value, c.in_ok-sources.ensures) c.requires.can_read.there

-- the query can be worked out on the rows that are lent
pub list_answer-requires : goal.list_answer-requires
list_answer-requires c =
    let tables = tables_of c.args.tables.now in
    let wide = c.in_ok-widths.ensures ∙ ap (source_widths tables (views_of c.args.views.now)) (c.deref.ensures.value ∙ c.in_ok-sources.ensures) in
    rw (c.deref-2.ensures.value, c.deref-3.ensures.value)
    (can_answer tables c.args.views.now c.requires.fitting c.args.query.now c.requires.readable c.requires.can_read
    c.args.gathered.now c.in_ok-lent.lent.items c.requires.gathered c.in_ok-lent.ensures c.in_ok-widths.widths.items wide)

-- the listing on them is that of SELECT
pub returns : goal.returns
returns c =
    let listed = rw c.deref-2.ensures.value at c.list_answer.ensures in
    selects_joined (tables_of c.args.tables.now) c.args.views.now c.requires.fitting c.args.query.now c.requires.readable c.requires.can_read
    c.args.gathered.now c.in_ok-lent.lent.items c.requires.gathered c.in_ok-lent.ensures c.args.order.now c.meaning_depends_on_sources.ensures c.list_answer.result listed
