use Rattle.cq_sql_tokens.proofs.KeywordTables.{is_here, is_behind}
use Rattle.cq_sql_tokens.proofs.keywords.found_in.Goals as goal

pub returns-then-eq_ignore_ascii_case : goal.returns-then-eq_ignore_ascii_case
returns-then-eq_ignore_ascii_case c =
    is_here c.args.table.now c.args.word.now c.loop-keyword.keyword-index _ c.eq_ignore_ascii_case.result _ c.loop-keyword-test.true c.eq_ignore_ascii_case.ensures.test c.loop-keyword.invariant c.if-eq_ignore_ascii_case.true

pub loop-keyword-preserved : goal.loop-keyword-preserved
loop-keyword-preserved c =
    is_behind c.args.table.now c.args.word.now c.loop-keyword.keyword-index _ c.eq_ignore_ascii_case.result _ c.loop-keyword-test.true c.eq_ignore_ascii_case.ensures.test c.loop-keyword.invariant c.if-eq_ignore_ascii_case.false
