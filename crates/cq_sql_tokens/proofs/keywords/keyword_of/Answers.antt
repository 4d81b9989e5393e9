use Rattle.std.proofs.Common.{◌∙◌, arith}
use Rattle.cq_sql_tokens.proofs.KeywordTables.{keyword_by_len, no_keyword}
use Rattle.cq_sql_tokens.proofs.keywords.keyword_of.Goals as goal

pub returns-in-2 : goal.returns-in-2
returns-in-2 c = c.found_in.ensures ∙ keyword_by_len c.args.word.now 2 c.in-2.is

pub returns-in-3 : goal.returns-in-3
returns-in-3 c = c.found_in-in-3.ensures ∙ keyword_by_len c.args.word.now 3 c.in-3.is

pub returns-in-4 : goal.returns-in-4
returns-in-4 c = c.found_in-in-4.ensures ∙ keyword_by_len c.args.word.now 4 c.in-4.is

pub returns-in-5 : goal.returns-in-5
returns-in-5 c = c.found_in-in-5.ensures ∙ keyword_by_len c.args.word.now 5 c.in-5.is

pub returns-in-6 : goal.returns-in-6
returns-in-6 c = c.found_in-in-6.ensures ∙ keyword_by_len c.args.word.now 6 c.in-6.is

pub returns-in-7 : goal.returns-in-7
returns-in-7 c = c.found_in-in-7.ensures ∙ keyword_by_len c.args.word.now 7 c.in-7.is

pub returns-in-8 : goal.returns-in-8
returns-in-8 c = c.found_in-in-8.ensures ∙ keyword_by_len c.args.word.now 8 c.in-8.is

pub returns-in_default : goal.returns-in_default
returns-in_default c = no_keyword c.args.word.now (λ low high. omega arith)
