use Rattle.std.proofs.Common.{◌∙◌}
use Rattle.memchr.specs.Find.{is_byte3}
use Rattle.cq_sql_tokens.proofs.Runs.{first_is_prefix}
use Rattle.cq_sql_tokens.proofs.cutting.plain_len.Goals as goal

pub returns : goal.returns
returns c = c.unwrap_or.ensures ∙ first_is_prefix (is_byte3 59 39 45) c.args.bytes.now c.memchr3.result c.memchr3.ensures
