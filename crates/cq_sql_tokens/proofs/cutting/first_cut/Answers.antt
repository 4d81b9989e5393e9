use Rattle.std.proofs.Common.{true, false, sym, ◌∙◌}
use Rattle.std.proofs.lemmas.List.Sums.{prefix_len-le-length}
use Rattle.cq_sql_tokens.specs.Runs.{is_plain}
use Rattle.cq_sql_tokens.proofs.Runs.{end_behind, blank_behind}
use Rattle.cq_sql_tokens.proofs.cutting.first_cut.Goals as goal

pub split_at-requires : goal.split_at-requires
split_at-requires c = rw c.plain_len-plain.ensures (prefix_len-le-length is_plain c.args.bytes.now)

pub returns-then-is_all_blank-clause-end : goal.returns-then-is_all_blank-clause-end
returns-then-is_all_blank-clause-end c =
    end_behind c.args.bytes.now c.split_at.result.1.now c.plain_len-plain.result c.plain_len-plain.ensures c.split_at.ensures.back c.cut_of-cut.result.end c.cut_of-cut.ensures.end

pub returns-then-is_all_blank-clause-blank : goal.returns-then-is_all_blank-clause-blank
returns-then-is_all_blank-clause-blank c =
    blank_behind c.args.bytes.now c.split_at.result.1.now c.plain_len-plain.result c.plain_len-plain.ensures c.split_at.ensures.back c.split_at.result.0.now true c.cut_of-cut.result.blank c.split_at.ensures.front (sym c.if-is_all_blank.true ∙ c.is_all_blank.ensures) c.cut_of-cut.ensures.blank

pub returns-else-is_all_blank-clause-end : goal.returns-else-is_all_blank-clause-end
returns-else-is_all_blank-clause-end c =
    end_behind c.args.bytes.now c.split_at.result.1.now c.plain_len-plain.result c.plain_len-plain.ensures c.split_at.ensures.back c.cut_of-cut.result.end c.cut_of-cut.ensures.end

pub returns-else-is_all_blank-clause-blank : goal.returns-else-is_all_blank-clause-blank
returns-else-is_all_blank-clause-blank c =
    c.if-is_all_blank.false ∙ blank_behind c.args.bytes.now c.split_at.result.1.now c.plain_len-plain.result c.plain_len-plain.ensures c.split_at.ensures.back c.split_at.result.0.now false c.cut_of-cut.result.blank c.split_at.ensures.front (sym c.if-is_all_blank.false ∙ c.is_all_blank.ensures) c.cut_of-cut.ensures.blank
