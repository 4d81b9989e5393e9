use Rattle.std.proofs.Common.{ap, ◌∙◌}
use Rattle.std.specs.List.{prefix_len}
use Rattle.cq_sql_language.specs.Characters.{is_word_byte}
use Rattle.cq_sql_tokens.proofs.Boundaries.{after_prefix, word_is_ascii}
use Rattle.cq_sql_tokens.proofs.words.word_at.Goals as goal

pub split_at-requires : goal.split_at-requires
split_at-requires c =
    after_prefix is_word_byte c.args.text.now c.word_len.result word_is_ascii c.utf8.text (c.word_len.ensures ∙ ap (prefix_len is_word_byte) c.as_bytes.ensures.value)
