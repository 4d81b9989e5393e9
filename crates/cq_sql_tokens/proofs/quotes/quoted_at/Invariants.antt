use Rattle.std.proofs.Common.{◌≡◌, false, length, string_bytes}
use denote.Text.{Utf8}
use denote.Shadow.{shadow}
use Rattle.cq_sql_tokens.specs.Lexing.{content_at}
use Rattle.cq_sql_tokens.proofs.Contents.{with_front}
use Rattle.cq_sql_tokens.proofs.quotes.quoted_at.Given as goal

-- what is still read belongs behind the content so far
abbrev pub invariant-loop-part : goal.invariant-loop-part
invariant-loop-part l = shadow (Utf8 l.rest) × (with_front (string_bytes l.content) (content_at false l.rest) ≡ content_at false l.text)

abbrev pub decreases-loop-part : goal.decreases-loop-part
decreases-loop-part l = length l.rest
