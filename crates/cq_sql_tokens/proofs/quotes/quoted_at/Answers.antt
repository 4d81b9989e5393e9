use Rattle.std.proofs.Common.{◌∙◌, string_bytes, ◌++◌, false, arith, rules}
use Rattle.std.proofs.lemmas.Str.Pattern.{split_parts, strip_prefix_char}
use Rattle.cq_sql_tokens.specs.Lexing.{content_at}
use Rattle.cq_sql_tokens.proofs.Contents.{ends_here, goes_on, is_open, is_quoted, is_not_quoted}
use Rattle.cq_sql_tokens.proofs.quotes.quoted_at.Goals as goal

pub returns-in_default-strip_prefix : goal.returns-in_default-strip_prefix
returns-in_default-strip_prefix c =
    let front = string_bytes c.loop-part.content in
    let parts = rw c.in-Some.is at (split_parts 39 c.loop-part.rest.now c.split_once.result c.split_once.ensures.cases (omega arith)) in
    let last = rw c.in_default-strip_prefix.is at (strip_prefix_char 39 c.in-Some.after.now c.strip_prefix.result c.strip_prefix.ensures.cases (omega arith)) in
    let read = ends_here front c.in-Some.part.now c.in-Some.after.now c.loop-part.rest.now (content_at false c.args.text.now) parts.0 parts.1 last c.loop-part.invariant.1 in
    is_quoted c.args.text.now (front ++ c.in-Some.part.now) c.from_string.result c.in-Some.after.now read (c.from_string.ensures ∙ c.in_ok-push_str.ensures.bytes)

pub loop-part-preserved : goal.loop-part-preserved
loop-part-preserved c =
    let front = string_bytes c.loop-part.content in
    let parts = rw c.in-Some.is at (split_parts 39 c.loop-part.rest.now c.split_once.result c.split_once.ensures.cases (omega arith)) in
    let more = rw c.in-Some-strip_prefix.is at (strip_prefix_char 39 c.in-Some.after.now c.strip_prefix.result c.strip_prefix.ensures.cases (omega arith)) in
    (search rules, rw (c.in_ok-push.ensures.bytes, c.in_ok-push_str.ensures.bytes, c.push.ensures.ascii (omega arith)) (goes_on front c.in-Some.part.now c.in-Some-strip_prefix.more.now c.loop-part.rest.now (content_at false c.args.text.now) (rw (← more) parts.0) parts.1 c.loop-part.invariant.1))

pub returns : goal.returns
returns c =
    let none = rw c.in_default.is at (split_parts 39 c.loop-part.rest.now c.split_once.result c.split_once.ensures.cases (omega arith)) in
    is_not_quoted c.args.text.now (is_open (string_bytes c.loop-part.content) c.loop-part.rest.now (content_at false c.args.text.now) none c.loop-part.invariant.1)
