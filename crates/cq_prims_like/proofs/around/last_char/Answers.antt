use Rattle.std.proofs.Common.{◌≡◌, ◌++◌, ℕ, ap, arith, length}
use lib.Utf8.{encode}
use Rattle.cq_prims_like.proofs.AroundLemmas.{no_chars, chars_last}
use Rattle.cq_prims_like.proofs.around.last_char.Goals as goal

pub returns-in_err-last : goal.returns-in_err-last
returns-in_err-last c =
    rw c.from_residual.ensures (no_chars c.args.text.now (omega (arith, ap {B = ℕ} length c.chars-letters.ensures.rest, c.in_err-last.ensures.steps.0)))

pub returns : goal.returns
returns c =
    let split : c.args.text.now ≡ c.as_str.result.now ++ encode c.in_ok-last.last = cc (c.in_ok-last.ensures.steps) in
    (c.as_str.utf8, chars_last c.in_ok-last.last c.as_str.result.now c.args.text.now c.as_str.utf8 c.utf8.text split)
