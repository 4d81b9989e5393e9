use Rattle.std.proofs.Common.{◌∙◌, sym}
use Rattle.std.specs.Str.{chars}
use Rattle.cq_prims_like.proofs.AroundLemmas.{single_left, like_missing, like_met, like_not_met, like_any}
use Rattle.cq_prims_like.proofs.around.fits_end.Goals as goal

pub returns-in_default-last_char : goal.returns-in_default-last_char
returns-in_default-last_char c =
    let known = c.loop-sign.invariant in
    let signs = chars c.loop-sign.left.now in
    let text = chars c.loop-sign.front.now in
    sym (like_missing signs (chars c.in-Some.more.now) c.in-Some.sign c.in-Some.ensures.1 known.2 text c.in_default-last_char.ensures) ∙ known.3

pub returns-then-not-stands_for : goal.returns-then-not-stands_for
returns-then-not-stands_for c =
    let known = c.loop-sign.invariant in
    let signs = chars c.loop-sign.left.now in
    let text = chars c.loop-sign.front.now in
    let letter = c.in-Some-last_char.letter in
    sym (like_not_met signs (chars c.in-Some.more.now) c.in-Some.sign c.in-Some.ensures.1 known.2 text (chars c.in-Some-last_char.before.now) letter c.in-Some-last_char.ensures.1
    (sym c.stands_for.ensures ∙ c.if-not-stands_for.true)) ∙ known.3

pub loop-sign-preserved : goal.loop-sign-preserved
loop-sign-preserved c =
    let known = c.loop-sign.invariant in
    let signs = chars c.loop-sign.left.now in
    let more = chars c.in-Some.more.now in
    let text = chars c.loop-sign.front.now in
    let letter = c.in-Some-last_char.letter in (
      c.in-Some.ensures.0,
      c.in-Some-last_char.ensures.0,
      single_left signs more c.in-Some.sign c.in-Some.ensures.1 known.2,
      like_met signs more c.in-Some.sign c.in-Some.ensures.1 known.2 text (chars c.in-Some-last_char.before.now) letter c.in-Some-last_char.ensures.1
          (sym c.stands_for.ensures ∙ c.if-not-stands_for.false) ∙ known.3,
    )

pub returns : goal.returns
returns c = sym (like_any (chars c.loop-sign.left.now) (chars c.loop-sign.front.now) c.in_default.ensures) ∙ c.loop-sign.invariant.3
