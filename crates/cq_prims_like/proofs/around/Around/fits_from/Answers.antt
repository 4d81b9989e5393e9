use Rattle.std.proofs.Common.{◌∙◌, ◌+◌, sym, subst, arith}
use Rattle.std.specs.Prelude.{Some}
use Rattle.memchr.specs.Find.{FindsNeedle}
use Rattle.cq_prims_like.proofs.AroundLemmas.{left_from, done_more, Left, fits_there, fits_nowhere}
use Rattle.cq_prims_like.proofs.around.Around.fits_from.Goals as goal

pub loop-next-init : goal.loop-next-init
loop-next-init c =
    left_from c.args.self.now c.requires.around c.args.text.now c.utf8.text 0 (Some c.args.first) (λ place low below at. omega arith) c.requires.found

pub returns-then-fits_at : goal.returns-then-fits_at
returns-then-fits_at c =
    let around = c.args.self.now in
    let text = c.args.text.now in
    let known = subst (Left around c.requires.around text c.utf8.text) c.in-Some.is c.loop-next.invariant in
    sym (fits_there around c.requires.around text c.utf8.text c.in-Some.place (known.0, sym c.fits_at.ensures ∙ c.if-fits_at.true))

pub loop-next-preserved : goal.loop-next-preserved
loop-next-preserved c =
    let around = c.args.self.now in
    let text = c.args.text.now in
    let place = c.in-Some.place in
    let known = subst (Left around c.requires.around text c.utf8.text) c.in-Some.is c.loop-next.invariant in
    let done = done_more around c.requires.around text c.utf8.text place known.1 (sym c.fits_at.ensures ∙ c.if-fits_at.false) in
    let found = subst (λ bytes. FindsNeedle bytes around.run (place + 1) c.place_from-next.result) c.as_bytes.ensures.value c.place_from-next.ensures in
    left_from around c.requires.around text c.utf8.text (place + 1) c.place_from-next.result done found

pub returns : goal.returns
returns c =
    let around = c.args.self.now in
    let text = c.args.text.now in
    let none = subst (Left around c.requires.around text c.utf8.text) c.in_default.is c.loop-next.invariant in
    sym (fits_nowhere around c.requires.around text c.utf8.text none)
