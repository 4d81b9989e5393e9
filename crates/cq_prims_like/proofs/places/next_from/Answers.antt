use Rattle.std.proofs.Common.{subst, sym, arith}
use Rattle.memchr.specs.Find.{FindsNeedle}
use Rattle.cq_prims_like.proofs.PlaceLemmas.{none_later, first_later}
use Rattle.cq_prims_like.proofs.places.next_from.Goals as goal

pub returns-in_default : goal.returns-in_default
returns-in_default c =
    let known = c.requires.known in
    let run = c.args.run.now in
    let bytes = c.args.bytes.now in
    let found = subst (λ r. FindsNeedle bytes run known.0 r) c.in-Some.is known.2 in
    first_later run bytes known.0 c.args.start known.1 c.in-Some.place (omega (arith, c.if-place-start.false)) found

pub returns-in_default-2 : goal.returns-in_default-2
returns-in_default-2 c =
    let known = c.requires.known in
    let run = c.args.run.now in
    let bytes = c.args.bytes.now in
    let none = subst (λ r. FindsNeedle bytes run known.0 r) c.in_default.is known.2 in
    subst (λ r. FindsNeedle bytes run c.args.start r) (sym c.in_default.is) (none_later run bytes known.0 c.args.start known.1 none)
