use Rattle.std.proofs.Common.{◌≡◌, ◌+◌, ◌∷◌, ◌∙◌, sym, ap, subst, drop, length, ℕ}
use Rattle.std.specs.Prelude.{slice_get}
use Rattle.cq_prims_like.specs.Patterns.{StandIn}
use Rattle.cq_prims_like.proofs.PieceLemmas.{first_given, first_taken, whole_rest}
use Rattle.cq_prims_like.proofs.pieces.stand_from.Goals as goal

pub returns-in-Some : goal.returns-in-Some
returns-in-Some c =
    let text = c.args.text.now in
    let pieces = c.args.pieces.now in
    let piece = c.in-Some.piece.now in
    let more = c.in-Some.more.now in
    let split : pieces ≡ piece ∷ more = c.in-Some.ensures.cases.0 in
    let found = c.requires piece (ap (λ ps. slice_get ps 0) split) in
    let n = c.args.first + length c.needle.result.now in
    let rest = whole_rest text n ∙ ap (λ (m : ℕ). drop m text) (ap (λ l. c.args.first + length l) c.needle.ensures) in (
      λ h. subst (λ ps. StandIn ps text) (sym split) (first_given piece more text c.args.first found (subst (StandIn more) rest (c.stand_in.ensures.0 h))),
      λ h. c.stand_in.ensures.1 (subst (StandIn more) (sym rest) (first_taken piece more text c.args.first found (subst (λ ps. StandIn ps text) split h))),
    )
