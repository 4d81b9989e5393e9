use Rattle.std.proofs.Common.{◌∙◌, sym, ap, subst}
use Rattle.std.specs.Prelude.{Some, slice_get}
use Rattle.std.specs.Bool.{Decides}
use Rattle.std.specs.Str.{chars}
use Rattle.memchr.specs.Find.{FindsNeedle}
use Rattle.cq_model.specs.Like.{like}
use Rattle.cq_prims_like.specs.Patterns.{IsFormOf, StandIn, run_of}
use Rattle.cq_prims_like.proofs.PieceLemmas.{pieces_fit}
use Rattle.cq_prims_like.proofs.Fitting.{infix_fits}
use Rattle.cq_prims_like.proofs.pattern.PatternForm.fits_from.Goals as goal

pub returns-in-Infix : goal.returns-in-Infix
returns-in-Infix c =
    let pattern = c.args.pattern.now in
    let text = c.args.text.now in
    let part = c.in-Infix.field-0 in
    let form = subst (λ f. IsFormOf f pattern) c.in-Infix.is c.requires.form in
    infix_fits text c.utf8.text part pattern c.utf8.pattern form (Some c.args.first) (c.requires.found part (ap run_of c.in-Infix.is))

pub stand_from-requires : goal.stand_from-requires
stand_from-requires c piece is =
    let text = subst (λ t. FindsNeedle t piece 0 (Some c.args.first)) (sym c.as_bytes.ensures.value) in
    text (c.requires.found piece (ap run_of c.in-Pieces.is ∙ ap (λ ps. slice_get ps 0) (sym c.deref.ensures.value) ∙ is))

pub returns-in-Pieces : goal.returns-in-Pieces
returns-in-Pieces c =
    let text = c.args.text.now in
    let pieces = c.in-Pieces.pieces in
    let form = subst (λ f. IsFormOf f c.args.pattern.now) c.in-Pieces.is c.requires.form in
    let lent = subst (λ ps. Decides c.stand_from.result (StandIn ps c.as_bytes.result.now)) c.deref.ensures.value c.stand_from.ensures in
    let stands = subst (λ t. Decides c.stand_from.result (StandIn pieces.items t)) c.as_bytes.ensures.value lent in
    pieces_fit pieces.items c.args.pattern.now text c.utf8.text form c.stand_from.result stands

pub fits_from-requires : goal.fits_from-requires
fits_from-requires c =
    let around = c.in-Around.around in
    let form = subst (λ f. IsFormOf f c.args.pattern.now) c.in-Around.is c.requires.form in
    record { around = form.1; found = c.requires.found around.run (ap run_of c.in-Around.is) }

pub returns-in-Around : goal.returns-in-Around
returns-in-Around c =
    let form = subst (λ f. IsFormOf f c.args.pattern.now) c.in-Around.is c.requires.form in
    c.fits_from.ensures ∙ ap (λ p. like p (chars c.args.text.now)) (sym form.0)
