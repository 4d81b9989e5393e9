-- Forms of patterns of which a text has to have a run.
use Rattle.std.proofs.Common.{◌≡◌, ℕ, false, List, [], ◌∷◌, refl, sym, ap, subst, ◌∙◌, Option}
use Rattle.std.specs.Prelude.{Some, None, unwrap_or, slice_get}
use Rattle.std.specs.Bool.{Decides}
use Rattle.std.specs.Str.{chars, IsUtf8}
use Rattle.memchr.specs.Find.{FindsNeedle}
use Rattle.cq_model.specs.Like.{like}
use Rattle.cq_prims_like.specs.declared.pattern.PatternForm.{PatternForm}
use Rattle.cq_prims_like.specs.declared.pattern.PatternForm.TheVariants.{Whole, Prefix, Suffix, Infix, Pieces, Around, Having, Other}
use Rattle.cq_prims_like.specs.Patterns.{IsFormOf, ArePiecesOf, StandIn, run_of}
use Rattle.cq_prims_like.proofs.Fitting.{infix_fits, run_missing}
use Rattle.cq_prims_like.proofs.PieceLemmas.{none_stands, pieces_fit}
use Rattle.cq_prims_like.proofs.AroundLemmas.{fits_nowhere}

pub same_run : (a b : List ℕ) → Some a ≡ Some b → a ≡ b
same_run a b e = ap (λ (r : Option (List ℕ)). unwrap_or r a) e

module _ (pattern text run : List ℕ) (u : IsUtf8 pattern) (valid : IsUtf8 text) (none : FindsNeedle text run 0 None) where
  pieces_missing : (pieces : List (List ℕ)) → ArePiecesOf pieces pattern → slice_get pieces 0 ≡ Some run → like (chars pattern) (chars text) ≡ false
  pieces_missing [] form is = absurd (cc)
  pieces_missing (piece ∷ pieces) form is =
      let nowhere = subst (λ r. FindsNeedle text r 0 None) (sym (same_run piece run is)) none in
      let stands : Decides false (StandIn (piece ∷ pieces) text) = (λ h. absurd (cc), λ h. absurd (none_stands piece pieces text nowhere h)) in
      sym (pieces_fit (piece ∷ pieces) pattern text valid form false stands)

  -- where the run is nowhere, the pattern does not fit
  pub run_nowhere : (form : PatternForm) → IsFormOf form pattern → run_of form ≡ Some run → like (chars pattern) (chars text) ≡ false
  run_nowhere (Whole whole) form is = absurd (cc)
  run_nowhere (Prefix front) form is = absurd (cc)
  run_nowhere (Suffix end) form is = absurd (cc)
  run_nowhere (Infix part) form is = sym (infix_fits text valid part pattern u form None (subst (λ r. FindsNeedle text r 0 None) (sym (same_run part run is)) none))
  run_nowhere (Pieces pieces) form is = pieces_missing pieces.items form is
  run_nowhere (Around around) form is =
      let nowhere = subst (λ r. FindsNeedle text r 0 None) (sym (same_run around.run run is)) none in
      ap (λ p. like p (chars text)) form.0 ∙ fits_nowhere around form.1 text valid (λ place low below at. nowhere place low below at.0)
  run_nowhere (Having part) form is = run_missing text valid part pattern u form None (subst (λ r. FindsNeedle text r 0 None) (sym (same_run part run is)) none) refl
  run_nowhere Other form is = absurd (cc)
