use Rattle.std.proofs.Common.{◌≡◌, ◌∷◌, ◌∙◌, [], refl, sym, ap}
use Rattle.std.specs.Str.{chars}
use Rattle.std.proofs.lemmas.Slice.Eq.{bytes_eq-Decides}
use Rattle.std.proofs.lemmas.Str.{chars-nil}
use Rattle.cq_model.specs.Like.{like, percent}
use Rattle.cq_prims_like.proofs.Fitting.{chars-percent}
use Rattle.cq_prims_like.proofs.AroundLemmas.{like_any}
use Rattle.cq_prims_like.proofs.around.fits_whole.Goals as goal

pub returns-then-eq : goal.returns-then-eq
returns-then-eq c =
    let text = chars c.args.text.now in
    let same : c.args.signs.now ≡ percent ∷ [] = (bytes_eq-Decides c.args.signs.now (percent ∷ [])).0 (sym c.eq.ensures ∙ c.if-eq.true) in
    let signs : chars c.args.signs.now ≡ percent ∷ [] = ap chars same ∙ chars-percent [] ∙ ap (λ l. percent ∷ l) chars-nil in
    c.if-eq.true ∙ sym (ap (λ s. like s text) signs ∙ like_any [] text refl)
