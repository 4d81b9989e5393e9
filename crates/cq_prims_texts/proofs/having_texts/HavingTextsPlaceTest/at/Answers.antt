use Rattle.std.proofs.Common.{◌<◌, [], ℕ, List, Bor, arith, subst, length, get_or}
use Rattle.std.specs.Prelude.{None}
use Rattle.std.proofs.lemmas.List.{length-map}
use lib.ListN.{get_or-map}
use Rattle.memchr.specs.Find.{FindsNeedle}
use Rattle.cq_vectors_stored.specs.Columns.{texts_of}
use Rattle.cq_prims_texts.proofs.having_texts.HavingTextsPlaceTest.at.Goals as goal

pub fits-requires : goal.fits-requires
fits-requires c =
    let t = c.args.self.now in
    let i = c.args.i in
    let at = get_or-map (λ (x : Bor (List ℕ)). x.now) t.texts.now i (record { ref_ptr = (0, 0); now = [] }) in
    let below : i < length (texts_of t.texts.now) = omega (arith, c.requires, length-map t.texts.now (λ x. x.now)) in
    subst (λ text. FindsNeedle text t.sought.now.run 0 (get_or t.places i None)) at (t.found i below)
