use Rattle.std.proofs.Common.{◌∙◌, ◌≡◌, ℕ, ap, get_or, false, replicate, sym}
use Rattle.std.proofs.lemmas.Bool.{OnTrue_from}
use Rattle.cq_vectors_masks.specs.Plane.{is_set}
use Rattle.cq_vectors_masks.proofs.PlaneLemmas.{none_set}
use lib.Pointwise.{bytes_decides}
use Rattle.cq_vectors_masks.proofs.plane.Plane.is_clear.Goals as goal

pub returns : goal.returns
returns c = OnTrue_from c.eq.result ((place : ℕ) → get_or c.args.self.now place false ≡ false) (λ yes place.
    let none : ℕ = 0 in
    let clear : c.self.inside.words ≡ replicate 16 none = (bytes_decides _ _).0 (sym c.eq.ensures ∙ yes) in
    sym (ap (λ l. get_or l place false) c.self.view_is) ∙ sym (c.self.invariant.1 place) ∙ ap (λ ws. is_set ws place) clear ∙ none_set 16 place)
