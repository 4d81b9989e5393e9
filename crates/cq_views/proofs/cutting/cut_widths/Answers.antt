use Rattle.std.proofs.Common.{◌≡◌, ◌∙◌, ℕ, List, ◌∷◌, map, take, sym, ap}
use Rattle.std.proofs.lemmas.List.{take_all}
use Rattle.std.proofs.lemmas.Simd.{map-map}
use Rattle.cq_views.specs.Cut.{width_at}
use Rattle.cq_model.specs.declared.query.Join.{Join}
use Rattle.cq_views.proofs.cutting.cut_widths.Goals as goal

pub returns : goal.returns
returns c =
    let width = width_at c.args.columns.now in
    let first = width c.args.query.now.first in
    let joins = c.args.query.now.joins in
    let all : take c.loop-join.join-index joins ≡ joins = take_all c.loop-join.join-index joins (rw c.as_slice-join-items.ensures at c.loop-join-test.false) in
    c.loop-join.invariant ∙ ap (λ (js : List Join). first ∷ map (λ j. width j.source) js) all
    ∙ ap (λ (ws : List ℕ). first ∷ ws) (sym (map-map width (λ (j : Join). j.source) joins))
