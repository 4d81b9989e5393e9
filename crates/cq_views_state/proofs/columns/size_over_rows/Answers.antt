use Rattle.std.proofs.Common.{◌≡◌, ◌<◌, ◌^◌, ℕ, List, ap, sym, ◌∙◌, subst}
use Rattle.cq_model.specs.Sizes.{stored_size}
use Rattle.cq_model.specs.Width.{Extent, limits_of, width}
use Rattle.cq_views_state.proofs.columns.size_over_rows.Goals as goal

pub size_over-requires : goal.size_over-requires
size_over-requires c =
    let e = c.args.expr.now in
    let same : width e (limits_of c.deref.result.now) ≡ width e (λ i. stored_size) =
    ap (λ (ns : List ℕ). width e (limits_of ns)) c.deref.ensures.value ∙ c.in_ok-columns.ensures in
    subst (λ (x : Extent). x.widest < 2 ^ 127) (sym same) c.requires

pub returns : goal.returns
returns c =
    let e = c.args.expr.now in
    let same : width e (limits_of c.deref.result.now) ≡ width e (λ i. stored_size) =
    ap (λ (ns : List ℕ). width e (limits_of ns)) c.deref.ensures.value ∙ c.in_ok-columns.ensures in
    c.size_over.ensures ∙ ap (λ (x : Extent). x.size) same
