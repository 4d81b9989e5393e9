use Rattle.std.proofs.Common.{◌≡◌, ◌∙◌, List, ℕ, map, length, replicate, rules, refl, sym}
use Rattle.std.proofs.lemmas.Simd.{splat_is_map}
use Rattle.std.proofs.lemmas.List.{append-nil}
use Rattle.cq_model.specs.Sizes.{stored_size}
use Rattle.cq_views_model.specs.Query.{key_columns}
use Rattle.cq_views_state.proofs.columns.group_sizes.Goals as goal

pub loop-aggregate-init : goal.loop-aggregate-init
loop-aggregate-init c =
    let keys : List ℕ = key_columns c.args.query.now in
    let are : c.in_ok-sizes.sizes.items ≡ replicate (length keys) stored_size = search rules in
    are ∙ splat_is_map keys (length keys) stored_size refl ∙ sym (append-nil (map (λ k. stored_size) keys))
