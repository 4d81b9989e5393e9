use Rattle.std.proofs.Common.{◌∷◌, [], ◌++◌, ℤ, subst, rules, FitsSigned}
use Rattle.std.specs.Int.{w128}
use Rattle.std.proofs.lemmas.Int.{to_z-of_z}
use Rattle.cq_values.specs.Value.{Row}
use Rattle.cq_model_bags.specs.Bag.{SameBag, once_each}
use Rattle.cq_views_state.proofs.Listing.{entry-positive, listed-more}
use Rattle.cq_views_state.proofs.showing.listed.Goals as goal

pub push_times-requires-clause-times : goal.push_times-requires-clause-times
push_times-requires-clause-times c =
    let weight = c.pair_at-weight.result.1 in
    let fits : FitsSigned w128 weight = search rules in
    rw (to_z-of_z w128 weight fits) (entry-positive c.args.images.now.entries c.loop-place.place c.pair_at-weight.result.0.now weight c.pair_at-weight.ensures c.len-place-end.ensures.clean c.requires)

pub loop-place-preserved : goal.loop-place-preserved
loop-place-preserved c =
    let weight = c.pair_at-weight.result.1 in
    let row : Row = c.pair_at-weight.result.0.now in
    let fits : FitsSigned w128 weight = search rules in
    let old = c.loop-place.rows.rows in
    let add = subst (λ (n : ℤ). SameBag (once_each c.push_times.new.rows.rows) (once_each old ++ (row, n) ∷ [])) (to_z-of_z w128 weight fits) c.in_ok-push_times.ensures.rows in
    record {
      bag = listed-more c.args.images.now.entries c.loop-place.place (row, weight) c.pair_at-weight.ensures old c.push_times.new.rows.rows c.loop-place.invariant.bag add;
      begun = c.in_ok-push_times.ensures.begun;
    }
