use Rattle.std.proofs.Common.{◌∷◌, [], ◌++◌, ◌∙◌, ◌≡◌, List, ℤ, pos, ◌+ℤ◌, ◌≤ℤ◌, sym, ap, ap₂, subst, rules, FitsSigned, of_z, to_z}
use Rattle.std.specs.Int.{w128}
use Rattle.std.proofs.lemmas.Int.{to_z-of_z}
use Rattle.cq_values.specs.Value.{Row}
use Rattle.cq_model_bags.specs.Bag.{SameBag, once_each}
use Rattle.cq_views_state.proofs.Listing.{times-added, times-none}
use Rattle.cq_views_state.proofs.showing.push_times.Goals as goal

pub loop-time-init : goal.loop-time-init
loop-time-init c =
    let fits : FitsSigned w128 c.args.times = search rules in
    record {
      bag = times-none c.args.rows.now.rows c.args.row.now;
      begun = c.requires.begun;
      within = subst (λ (m : ℤ). pos 0 ≤ℤ m) (sym (to_z-of_z w128 c.args.times fits)) c.requires.times;
    }

pub loop-time-preserved : goal.loop-time-preserved
loop-time-preserved c =
    let n : ℤ = to_z w128 c.loop-time._time-bits in
    let row : Row = c.args.row.now in
    let fits : FitsSigned w128 (n +ℤ pos 1) = search rules in
    let less : (n +ℤ pos 1) ≤ℤ to_z w128 (of_z w128 c.args.times) = search rules in
    let is : c.push_copies.new.self.begun ≡ row = c.in_ok-push_copies.ensures.begun ∙ ap₂ (λ (r s : Row). r ++ s) c.loop-time.invariant.begun c.as_slice.ensures in
    let added = c.in_ok-end_row.ensures.rows ∙ ap (λ (rows : List Row). rows ++ c.push_copies.new.self.begun ∷ []) c.in_ok-push_copies.ensures.rows in
    let more = times-added c.args.rows.now.rows _ row _ n is c.loop-time.invariant.bag c.end_row.new.self.rows added in
    let same = sym (to_z-of_z w128 (n +ℤ pos 1) fits) in
    record {
      bag = subst (λ (m : ℤ). SameBag (once_each c.end_row.new.self.rows) (once_each c.args.rows.now.rows ++ (row, m) ∷ [])) same more;
      begun = c.in_ok-end_row.ensures.begun;
      within = subst (λ (m : ℤ). m ≤ℤ to_z w128 (of_z w128 c.args.times)) same less;
    }

pub returns-clause-rows : goal.returns-clause-rows
returns-clause-rows c =
    let n : ℤ = to_z w128 c.loop-time._time-bits in
    let same : n ≡ c.args.times = search rules in
    subst (λ (m : ℤ). SameBag (once_each c.loop-time.rows.rows) (once_each c.args.rows.now.rows ++ (c.args.row.now, m) ∷ [])) same c.loop-time.invariant.bag
