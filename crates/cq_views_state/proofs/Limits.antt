-- Joined rows and what changes add to them are few where the sources are, and stored.
use Rattle.std.proofs.Common.{◌≡◌, ◌∙◌, ℕ, ◌+◌, ◌*◌, ◌≤◌, ◌^◌, neg_ℤ, ◌+ℤ◌, Bool, List, [], ◌∷◌, ◌++◌, map, refl, sym, ap, subst, arith}
use Rattle.std.proofs.Math.Nat.{mul_assoc}
use Rattle.std.proofs.lemmas.Int.{ints}
use Rattle.std.proofs.lemmas.Nat.{mul-le}
use Rattle.std.specs.List.{AllByRecursion}
use Rattle.cq_values.specs.Value.{Row}
use Rattle.cq_model_bags.proofs.Bags.{filtered-respects, same-append, same-refl, same-sym, same-trans}
use Rattle.cq_model_bags.proofs.Linears.{filtered-append}
use Rattle.cq_model_bags.proofs.Totals.{weight_of-append, weight_of-negative}
use Rattle.cq_model_bags.specs.Bag.{Weighted, SameBag, difference, filtered, joined, negative, weight_of}
use Rattle.cq_model_bags.specs.Size.{IsClean}
use Rattle.cq_views_model.specs.Delta.{chain_change, changed}
use Rattle.cq_model_laws.proofs.Chains.{chain-law, chain-same}
use Rattle.cq_model.specs.Meaning.{Tables, chain, joined_rows, keeps, meets}
use Rattle.cq_model.specs.Views.{sources_of}
use Rattle.cq_model.specs.declared.query.Join.{Join}
use Rattle.cq_model.specs.declared.query.Query.{Query}
use Rattle.cq_deltas_joins.proofs.Limits.{join_within-product}
use Rattle.cq_deltas_joins.proofs.Sizes.{sizes-least}
use Rattle.cq_deltas_joins.proofs.Spans.{sizes-filtered}
use Rattle.cq_deltas_joins.proofs.Storing.{stored-filtered, stored-joined}
use Rattle.cq_deltas_joins.specs.Steps.{AreStored}
use Rattle.cq_sides_weights.proofs.RowByRow.{sizes-append, sizes-cons}
use Rattle.cq_sides_weights.specs.Held.{sizes}
use Rattle.cq_views_state.specs.State.{HoldStored, StayCountable, crossed}

-- rows that are taken off have the sizes that they had
sizes-negative : (xs : Weighted) → sizes (negative xs) ≡ sizes xs
sizes-negative [] = refl
sizes-negative (x ∷ xs) =
    omega (arith, ints, sizes-cons (x.0, neg_ℤ x.1) (negative xs), sizes-cons x xs, sizes-negative xs)

-- what leads from one bag to another is their difference
taken_off : (ns os cs : Weighted) → SameBag ns (os ++ cs) → SameBag cs (difference ns os)
taken_off ns os cs led = record {
  at = λ r.
      let made = weight_of-append ns (negative os) r ∙ ap (λ w. weight_of ns r +ℤ w) (weight_of-negative os r) in
      omega (arith, ints, led.at r, weight_of-append os cs r, made);
}

-- a chain is within the product of the sizes
chain-crossed : (tables : Tables) (xs : Weighted) (js : List Join)
    → sizes (chain tables xs js) ≤ sizes xs * crossed tables (map (λ j. j.source) js)
chain-crossed tables xs [] = omega arith
chain-crossed tables xs (j ∷ js) =
    let on = meets j.on in
    let ys = tables j.source in
    let n = crossed tables (map (λ j. j.source) js) in
    let rest = chain-crossed tables (joined on xs ys) js in
    let whole = mul_assoc (sizes xs) (sizes ys) n in
    omega (arith, rest, whole, mul-le (sizes (joined on xs ys)) n (sizes xs * sizes ys) n (join_within-product on xs ys) (omega arith))

-- a chain of stored rows is stored
stored-chain : (tables : Tables) (xs : Weighted) (js : List Join) → AreStored xs → AllByRecursion (λ s. AreStored (tables s)) (map (λ j. j.source) js)
    → AreStored (chain tables xs js)
stored-chain tables xs [] stored all = stored
stored-chain tables xs (j ∷ js) stored all =
    stored-chain tables (joined (meets j.on) xs (tables j.source)) js (stored-joined (meets j.on) xs (tables j.source) stored all.0) all.1

module _ (query : Query) where
  -- the joined rows, before WHERE
  abbrev all_rows : Tables → Weighted
  all_rows tables = chain tables (tables query.first) query.joins

  -- and what changes of the sources add to them
  abbrev all_change : Tables → Tables → Weighted
  all_change tables changes = chain_change tables changes (tables query.first) (changes query.first) query.joins

  -- those that WHERE keeps are no more than the sources' rows, multiplied
  pub rows-crossed : (tables : Tables) (most : ℕ) → crossed tables (sources_of query) ≤ most → sizes (joined_rows query tables) ≤ most
  rows-crossed tables most few =
      omega (arith, few, sizes-filtered (keeps query.filter) (all_rows tables), chain-crossed tables (tables query.first) query.joins)

  -- and stored where these are
  pub rows-stored : (tables : Tables) → HoldStored query tables → AreStored (joined_rows query tables)
  rows-stored tables stored = stored-filtered (keeps query.filter) (all_rows tables) (stored-chain tables (tables query.first) query.joins stored.0 stored.1)

  -- what leads from joined rows to others is what these have more than those
  all-led : (tables changes : Tables) (stay : StayCountable (sources_of query) tables changes) → SameBag (all_rows stay.behind) (all_rows tables ++ all_change tables changes)
  all-led tables changes stay =
      same-trans (all_rows stay.behind) (all_rows (changed tables changes)) (all_rows tables ++ all_change tables changes)
      (chain-same stay.behind (changed tables changes) (stay.behind query.first) (changed tables changes query.first) stay.same.0 query.joins stay.same.1)
      (chain-law tables changes (tables query.first) (changes query.first) query.joins)

  -- rows that are some of those that change the joined rows, each of them once, are few beside them
  pub rows-few : (tables changes : Tables) (keep : Row → Bool) (given : Weighted) → IsClean given
      → SameBag given (filtered keep (all_change tables changes)) → StayCountable (sources_of query) tables changes
      → sizes (joined_rows query tables) + sizes given ≤ 2 ^ 122
  rows-few tables changes keep given clean same stay =
      let old = all_rows tables in
      let new = all_rows stay.behind in
      let more = all_change tables changes in
      let led = filtered-respects keep new (old ++ more) (all-led tables changes stay) in
      let is : SameBag given (difference (filtered keep new) (filtered keep old)) =
      taken_off (filtered keep new) (filtered keep old) given
      (same-trans (filtered keep new) (filtered keep (old ++ more)) (filtered keep old ++ given) led
      (subst (λ (xs : Weighted). SameBag xs (filtered keep old ++ given)) (sym (filtered-append keep old more))
      (same-append (filtered keep old) (filtered keep old) (filtered keep more) given (same-refl (filtered keep old)) (same-sym given (filtered keep more) same)))) in
      omega (
        arith,
        stay.before,
        stay.after,
        chain-crossed tables (tables query.first) query.joins,
        chain-crossed stay.behind (stay.behind query.first) query.joins,
        sizes-filtered (keeps query.filter) old,
        sizes-filtered keep old,
        sizes-filtered keep new,
        sizes-append (filtered keep new) (negative (filtered keep old)),
        sizes-negative (filtered keep old),
        sizes-least given (difference (filtered keep new) (filtered keep old)) clean is,
      )
