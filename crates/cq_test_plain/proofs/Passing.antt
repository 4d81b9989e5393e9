-- The joined rows that pass WHERE, once they are listed.
use Rattle.std.proofs.Common.{◌≡◌, List, [], ◌∷◌, filter, length, refl, sym, ◌∙◌, ap, arith}
use Rattle.std.specs.Prelude.{Vec}
use Rattle.std.specs.Global.{Global}
use Rattle.cq_values.specs.Value.{Row}
use Rattle.cq_model_bags.specs.Bag.{Weighted, filtered, once_each}
use Rattle.cq_model_bags.proofs.Distincts.{once_each-filter}
use Rattle.cq_model.specs.declared.query.Join.{Join}
use Rattle.cq_model.specs.declared.query.Query.{Query}
use Rattle.cq_model.specs.Meaning.{Tables, chain, joined_rows, keeps}
use Rattle.cq_test_plain.specs.Joins.{all_joined, joined_with}
use Rattle.cq_test_plain.specs.Rows.{MakeUp}

-- with no join the rows are those of the first source
no_join : (tables : Tables) (xs : Weighted) (joins : List Join) → length joins ≡ 0 → chain tables xs joins ≡ xs
no_join tables xs [] none = refl
no_join tables xs (j ∷ joins) none = absurd (omega (arith, none))

module _ (q : Query) (tables : Tables) where
  pub all_of_first : (xs : Weighted) → xs ≡ tables q.first → length q.joins ≡ 0 → xs ≡ all_joined q tables
  all_of_first xs is none = is ∙ sym (no_join tables (tables q.first) q.joins none)

  -- the rows that are joined so far, and the joins that are left
  pub all_of_rest : (xs ys : Weighted) (join : Join) (others : List Join) → xs ≡ tables q.first → q.joins ≡ join ∷ others → ys ≡ chain tables (joined_with tables xs join) others → ys ≡ all_joined q tables
  all_of_rest xs ys join others is joins rest = rest ∙ ap (λ xs. chain tables (joined_with tables xs join) others) is ∙ sym (ap (chain tables (tables q.first)) joins)

  module _ (rows : List Row) (all : once_each rows ≡ all_joined q tables) where
    pub passing_make_up : (passing : Vec Row Global) → passing.items ≡ filter (keeps q.filter) rows → MakeUp (joined_rows q tables) passing
    passing_make_up passing are = ap once_each are ∙ once_each-filter (keeps q.filter) rows ∙ ap (filtered (keeps q.filter)) all
