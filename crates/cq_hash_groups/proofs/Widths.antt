-- A key has as many values as GROUP BY has columns.
use Rattle.std.proofs.Common.{◌≡◌, ℕ, ◌<◌, get_or, subst, sym, not, List, [], ◌∷◌, map, length, refl, Option, Some, None}
use Rattle.std.specs.List.{AllByRecursion}
use Rattle.std.proofs.lemmas.List.{length-map}
use Rattle.cq_values.specs.Value.{Row, column}
use Rattle.cq_values.specs.Order.{same_row}
use Rattle.cq_model.specs.Group.{key_of}
use Rattle.cq_model_bags.specs.Bag.{firsts}
use Rattle.cq_model_bags.proofs.Lists.{all-at, all-filter}
use Rattle.cq_hash_keys.specs.Keys.{HasValues}
use Rattle.cq_hash_groups.specs.Groups.{group_columns, group_keys}

all-firsts : (P : Row → Type 0) (rows : List Row) → AllByRecursion P rows → AllByRecursion P (firsts rows)
all-firsts P [] a = tt
all-firsts P (r ∷ rows) a = (a.0, all-filter P (λ s. not (same_row r s)) (firsts rows) (all-firsts P rows a.1))

all-keys : (columns : List ℕ) (rows : List Row) → AllByRecursion (HasValues (length columns)) (map (key_of columns) rows)
all-keys columns [] = tt
all-keys columns (r ∷ rows) = (length-map columns (column r), all-keys columns rows)

-- those of all groups
wide-keys : (keys : Option (List ℕ)) (rows : List Row) → AllByRecursion (HasValues (length (group_columns keys))) (group_keys keys rows)
wide-keys None rows = all-firsts (HasValues 0) ([] ∷ map (key_of []) rows) (refl, all-keys [] rows)
wide-keys (Some columns) rows = all-firsts (HasValues (length columns)) (map (key_of columns) rows) (all-keys columns rows)

-- the key of a group
pub wide-at : (keys : Option (List ℕ)) (rows found : List Row) (group : ℕ) → found ≡ group_keys keys rows → group < length found → HasValues (length (group_columns keys)) (get_or found group [])
wide-at keys rows found group is lt =
    all-at (HasValues (length (group_columns keys))) found group [] lt (subst (AllByRecursion (HasValues (length (group_columns keys)))) (sym is) (wide-keys keys rows))
