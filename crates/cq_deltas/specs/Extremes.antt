-- Values with their counts, as a bag of rows of one column.
use Rattle.std.specs.Prelude.{◌≡◌, ℕ, ℤ, pos, ◌+ℤ◌, int_lt, Bool, true, false, not, if◌then◌else◌, List, [], ◌∷◌, ◌++◌, map, filter, Option, None, IfSome, unwrap_or}
use Rattle.std.specs.Ordering.{int_eq, match_ordering}
use Rattle.std.specs.BTreeMap.{is_at}
use Rattle.std.specs.List.{count_by, list_any}
use Rattle.std.specs.List.Sorted.{IsStrictlySortedBy}
use Rattle.std.specs.Map.{lookup}
use Rattle.cq_values.specs.declared.value.Value.{Value}
use Rattle.cq_values.specs.declared.value.Value.TheVariants.{Null}
use Rattle.cq_values.specs.Value.{Row}
use Rattle.cq_values.specs.Order.{row_cmp, same_row, value_cmp}
use Rattle.cq_model_bags.specs.Bag.{Weighted, weight_of, SameBag}
use Rattle.cq_model.specs.Condition.{is_null}
use Rattle.cq_model.specs.Group.{extreme_of}

-- the values with their counts, and those that have room
pub record Held : Type 0 where
  pub values : Weighted
  pub room : List Value

-- a value as a row of one column
abbrev pub alone : Value → Row
alone v = v ∷ []

-- values with their counts, each as such a row
abbrev pub as_rows : List (Value × ℤ) → Weighted
as_rows values = map (λ e. (alone e.0, e.1)) values

-- the rows whose weight is not zero
abbrev pub nonzero : Weighted → Weighted
nonzero xs = filter (λ x. not (int_eq x.1 (pos 0))) xs

-- what is held of these counts and of so many NULLs, which come last
abbrev pub held_of : List (Value × ℤ) → ℤ → Held
held_of counts nulls = record {
  values = nonzero (as_rows counts ++ (alone Null, nulls) ∷ []);
  room = map (λ e. e.0) counts;
}

-- the values ascend, and NULL is not among them
pub record AreCounts (counts : List (Value × ℤ)) : Type 0 where
  pub ordered : IsStrictlySortedBy value_cmp (map (λ e. e.0) counts)
  pub known : lookup (is_at (value_cmp Null)) counts ≡ None

-- a value is counted
abbrev pub is_counted : Value × ℤ → Bool
is_counted entry = int_lt (pos 0) entry.1

-- so many values are
abbrev pub counted_entries : List (Value × ℤ) → ℕ
counted_entries counts = count_by is_counted counts

-- counts of values, so many of which are counted
pub record IsCounted (counts : List (Value × ℤ)) (n : ℕ) : Type 0 where
  pub are : AreCounts counts
  pub different : n ≡ counted_entries counts

-- a row in front of others, if its weight is not zero
abbrev pub in_front : Row → ℤ → Weighted → Weighted
in_front r w xs = if int_eq w (pos 0) then xs else (r, w) ∷ xs

-- rows in order, with a weight added to that of a row
abbrev pub with_more : Row → ℤ → Weighted → Weighted
with_more r w [] = in_front r w []
with_more r w (x ∷ xs) =
    match_ordering (row_cmp r x.0) (in_front r w (x ∷ xs)) (in_front r (x.1 +ℤ w) xs) (x ∷ with_more r w xs)

-- new is old with a row so many times more, in order
pub record IsAdded (r : Row) (w : ℤ) (old new : Weighted) : Type 0 where
  pub list : new ≡ with_more r w old
  pub bag : SameBag new (old ++ (r, w) ∷ [])

-- there is room for a value; NULL needs none
abbrev pub HasRoom : Value → List Value → Type 0
HasRoom v room = is_null v ≡ false → list_any (λ w. same_row (alone v) (alone w)) room ≡ true

-- what had room has room
abbrev pub KeepsRoom : List Value → List Value → Type 0
KeepsRoom old new = (v : Value) → HasRoom v old → HasRoom v new

-- each value but this one has the room that it had
abbrev pub KeepsOtherRoom : Value → List Value → List Value → Type 0
KeepsOtherRoom v old new = (w : Value) → same_row (alone v) (alone w) ≡ false → HasRoom w old → HasRoom w new

-- a value other than NULL has room, but is not counted
pub record IsGone (v : Value) (held : Held) : Type 0 where
  pub known : is_null v ≡ false
  pub room : HasRoom v held.room
  pub none : weight_of held.values (alone v) ≡ pos 0

-- a value is the extreme of a bag, however it is listed, NULL left out
pub record IsExtreme (best : Value → Value → Value) (values : Weighted) (found : Option Value) : Type 0 where
  pub value : extreme_of best values ≡ unwrap_or found Null
  pub of_bag : (bag : Weighted) → SameBag values bag → extreme_of best bag ≡ unwrap_or found Null
  pub known : IfSome found (λ v. is_null v ≡ false)
