-- Groups by their places.
use Rattle.std.proofs.Common.{◌≡◌, ℕ, zero, suc, ◌+◌, ◌<◌, ◌≤◌, true, List, [], ◌∷◌, ◌++◌, length, take, get_or, position, slice_get, Option, Some, is_some, unwrap_or, refl, sym, ◌∙◌, ap, ap₂, subst, arith}
use Rattle.std.specs.List.{AllByRecursion, IsDistinct}
use Rattle.std.specs.Map.{keys_of, values_of}
use Rattle.std.proofs.lemmas.List.{get_or-map, length-append, length-map, map-append, take_all}
use Rattle.std.proofs.lemmas.List.Quantifiers.{position-Some}
use Rattle.std.proofs.lemmas.Option.{get_or_from_slice_get, slice_get-get_or, slice_get_within}
use Rattle.std.proofs.lemmas.Map.Entries.{lookup_from_place}
use Rattle.indexmap.specs.IndexMap.{IndexMap}
use Rattle.indexmap.specs.Layout.{set_value_at}
use Rattle.indexmap.proofs.CallerLemmas.{updates-with_value_at}
use Rattle.cq_values.specs.Value.{Row}
use Rattle.cq_values.specs.Order.{same_row}
use Rattle.cq_values.specs.Keys.{same_row-equiv, same_row-refl, same_row-same}
use Rattle.cq_model_bags.proofs.Totals.{by_test}
use Rattle.cq_deltas.specs.declared.change.Addend.{Addend}
use Rattle.cq_deltas.specs.Placed.{Placed}
use Rattle.cq_deltas.specs.declared.group.Group.{Group as StoredGroup}
use Rattle.cq_deltas.specs.Additions.{Addition}
use Rattle.cq_deltas.specs.Kept.{HaveRoom, KeepRoom}
use Rattle.cq_deltas.specs.Keyed.{AddsBehind, HasKeys, IsReadyAt, IsReadyFor, KeepPlaces, KeyedGroups, addition_at, additions_at, held_at, key_at, stored_at}
use Rattle.cq_deltas.proofs.AtKeys.{SetsAt, is_without_rows}
use Rattle.cq_model_bags.proofs.Lists.{all-at}

-- ---- what stands at a place
-- a group that is ready is there
pub ready-there : (groups : KeyedGroups) (i : ℕ) (addends : List (Option Addend)) → IsReadyAt addends groups i → i < length groups
ready-there [] i addends ready = absurd ready
ready-there (e ∷ groups) zero addends ready = omega arith
ready-there (e ∷ groups) (suc i) addends ready = omega (arith, ready-there groups i addends ready)

-- so it is with a key
pub key-there : (groups : KeyedGroups) (i : ℕ) (k : Row) → slice_get (keys_of groups) i ≡ Some k → i < length groups
key-there [] i k is = absurd (cc is)
key-there (e ∷ groups) zero k is = omega arith
key-there (e ∷ groups) (suc i) k is = omega (arith, key-there groups i k is)

-- a place of the list has a key
key-stands : (groups : KeyedGroups) (i : ℕ) → i < length groups → slice_get (keys_of groups) i ≡ Some (key_at groups i)
key-stands [] i h = absurd (omega (arith, h))
key-stands (e ∷ groups) zero h = refl
key-stands (e ∷ groups) (suc i) h = key-stands groups i (omega (arith, h))

-- the group of a key that stands at a place is stored
key-stored : (groups : KeyedGroups) (i : ℕ) (k : Row) → slice_get (keys_of groups) i ≡ Some k → is_some (stored_at groups k) ≡ true
key-stored [] i k is = absurd (cc is)
key-stored (e ∷ groups) zero k is =
    let here : same_row k e.0 ≡ true = subst (λ (o : Option Row). same_row k (unwrap_or o []) ≡ true) (sym is) (same_row-refl k) in
    rw here refl
key-stored (e ∷ groups) (suc i) k is = by_test (same_row k e.0) (λ b. rw b refl) (λ b. rw b (key-stored groups i k is))

pub place-stored : (groups : KeyedGroups) (i : ℕ) (addends : List (Option Addend)) (k : Row) → IsReadyAt addends groups i → same_row (key_at groups i) k ≡ true → is_some (stored_at groups k) ≡ true
place-stored groups i addends k ready s =
    key-stored groups i k (key-stands groups i (ready-there groups i addends ready) ∙ ap Some (same_row-same (key_at groups i) k s))

entry-at : (groups : KeyedGroups) (i : ℕ) (g : StoredGroup) → slice_get (values_of groups) i ≡ Some g → slice_get groups i ≡ Some (key_at groups i, g)
entry-at [] i g is = absurd (cc is)
entry-at (e ∷ groups) zero g is = ap (λ (o : Option StoredGroup). Some (e.0, unwrap_or o g)) is
entry-at (e ∷ groups) (suc i) g is = entry-at groups i g is

-- where no two keys are the same, the group at a place is the one that is stored of its key
pub held-there : (groups : KeyedGroups) (i : ℕ) (g : StoredGroup) → IsDistinct same_row (keys_of groups) → slice_get (values_of groups) i ≡ Some g → held_at groups (key_at groups i) ≡ Some g
held-there groups i g distinct is = lookup_from_place same_row-equiv groups i (key_at groups i) g distinct (entry-at groups i g is)

-- ---- groups that keep their places
pub keep-refl : (groups : KeyedGroups) → KeepPlaces groups groups
keep-refl groups = record { keys = λ i h. refl; ready = λ i addends h. h }

-- where keys are kept, the list is no shorter
keep-there : (old new : KeyedGroups) → KeepPlaces old new → (i : ℕ) → i < length old → i < length new
keep-there old new keep i h = key-there new i (key_at old i) (keep.keys i h ∙ key-stands old i h)

pub keep-trans : (old middle new : KeyedGroups) → KeepPlaces old middle → KeepPlaces middle new → KeepPlaces old new
keep-trans old middle new a b = record {
  keys = λ i h. b.keys i (keep-there old middle a i h) ∙ a.keys i h;
  ready = λ i addends h. b.ready i addends (a.ready i addends h);
}

-- a group that is put behind the others
module _ (k : Row) (g : StoredGroup) where
  behind-keys : (old : KeyedGroups) (i : ℕ) → i < length old → slice_get (keys_of (old ++ (k, g) ∷ [])) i ≡ slice_get (keys_of old) i
  behind-keys [] i h = absurd (omega (arith, h))
  behind-keys (e ∷ old) zero h = refl
  behind-keys (e ∷ old) (suc i) h = behind-keys old i (omega (arith, h))

  behind-ready : (old : KeyedGroups) (i : ℕ) (addends : List (Option Addend)) → IsReadyAt addends old i → IsReadyAt addends (old ++ (k, g) ∷ []) i
  behind-ready [] i addends ready = absurd ready
  behind-ready (e ∷ old) zero addends ready = ready
  behind-ready (e ∷ old) (suc i) addends ready = behind-ready old i addends ready

  pub behind-keep : (old : KeyedGroups) → KeepPlaces old (old ++ (k, g) ∷ [])
  behind-keep old = record { keys = behind-keys old; ready = behind-ready old }

  pub behind-key : (old : KeyedGroups) → slice_get (keys_of (old ++ (k, g) ∷ [])) (length old) ≡ Some k
  behind-key [] = refl
  behind-key (e ∷ old) = behind-key old

-- a group is written over at its place
module _ (g h : StoredGroup) where
  pub over-keys : (old : KeyedGroups) (i : ℕ) → keys_of (set_value_at old i h) ≡ keys_of old
  over-keys [] i = refl
  over-keys (e ∷ old) zero = refl
  over-keys (e ∷ old) (suc i) = ap (λ (ks : List Row). e.0 ∷ ks) (over-keys old i)

  over-ready : (old : KeyedGroups) (i : ℕ) → slice_get (values_of old) i ≡ Some g → KeepRoom g.kept.items h.kept.items → (j : ℕ) (addends : List (Option Addend))
      → IsReadyAt addends old j → IsReadyAt addends (set_value_at old i h) j
  over-ready [] i is keeps j addends ready = absurd (cc is)
  over-ready (e ∷ old) zero is keeps zero addends ready = keeps addends (subst (λ (o : Option StoredGroup). IsReadyFor addends o) is ready)
  over-ready (e ∷ old) zero is keeps (suc j) addends ready = ready
  over-ready (e ∷ old) (suc i) is keeps zero addends ready = ready
  over-ready (e ∷ old) (suc i) is keeps (suc j) addends ready = over-ready old i is keeps j addends ready

  pub over-keep : (old : KeyedGroups) (i : ℕ) → slice_get (values_of old) i ≡ Some g → KeepRoom g.kept.items h.kept.items → KeepPlaces old (set_value_at old i h)
  over-keep old i is keeps = record { keys = λ j h. ap (λ (ks : List Row). slice_get ks j) (over-keys old i); ready = over-ready old i is keeps }

  -- so that it is ready
  pub over-room : (old : KeyedGroups) (i : ℕ) (addends : List (Option Addend)) → slice_get (values_of old) i ≡ Some g → HaveRoom addends h.kept.items → IsReadyAt addends (set_value_at old i h) i
  over-room [] i addends is room = absurd (cc is)
  over-room (e ∷ old) zero addends is room = room
  over-room (e ∷ old) (suc i) addends is room = over-room old i addends is room

-- ---- what waits for groups that keep their places
module _ (old new : KeyedGroups) (keep : KeepPlaces old new) where
  pub kept-addition : (x : Placed) → x.place < length old → addition_at new x ≡ addition_at old x
  kept-addition x h = ap (λ (o : Option Row). record { key = unwrap_or o []; weight = x.weight; addends = x.addends }) (keep.keys x.place h)

  additions-kept : (rows : List Placed) → AllByRecursion (λ x. IsReadyAt x.addends old x.place) rows → additions_at new rows ≡ additions_at old rows
  additions-kept [] ready = refl
  additions-kept (x ∷ rows) ready = ap₂ (λ (a : Addition) (xs : List Addition). a ∷ xs) (kept-addition x (ready-there old x.place x.addends ready.0)) (additions-kept rows ready.1)

  pub kept-additions : (rows : List Placed) → HasKeys rows old → additions_at new rows ≡ additions_at old rows
  kept-additions rows keys = additions-kept rows keys.at

  keys-kept : (rows : List Placed) → AllByRecursion (λ x. IsReadyAt x.addends old x.place) rows → AllByRecursion (λ x. IsReadyAt x.addends new x.place) rows
  keys-kept [] ready = tt
  keys-kept (x ∷ rows) ready = (keep.ready x.place x.addends ready.0, keys-kept rows ready.1)

  pub kept-keys : (rows : List Placed) → HasKeys rows old → HasKeys rows new
  kept-keys rows keys = record { at = keys-kept rows keys.at }

  -- what one more row adds waits behind the rest
  pub adds-more : (change : List Placed) (x : Placed) (a : Addition) → HasKeys change old → addition_at new x ≡ a → IsReadyAt x.addends new x.place → AddsBehind old change a new (change ++ x ∷ [])
  adds-more change x a keys is ready = record {
    adds = map-append (addition_at new) change (x ∷ []) ∙ ap₂ (λ (xs : List Addition) (y : Addition). xs ++ y ∷ []) (kept-additions change keys) is;
    keys = record { at = behind change (keys-kept change keys.at) };
  }
    where
      behind : (ys : List Placed) → AllByRecursion (λ y. IsReadyAt y.addends new y.place) ys → AllByRecursion (λ y. IsReadyAt y.addends new y.place) (ys ++ x ∷ [])
      behind [] all = (ready, tt)
      behind (y ∷ ys) all = (all.0, behind ys all.1)

-- the rows' groups are there
pub keys-there : (groups : KeyedGroups) (rows : List Placed) → HasKeys rows groups → AllByRecursion (λ x. x.place < length groups) rows
keys-there groups rows keys = all rows keys.at
  where
    all : (rows : List Placed) → AllByRecursion (λ x. IsReadyAt x.addends groups x.place) rows → AllByRecursion (λ x. x.place < length groups) rows
    all [] ready = tt
    all (x ∷ rows) ready = (ready-there groups x.place x.addends ready.0, all rows ready.1)

-- a group is written over at its place, where its key is
pub writes : {S : Type 0} (m : IndexMap Row StoredGroup S) (i : ℕ) (g h : StoredGroup) → IsDistinct same_row (keys_of m.entries) → slice_get (values_of m.entries) i ≡ Some g
    → SetsAt m.entries (key_at m.entries i) (Some h) (set_value_at m.entries i h)
writes m i g h distinct is = (updates-with_value_at m i h same_row-equiv distinct (key_at m.entries i) g (entry-at m.entries i g is)).0

-- a key is at the place where it is found
pub place-found : (groups : KeyedGroups) (k : Row) (i : ℕ) → position (same_row k) (keys_of groups) ≡ Some i → slice_get (keys_of groups) i ≡ Some k
place-found groups k i is =
    let found = position-Some (same_row k) (keys_of groups) i k is in
    slice_get-get_or (keys_of groups) i k found.0 ∙ ap Some (sym (same_row-same k (get_or (keys_of groups) i k) found.1))

-- ---- the rows of a change, one after the other
-- the last row is the one that was put behind the others
pub last-row : (rows : List Placed) (x y : Placed) (i : ℕ) → i + 1 ≡ length (rows ++ x ∷ []) → slice_get (rows ++ x ∷ []) i ≡ Some y → y ≡ x
last-row [] x y zero n at = ap (λ (o : Option Placed). unwrap_or o x) (sym at)
last-row [] x y (suc i) n at = absurd (omega (arith, n))
last-row (r ∷ rows) x y zero n at = absurd (omega (arith, n, length-append rows (x ∷ [])))
last-row (r ∷ rows) x y (suc i) n at = last-row rows x y i (omega (arith, n)) at

-- at the end all are done
pub all-additions : (groups : KeyedGroups) (rows : List Placed) (i : ℕ) → length rows ≤ i → take i (additions_at groups rows) ≡ additions_at groups rows
all-additions groups rows i h = take_all i (additions_at groups rows) (omega (arith, h, length-map rows (addition_at groups)))

module _ (old : KeyedGroups) (rows : List Placed) (i : ℕ) (x : Placed) (at : slice_get rows i ≡ Some x) where
  h : i < length rows
  h = slice_get_within rows i x at

  is : x ≡ get_or rows i x
  is = sym (get_or_from_slice_get rows i x x at)

  pub addition-within : i < length (additions_at old rows)
  addition-within = omega (arith, h, length-map rows (addition_at old))

  pub addition-is : addition_at old x ≡ get_or (additions_at old rows) i (addition_at old x)
  addition-is = sym (get_or-map (addition_at old) rows i x (addition_at old x) h ∙ ap (addition_at old) (sym is))

  module _ (now : KeyedGroups) (keys : HasKeys rows old) (keep : KeepPlaces old now) where
    ready-at : IsReadyAt x.addends old x.place
    ready-at = subst (λ (y : Placed). IsReadyAt y.addends old y.place) (sym is) (all-at (λ (y : Placed). IsReadyAt y.addends old y.place) rows i x h keys.at)

    -- where each row's group is ready, the next one's is
    pub next-ready : IsReadyAt x.addends now x.place
    next-ready = keep.ready x.place x.addends ready-at

    -- it has the key that it had
    pub next-key : addition_at now x ≡ addition_at old x
    next-key = kept-addition old now keep x (ready-there old x.place x.addends ready-at)

-- ---- an entry of the list
pub key-place : (groups : KeyedGroups) (i : ℕ) (k : Row) (g : StoredGroup) → slice_get groups i ≡ Some (k, g) → key_at groups i ≡ k
key-place [] i k g is = absurd (cc is)
key-place (e ∷ groups) zero k g is = ap (λ (o : Option (Row × StoredGroup)). (unwrap_or o (k, g)).0) is
key-place (e ∷ groups) (suc i) k g is = key-place groups i k g is

-- the group there tells whether its key has no rows
pub without_rows-at : (groups : KeyedGroups) (i : ℕ) (k : Row) (g : StoredGroup) → slice_get groups i ≡ Some (k, g) → held_at groups k ≡ Some g → is_without_rows (held_at groups (key_at groups i)) ≡ is_without_rows (Some g)
without_rows-at groups i k g at held = ap is_without_rows (ap (held_at groups) (key-place groups i k g at) ∙ held)
