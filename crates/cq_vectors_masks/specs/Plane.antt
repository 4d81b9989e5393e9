-- Flags packed into words of 64 bits.
use Rattle.std.specs.Prelude.{ℕ, nat_lt, ◌/◌, ◌%◌, ◌<◌, ◌==◌, Bool, false, not, ◌&&◌, ◌||◌, List, [], ◌∷◌, ◌++◌, length, map, slice_index, slice_index_or, ◌≡◌}
use Rattle.std.specs.Int.{bit_at}
use Rattle.std.specs.List.{range_with_len}

-- whether the bit of the place is set
unfoldable pub is_set : List ℕ → ℕ → Bool
is_set words place = bit_at (slice_index words (place / 64)) (place % 64) == 1

-- the flags of the first n places
abbrev pub flags : List ℕ → ℕ → List Bool
flags words n = map (is_set words) (range_with_len 0 n)

-- the words hold these flags, and no bit past them is set
abbrev pub Packs : List ℕ → List Bool → Type 0
Packs words bs = (place : ℕ) → is_set words place ≡ slice_index_or bs place false

-- the flags of `to` are made of those of a and b
abbrev pub Makes : (Bool → Bool → Bool) → List ℕ → List ℕ → List ℕ → Type 0
Makes f a b to = (place : ℕ) → place < 1024 → is_set to place ≡ f (is_set a place) (is_set b place)

abbrev pub both : Bool → Bool → Bool
both x y = x && y

abbrev pub either : Bool → Bool → Bool
either x y = x || y

-- the first and not the second
abbrev pub and_not : Bool → Bool → Bool
and_not x y = x && not y

-- none of the two
abbrev pub neither : Bool → Bool → Bool
neither x y = not x && not y

-- the flags of `to` below the length are made of those of a and b, and the others are clear
abbrev pub MakesBelow : ℕ → (Bool → Bool → Bool) → List ℕ → List ℕ → List ℕ → Type 0
MakesBelow len f a b to = (place : ℕ) → place < 1024 → is_set to place ≡ nat_lt place len && f (is_set a place) (is_set b place)

-- the new words hold the flag behind the flags that the old ones hold
abbrev pub IsPushed : ℕ → Bool → List ℕ → List ℕ → Type 0
IsPushed place flag old new = (bs : List Bool) → length bs ≡ place → Packs old bs → Packs new (bs ++ flag ∷ [])
