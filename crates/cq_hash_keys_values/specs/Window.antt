-- The numbers of whole numbers, those of a window in a list and the others in a map.
use Rattle.std.specs.Prelude.{◌≡◌, ℕ, ℤ, ◌-ℤ◌, int_lt, Option, Some, None, if◌then◌else◌, unsigned_abs}
use Rattle.std.specs.Ordering.{int_eq}
use Rattle.indexmap.specs.IndexMap.{get}
use Rattle.cq_hash_keys_values.specs.declared.window.Window.{Window}
use Rattle.cq_hash_keys_values.specs.Codes.{code_in, code_or}

-- how far a number is above the least
abbrev pub place_above : ℤ → ℤ → Option ℕ
place_above least n = if int_lt n least then None else Some (unsigned_abs (n -ℤ least))

-- the number of a whole number
abbrev pub number_at : Window → ℤ → Option ℕ
number_at w n = code_or (code_in w.codes.items (place_above w.least n)) (get int_eq w.others n)

-- new has this number for a whole number, and that of old for each other one
pub record PutsNumber (old : Window) (key : ℤ) (number : ℕ) (new : Window) : Type 0 where
  pub there : number_at new key ≡ Some number
  pub others : (n : ℤ) → (n ≡ key → ⊥) → number_at new n ≡ number_at old n

-- the same number for each whole number
abbrev pub AgreeAt : Window → Window → Type 0
AgreeAt old new = (n : ℤ) → number_at new n ≡ number_at old n
