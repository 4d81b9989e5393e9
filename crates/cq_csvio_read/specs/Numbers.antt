-- Numbers of any size, as far as 64 bits tell them apart.
use Rattle.std.specs.Prelude.{ℕ, ◌-◌, ◌^◌, ℤ, pos, neg_ℤ, Bool, if◌then◌else◌, List, min, Option, option_map}
use Rattle.cq_binder_rules.specs.Fields.{digits_number}

-- the number, or the greatest of 64 bits in the place of a greater one
abbrev pub capped : ℕ → ℕ
capped n = min n (2 ^ 64 - 1)

-- the number that digits alone spell, up to 64 bits
abbrev pub capped_number : List ℕ → Option ℕ
capped_number digits = option_map capped (digits_number digits)

-- the number of this sign and this size
abbrev pub signed : Bool → ℕ → ℤ
signed is_negative size = if is_negative then neg_ℤ (pos size) else pos size
