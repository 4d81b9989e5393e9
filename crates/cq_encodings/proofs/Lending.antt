-- The values that are lent.
use Rattle.std.proofs.Common.{◌≡◌, ℕ, ◌<◌, List, length, get_or, map, ap, ◌∙◌, arith, sym}
use Rattle.std.proofs.lemmas.List.{get_or-map, length-map}
use Rattle.cq_values.specs.declared.lent.Lent.{Lent}
use Rattle.cq_values.specs.declared.lent.Lent.TheVariants as lent
use Rattle.cq_values.specs.Lent.{owned}
use Rattle.cq_encodings.specs.Runs.{value_in}

pub owned_within : (values : List Lent) (i : ℕ) → i < length values → i < length (map owned values)
owned_within values i lt = omega (arith, lt, length-map values owned)

-- the value of a place is that of the lent one
pub lent_in : (values : List Lent) (i : ℕ) (value : Lent) → i < length values → get_or values i value ≡ value → value_in values i ≡ owned value
lent_in values i value lt is = get_or-map owned values i value _ lt ∙ ap owned is
