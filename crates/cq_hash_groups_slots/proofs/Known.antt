-- Values of which none is NULL.
use Rattle.std.proofs.Common.{◌≡◌, ℕ, zero, suc, ◌+◌, ◌≤◌, Bool, true, false, cond, List, map, replicate, get_or, sym, ◌∙◌, ap, arith}
use Rattle.std.proofs.lemmas.List.{get_or-map}
use Rattle.cq_values.specs.declared.value.Value.{Value}
use Rattle.cq_values.specs.declared.value.Value.TheVariants.{Null}
use Rattle.cq_model.specs.Condition.{is_null}
use Rattle.cq_hash_groups_slots.specs.Puts.{AreKnown}

-- where no flag is set none is NULL
pub known-clear : (values : List Value) (flags : List Bool) → flags ≡ map is_null values → ((k : ℕ) → get_or flags k false ≡ false) → AreKnown values
known-clear values flags are clear place lt =
    sym (get_or-map is_null values place Null false lt) ∙ ap (λ (fs : List Bool). get_or fs place false) (sym are) ∙ clear place

-- one value in each place
pub known-constant : (n : ℕ) (v : Value) → is_null v ≡ false → AreKnown (replicate n v)
known-constant zero v some place lt = absurd (omega (arith, lt))
known-constant (suc n) v some zero lt = some
known-constant (suc n) v some (suc place) lt = known-constant n v some place (omega (arith, lt))

-- a count is at most one more
pub known-next : (most count next : ℕ) (flag : Bool) → next ≡ cond flag count (count + 1) → count ≤ most → next ≤ most + 1
known-next most count next true e h = omega (arith, e, h)
known-next most count next false e h = omega (arith, e, h)

-- and where NULL is counted
pub null-next : (most count next : ℕ) (flag : Bool) → next ≡ cond flag (count + 1) count → count ≤ most → next ≤ most + 1
null-next most count next true e h = omega (arith, e, h)
null-next most count next false e h = omega (arith, e, h)
