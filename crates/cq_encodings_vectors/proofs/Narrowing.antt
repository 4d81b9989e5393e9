-- Loops that narrow values that are lent.
use Rattle.std.proofs.Common.{◌≡◌, ℕ, ◌+◌, ◌<◌, Bool, List, [], ◌∷◌, ◌++◌, map, length, get_or, sym, ap, subst, ◌∙◌, arith}
use Rattle.std.proofs.lemmas.List.{get_or-map, length-map}
use Rattle.cq_values.specs.Lent.{owned}
use Rattle.cq_values.specs.declared.lent.Lent.{Lent}
use Rattle.cq_values.specs.declared.value.Value.{Value}
use Rattle.cq_values.specs.declared.value.Value.TheVariants.{Null}
use Rattle.cq_model.specs.Condition.{is_null}
use Rattle.cq_vectors.proofs.Gathering.{Gathers, gathers_more}

-- one value more
pub value_more : {A : Type 0} {part : Value → A} {Kind : Value → Type 0} (lent : List Lent) (i : ℕ) (d v : Lent) {xs ys : List A} {flags more : List Bool} (x : A) (b : Bool)
    → i < length lent → v ≡ get_or lent i d → Gathers part Kind (map owned lent) i xs flags → ys ≡ xs ++ x ∷ [] → more ≡ flags ++ b ∷ []
    → x ≡ part (owned v) → b ≡ is_null (owned v) → Kind (owned v) → Gathers part Kind (map owned lent) (i + 1) ys more
value_more {A} {part} {Kind} lent i d v {xs} {ys} {flags} {more} x b lt is so_far p q of_part of_null kind =
    let values = map owned lent in
    let there : get_or values i Null ≡ owned v = get_or-map owned lent i d Null lt ∙ ap owned (sym is) in
    subst (λ l. Gathers part Kind values (i + 1) l more) (sym p) (subst (Gathers part Kind values (i + 1) (xs ++ x ∷ [])) (sym q)
    (gathers_more so_far (owned v) x b (omega (arith, lt, length-map lent owned)) there of_part of_null kind))
