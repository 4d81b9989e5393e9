-- What is worked out in each row.
use Rattle.std.proofs.Common.{◌≡◌, List, [], ◌∷◌, map, length, refl, sym, ◌∙◌, ap}
use Rattle.std.proofs.lemmas.List.{length-map}
use Rattle.std.specs.Prelude.{replicate}

-- what is made of the same rows is as long
pub same-length : {X Y Z : Type 0} (f : X → Y) (g : X → Z) (xs : List X) (ys : List Y) (zs : List Z) → ys ≡ map f xs → zs ≡ map g xs → length ys ≡ length zs
same-length f g xs ys zs are those = ap length are ∙ length-map xs f ∙ sym (length-map xs g) ∙ sym (ap length those)

-- one value for each
pub replicate-map : {X Y : Type 0} (y : Y) (xs : List X) → replicate (length xs) y ≡ map (λ x. y) xs
replicate-map y [] = refl
replicate-map y (x ∷ xs) = ap (λ ys. y ∷ ys) (replicate-map y xs)
