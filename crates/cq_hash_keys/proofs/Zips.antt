-- Lists side by side.
use Rattle.std.proofs.Common.{◌≡◌, ℕ, zero, suc, ◌<◌, List, [], ◌∷◌, map, length, get_or, refl, ap, arith}
use Rattle.std.specs.List.{zip}

pub length-zip : {X Y : Type 0} (xs : List X) (ys : List Y) → length xs ≡ length ys → length (zip xs ys) ≡ length xs
length-zip [] ys same = refl
length-zip (x ∷ xs) [] same = absurd (omega (arith, same))
length-zip (x ∷ xs) (y ∷ ys) same = ap suc (length-zip xs ys (omega (arith, same)))

-- the pair at a place
pub zip-at : {X Y : Type 0} (xs : List X) (ys : List Y) (i : ℕ) (d : X) (e : Y) → length xs ≡ length ys → i < length xs → (get_or xs i d, get_or ys i e) ≡ get_or (zip xs ys) i (d, e)
zip-at [] ys i d e same lt = absurd (omega (arith, lt))
zip-at (x ∷ xs) [] i d e same lt = absurd (omega (arith, same))
zip-at (x ∷ xs) (y ∷ ys) zero d e same lt = refl
zip-at (x ∷ xs) (y ∷ ys) (suc i) d e same lt = zip-at xs ys i d e (omega (arith, same)) (omega (arith, lt))

-- pairs of which the seconds are images
pub zip-second : {X Y Z W : Type 0} (g : Y → Z) (h : X × Z → W) (xs : List X) (ys : List Y) → map h (zip xs (map g ys)) ≡ map (λ (p : X × Y). h (p.0, g p.1)) (zip xs ys)
zip-second g h [] ys = refl
zip-second g h (x ∷ xs) [] = refl
zip-second g h (x ∷ xs) (y ∷ ys) = ap (λ ws. h (x, g y) ∷ ws) (zip-second g h xs ys)
