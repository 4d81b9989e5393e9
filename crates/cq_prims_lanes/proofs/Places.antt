-- Lists place by place.
use Rattle.std.proofs.Common.{◌≡◌, ℕ, zero, suc, List, ◌∷◌, map, get_or, length, ◌<◌, replicate, refl, sym, ap, ◌∙◌, arith}
use Rattle.std.specs.List.{range_with_len}
use lib.ListN.{get_or-map}
use lib.Seq.{ext_get_or}
use Rattle.std.proofs.lemmas.List.{length-map}
use Rattle.std.proofs.lemmas.List.FromFn.{length-map-range_with_len, get_or-map-range_with_len}

-- one value in each place, with a function behind it
pub map-replicate : {X Y : Type 0} (f : X → Y) (n : ℕ) (x : X) → map f (replicate n x) ≡ replicate n (f x)
map-replicate f zero x = refl
map-replicate f (suc n) x = ap (λ l. f x ∷ l) (map-replicate f n x)

-- what each place of a list gives is what its elements give
pub map-all_places : {X Y : Type 0} (p : X → Y) (d : X) (xs : List X) (n : ℕ) → length xs ≡ n → map (λ i. p (get_or xs i d)) (range_with_len 0 n) ≡ map p xs
map-all_places p d xs n long =
    ext_get_or (p d) _ _ (length-map-range_with_len (λ i. p (get_or xs i d)) 0 n ∙ sym (length-map xs p ∙ long)) (λ i lt.
    let within : i < n = omega (arith, length-map-range_with_len (λ j. p (get_or xs j d)) 0 n) in
    get_or-map-range_with_len (λ j. p (get_or xs j d)) 0 n i i (p d) within (omega arith) ∙ sym (get_or-map p xs i d))
