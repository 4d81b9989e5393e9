-- Items at some places, one place after the other.
use Rattle.std.proofs.Common.{◌≡◌, ℕ, ◌+◌, ◌<◌, List, [], ◌∷◌, ◌++◌, length, get_or, map, take, refl, sym, ap, ap₂, ◌∙◌, arith}
use Rattle.std.proofs.lemmas.List.{get_or-map, get_or_default, map-append, take_more}
use Rattle.cq_encodings_vectors.specs.Places.{AreBelow, items_at}
use Rattle.cq_model_bags.proofs.Lists.{all-at}

-- one item more of those at the places
pub items-more : {X : Type 0} (all : List X) (places : List ℕ) (i place : ℕ) (past item : X) (found more : List X) → AreBelow (length all) places → i < length places
    → place ≡ get_or places i 0 → item ≡ get_or all place item → found ≡ items_at all (take i places) past → more ≡ found ++ item ∷ [] → more ≡ items_at all (take (i + 1) places) past
items-more all places i place past item found more below lt at is so_far pushed =
    let next = get_or places i 0 in
    let there : place < length all = omega (arith, at, all-at (λ (p : ℕ). p < length all) places i 0 lt below) in
    let it = is ∙ get_or_default all place item past there ∙ ap (λ (p : ℕ). get_or all p past) at in
    pushed ∙ ap₂ (λ xs x. xs ++ x ∷ []) so_far it
    ∙ sym (ap (λ ps. items_at all ps past) (take_more places i 0 lt) ∙ map-append (λ (p : ℕ). get_or all p past) (take i places) (next ∷ []))

-- what is made of each is made of those at the places
pub map-at : {A B : Type 0} (f : A → B) (d : A) (e : B) (xs : List A) (places : List ℕ) → AreBelow (length xs) places
    → map (λ place. get_or (map f xs) place e) places ≡ map f (map (λ place. get_or xs place d) places)
map-at f d e xs [] below = refl
map-at f d e xs (place ∷ places) below = ap₂ (λ y ys. y ∷ ys) (get_or-map f xs place d e below.0) (map-at f d e xs places below.1)
