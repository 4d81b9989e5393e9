-- Two lists, entry by entry.
use Rattle.std.specs.Prelude.{List, [], ◌∷◌}

-- the lists are of one length, and the entries at each place are related
abbrev pub Pointwise : {A B : Type 0} → (A → B → Type 0) → List A → List B → Type 0
Pointwise R [] [] = Unit {0}
Pointwise R (x ∷ xs) (y ∷ ys) = R x y × Pointwise R xs ys
Pointwise R xs ys = ⊥
