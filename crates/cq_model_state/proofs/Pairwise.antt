-- Lists whose entries are related at each place.
use Rattle.std.proofs.Common.{◌≡◌, suc, List, [], ◌∷◌, length, refl, ap}
use Rattle.cq_model_state.specs.Pointwise.{Pointwise}

-- they are of one length
pub pointwise_length : {A B : Type 0} (R : A → B → Type 0) (xs : List A) (ys : List B) → Pointwise R xs ys → length ys ≡ length xs
pointwise_length R [] [] h = refl
pointwise_length R [] (y ∷ ys) h = absurd h
pointwise_length R (x ∷ xs) [] h = absurd h
pointwise_length R (x ∷ xs) (y ∷ ys) h = ap suc (pointwise_length R xs ys h.1)
