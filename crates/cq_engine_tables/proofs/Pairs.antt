-- Two lists that are related entry by entry.
use Rattle.std.proofs.Common.{◌≡◌, ℕ, ◌+◌, ◌<◌, List, [], ◌∷◌, ◌++◌, length, get_or, take, sym, ◌∙◌, ap, subst}
use Rattle.std.proofs.lemmas.List.{take_more}
use Rattle.std.specs.List.{AllByRecursion}
use Rattle.cq_model_state.specs.Pointwise.{Pointwise}

module _ {A B : Type 0} (R : A → B → Type 0) where
  -- one pair more behind the others
  pointwise_push : (xs : List A) (ys : List B) (x : A) (y : B) → Pointwise R xs ys → R x y → Pointwise R (xs ++ x ∷ []) (ys ++ y ∷ [])
  pointwise_push [] [] x y h one = (one, tt)
  pointwise_push [] (b ∷ ys) x y h one = absurd h
  pointwise_push (a ∷ xs) [] x y h one = absurd h
  pointwise_push (a ∷ xs) (b ∷ ys) x y h one = (h.0, pointwise_push xs ys x y h.1 one)

  -- one pair more, where a list is gone through
  pub pointwise_next : (xs : List A) (ys : List B) (i : ℕ) (x d : A) (y : B) → i < length xs → x ≡ get_or xs i d → Pointwise R (take i xs) ys → R x y → Pointwise R (take (i + 1) xs) (ys ++ y ∷ [])
  pointwise_next xs ys i x d y lt is h one =
      subst (λ (zs : List A). Pointwise R zs (ys ++ y ∷ [])) (sym (take_more xs i d lt ∙ ap (λ (z : A). take i xs ++ z ∷ []) (sym is))) (pointwise_push (take i xs) ys x y h one)

  -- what goes over from each entry to its partner goes over from all to all
  pub pointwise_all : (P : A → Type 0) (Q : B → Type 0) → ((x : A) (y : B) → R x y → P x → Q y) → (xs : List A) (ys : List B) → Pointwise R xs ys → AllByRecursion P xs → AllByRecursion Q ys
  pointwise_all P Q over [] [] h all = tt
  pointwise_all P Q over [] (y ∷ ys) h all = absurd h
  pointwise_all P Q over (x ∷ xs) [] h all = absurd h
  pointwise_all P Q over (x ∷ xs) (y ∷ ys) h all = (over x y h.0 all.0, pointwise_all P Q over xs ys h.1 all.1)
