-- Parts of lists, and what is made of them with their flags.
use Rattle.std.proofs.Common.{◌≡◌, false, ℕ, zero, suc, ◌+◌, ◌*◌, ◌-◌, ◌<◌, ◌≤◌, ◌⊎◌, inl, inr, min, Bool, List, [], ◌∷◌, length, get_or, map, replicate, take, drop, refl, sym, ap, subst, ◌∙◌, arith}
use Rattle.std.specs.Simd.Lanes.{zip2}
use Rattle.std.proofs.lemmas.Bool.{cases_lt}
use Rattle.std.proofs.lemmas.List.{get_or-drop, get_or-take, get_or_past, drop-replicate, length-drop, length-map, length-replicate, length-take, take-replicate, take_min}
use Rattle.std.proofs.lemmas.Simd.{length-zip2}
use Rattle.cq_values.specs.declared.value.Value.{Value}
use Rattle.cq_encodings_plain.specs.Nulls.{NothingWhere}
use Rattle.cq_encodings_vectors.specs.Parts.{items_of}

module _ {A : Type 0} (k : ℕ) (xs : List A) where
  pub few-part : length (items_of k xs) ≤ 1024
  few-part = omega (arith, length-take 1024 (drop (1024 * k) xs))

  pub within-part : (place : ℕ) → place < length (items_of k xs) → 1024 * k + place < length xs
  within-part place lt = omega (arith, lt, length-take 1024 (drop (1024 * k) xs), length-drop (1024 * k) xs)

  -- an item of a part is one of the list
  pub part-at : (place : ℕ) (d : A) → place < length (items_of k xs) → get_or (items_of k xs) place d ≡ get_or xs (1024 * k + place) d
  part-at place d lt =
      get_or-take 1024 (drop (1024 * k) xs) place d (omega (arith, lt, few-part))
      ∙ get_or-drop (1024 * k) xs place d

  -- a part as a slice
  pub part-slice : (count : ℕ) → count ≡ min (length xs - 1024 * k) 1024 → take (1024 * k + count - 1024 * k) (drop (1024 * k) xs) ≡ items_of k xs
  part-slice count is =
      ap (λ (n : ℕ). take n (drop (1024 * k) xs)) {x = 1024 * k + count - 1024 * k} {y = min 1024 (length (drop (1024 * k) xs))} (omega (arith, is, length-drop (1024 * k) xs))
      ∙ take_min 1024 (drop (1024 * k) xs)

  -- what holds of each item and of nothing holds of those of a part
  pub facts-part : (P : A → Type 0) (nothing : A) → ((j : ℕ) → P (get_or xs j nothing)) → (j : ℕ) → P (get_or (items_of k xs) j nothing)
  facts-part P nothing facts j = by_length (cases_lt j (length (items_of k xs)))
    where
      by_length : (j < length (items_of k xs)) ⊎ (length (items_of k xs) ≤ j) → P (get_or (items_of k xs) j nothing)
      by_length (inl lt) = subst P (sym (part-at j nothing lt)) (facts (1024 * k + j))
      by_length (inr past) = subst P (get_or_past xs (length xs) nothing (omega arith) ∙ sym (get_or_past (items_of k xs) j nothing past)) (facts (length xs))

-- a part of values that are all the same
pub constant-part : (k count : ℕ) (value : Value) (values : List Value) → values ≡ replicate (length values) value → count ≡ min (length values - 1024 * k) 1024
    → replicate count value ≡ items_of k values
constant-part k count value values is many =
    let left = length values - 1024 * k in
    sym (take-replicate count left value (omega (arith, many)))
    ∙ ap (λ (n : ℕ). take n (replicate left value)) {x = count} {y = min 1024 (length (replicate left value))} (omega (arith, many, length-replicate left value))
    ∙ take_min 1024 (replicate left value)
    ∙ ap (take 1024) (sym (drop-replicate (1024 * k) (length values) value))
    ∙ ap (items_of k) (sym is)

module _ {A : Type 0} (f g : A → Bool → Value) (d : A) where
  -- functions that agree on the items make the same of them
  pub zip2-same : (xs : List A) (bs : List Bool) → ((j : ℕ) (b : Bool) → f (get_or xs j d) b ≡ g (get_or xs j d) b) → zip2 f xs bs ≡ zip2 g xs bs
  zip2-same [] bs same = refl
  zip2-same (x ∷ xs) [] same = refl
  zip2-same (x ∷ xs) (b ∷ bs) same = ap (λ vs. f x b ∷ vs) (zip2-same xs bs (λ j. same (suc j))) ∙ ap (λ v. v ∷ zip2 g xs bs) (same 0 b)

module _ {A : Type 0} (f : A → Bool → Value) where
  zip2-nil : (xs : List A) → zip2 f xs [] ≡ []
  zip2-nil [] = refl
  zip2-nil (x ∷ xs) = refl

  zip2-drop : (n : ℕ) (xs : List A) (bs : List Bool) → zip2 f (drop n xs) (drop n bs) ≡ drop n (zip2 f xs bs)
  zip2-drop zero xs bs = refl
  zip2-drop (suc n) [] bs = refl
  zip2-drop (suc n) (x ∷ xs) [] = zip2-nil (drop n xs)
  zip2-drop (suc n) (x ∷ xs) (b ∷ bs) = zip2-drop n xs bs

  zip2-take : (n : ℕ) (xs : List A) (bs : List Bool) → zip2 f (take n xs) (take n bs) ≡ take n (zip2 f xs bs)
  zip2-take zero xs bs = refl
  zip2-take (suc n) [] bs = refl
  zip2-take (suc n) (x ∷ xs) [] = refl
  zip2-take (suc n) (x ∷ xs) (b ∷ bs) = ap (λ vs. f x b ∷ vs) (zip2-take n xs bs)

  -- as many values as items
  pub length-made : {B : Type 0} (h : B → A) (xs : List B) (bs : List Bool) → length bs ≡ length xs → length (zip2 f (map h xs) bs) ≡ length xs
  length-made h xs bs long = length-zip2 f (map h xs) bs (length-map xs h ∙ sym long) ∙ length-map xs h

  -- of what is made of each item
  pub zip2-made : {B : Type 0} (h : B → A) (xs : List B) (bs : List Bool) → zip2 f (map h xs) bs ≡ zip2 (λ x b. f (h x) b) xs bs
  zip2-made h [] bs = refl
  zip2-made h (x ∷ xs) [] = refl
  zip2-made h (x ∷ xs) (b ∷ bs) = ap (λ vs. f (h x) b ∷ vs) (zip2-made h xs bs)

module _ {A : Type 0} (nothing : A) (k : ℕ) (all : List A) (flags : List Bool) (long : length flags ≡ length all) where
  pub same-part : length (items_of k flags) ≡ length (items_of k all)
  same-part = omega (arith, long, length-take 1024 (drop (1024 * k) flags), length-take 1024 (drop (1024 * k) all), length-drop (1024 * k) flags, length-drop (1024 * k) all)

  -- the part stands within the list
  pub part-within : 1024 * k ≤ length all → 1024 * k + length (items_of k flags) ≤ length all
  part-within le = omega (arith, le, long, length-take 1024 (drop (1024 * k) flags), length-drop (1024 * k) flags)

  -- as many items as there are flags in the part are the part
  pub part-taken : take (length (items_of k flags)) (drop (1024 * k) all) ≡ items_of k all
  part-taken =
      ap (λ (n : ℕ). take n (drop (1024 * k) all)) {x = length (items_of k flags)} {y = min 1024 (length (drop (1024 * k) all))}
      (omega (arith, long, length-take 1024 (drop (1024 * k) flags), length-drop (1024 * k) flags, length-drop (1024 * k) all))
      ∙ take_min 1024 (drop (1024 * k) all)

  -- where the flag of a part is set there is nothing in it
  pub clear-part : NothingWhere nothing flags all → NothingWhere nothing (items_of k flags) (items_of k all)
  clear-part clear j set = by_length (cases_lt j (length (items_of k all)))
    where
      by_length : (j < length (items_of k all)) ⊎ (length (items_of k all) ≤ j) → get_or (items_of k all) j nothing ≡ nothing
      by_length (inl lt) = part-at k all j nothing lt ∙ clear (1024 * k + j) (sym (part-at k flags j false (omega (arith, lt, same-part))) ∙ set)
      by_length (inr past) = get_or_past (items_of k all) j nothing past

  -- nor in what is equal to the parts
  pub clear-shown : {xs : List A} {plane : List Bool} → xs ≡ items_of k all → plane ≡ items_of k flags → NothingWhere nothing flags all → NothingWhere nothing plane xs
  clear-shown {xs} {plane} is shown clear =
      subst (λ (bs : List Bool). NothingWhere nothing bs xs) (sym shown) (subst (NothingWhere nothing (items_of k flags)) (sym is) (clear-part clear))

  -- what is made of parts is a part of what is made
  pub zip2-part : (f g : A → Bool → Value) → ((j : ℕ) (b : Bool) → f (get_or all j nothing) b ≡ g (get_or all j nothing) b) → zip2 f (items_of k all) (items_of k flags) ≡ items_of k (zip2 g all flags)
  zip2-part f g same =
      zip2-same f g nothing (items_of k all) (items_of k flags) (facts-part k all (λ x. (b : Bool) → f x b ≡ g x b) nothing same)
      ∙ zip2-take g 1024 (drop (1024 * k) all) (drop (1024 * k) flags)
      ∙ ap (take 1024) (zip2-drop g (1024 * k) all flags)
