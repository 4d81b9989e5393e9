-- What values are made of and their flags, with one value more.
use Rattle.std.proofs.Common.{◌≡◌, ◌∙◌, zero, suc, Bool, true, List, [], ◌∷◌, ◌++◌, length, length-append, refl, ap, arith}
use Rattle.std.specs.Simd.Lanes.{zip2}
use Rattle.cq_values.specs.declared.value.Value.{Value}
use Rattle.cq_encodings_plain.specs.Nulls.{NothingWhere}

-- there is nothing at a value more either, where it is NULL
nothing-push : {A : Type 0} (nothing : A) (flags : List Bool) (parts : List A) (flag : Bool) (part : A) → length flags ≡ length parts → NothingWhere nothing flags parts → (flag ≡ true → part ≡ nothing) → NothingWhere nothing (flags ++ flag ∷ []) (parts ++ part ∷ [])
nothing-push nothing [] [] flag part same clear last zero set = last set
nothing-push nothing [] [] flag part same clear last (suc k) set = refl
nothing-push nothing [] (p ∷ parts) flag part same clear last k set = absurd (omega arith)
nothing-push nothing (f ∷ flags) [] flag part same clear last k set = absurd (omega arith)
nothing-push nothing (f ∷ flags) (p ∷ parts) flag part same clear last zero set = clear 0 set
nothing-push nothing (f ∷ flags) (p ∷ parts) flag part same clear last (suc k) set = nothing-push nothing flags parts flag part (omega (arith, same)) (λ j. clear (suc j)) last k set

module _ {A : Type 0} (unless : A → Bool → Value) where
  zip2-push : (parts : List A) (flags : List Bool) (part : A) (flag : Bool) → length flags ≡ length parts → zip2 unless (parts ++ part ∷ []) (flags ++ flag ∷ []) ≡ zip2 unless parts flags ++ unless part flag ∷ []
  zip2-push [] [] part flag same = refl
  zip2-push [] (g ∷ flags) part flag same = absurd (omega arith)
  zip2-push (x ∷ parts) [] part flag same = absurd (omega arith)
  zip2-push (x ∷ parts) (g ∷ flags) part flag same = ap (λ (vs : List Value). unless x g ∷ vs) (zip2-push parts flags part flag (omega (arith, same)))

  -- flags and parts are as many, and clear where there is NULL
  abbrev pub Fit : A → List Bool → List A → Type 0
  Fit nothing flags parts = (length flags ≡ length parts) × NothingWhere nothing flags parts

  pub fit_more : (nothing : A) (flags : List Bool) (parts : List A) (flag : Bool) (part : A) → Fit nothing flags parts → (flag ≡ true → part ≡ nothing) → Fit nothing (flags ++ flag ∷ []) (parts ++ part ∷ [])
  fit_more nothing flags parts flag part fit last =
      (omega (arith, fit.0, length-append flags (flag ∷ []), length-append parts (part ∷ [])), nothing-push nothing flags parts flag part fit.0 fit.1 last)

  pub zip_more : (parts : List A) (flags : List Bool) (part : A) (flag : Bool) (value : Value) → length flags ≡ length parts → unless part flag ≡ value → zip2 unless (parts ++ part ∷ []) (flags ++ flag ∷ []) ≡ zip2 unless parts flags ++ value ∷ []
  zip_more parts flags part flag value same is = zip2-push parts flags part flag same ∙ ap (λ (v : Value). zip2 unless parts flags ++ v ∷ []) is
