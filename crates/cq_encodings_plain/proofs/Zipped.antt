-- What values are made of, with a flag where NULL stands.
use Rattle.std.proofs.Common.{true, ◌≤◌, ◌≡◌, ℕ, ◌+◌, ◌<◌, Bool, false, List, [], ◌∷◌, ◌++◌, length, get_or, map, take, refl, sym, ap, ap₂, ◌∙◌, arith, zero, suc, subst}
use Rattle.std.specs.Simd.Lanes.{zip2}
use Rattle.std.proofs.lemmas.List.{get_or_past, length-map, length-take-le, map-append, take_all, take_more}
use Rattle.std.proofs.lemmas.Simd.{get_or-zip2, length-zip2}
use Rattle.cq_values.specs.declared.value.Value.{Value}
use Rattle.cq_values.specs.declared.value.Value.TheVariants.{Null}
use Rattle.cq_values.specs.Value.{is_null}
use Rattle.cq_values.specs.declared.lent.Lent.{Lent}
use Rattle.cq_values.specs.declared.lent.Lent.TheVariants as lent
use Rattle.cq_values.specs.Lent.{owned}
use Rattle.cq_encodings_plain.specs.Parts.{AreParts, nulls_of}
use Rattle.cq_encodings_plain.specs.Nulls.{NothingWhere}

-- what lent values stand for, with one more
pub owned_more : (values : List Lent) (i : ℕ) (value : Lent) → i < length values → value ≡ get_or values i lent.Null → map owned (take (i + 1) values) ≡ map owned (take i values) ++ owned value ∷ []
owned_more values i value lt there =
    ap (map owned) (take_more values i lent.Null lt ∙ ap (λ (v : Lent). take i values ++ v ∷ []) (sym there)) ∙ map-append owned (take i values) (value ∷ [])

pub nulls_more : (values : List Lent) (i : ℕ) (value : Lent) → i < length values → value ≡ get_or values i lent.Null → nulls_of (take (i + 1) values) ≡ nulls_of (take i values) ++ is_null (owned value) ∷ []
nulls_more values i value lt there = ap (map is_null) (owned_more values i value lt there) ∙ map-append is_null (map owned (take i values)) (owned value ∷ [])

pub length-nulls_of : (values : List Lent) → length (nulls_of values) ≡ length values
length-nulls_of values = length-map (map owned values) is_null ∙ length-map values owned

length-nulls_so_far : (values : List Lent) (i : ℕ) → i < length values → length (nulls_of (take i values)) ≡ i
length-nulls_so_far values i lt = length-nulls_of (take i values) ∙ length-take-le i values (omega (arith, lt))

module _ {A : Type 0} (unless : A → Bool → Value) where
  -- as many as there are parts
  pub length-zipped : (parts : List A) (flags : List Bool) → length flags ≡ length parts → length (zip2 unless parts flags) ≡ length parts
  length-zipped parts flags same = length-zip2 unless parts flags (sym same)

  -- NULL past the end
  pub zipped_past : (parts : List A) (flags : List Bool) (place : ℕ) → length parts ≤ place → length flags ≡ length parts → get_or (zip2 unless parts flags) place Null ≡ Null
  zipped_past parts flags place le same = get_or_past (zip2 unless parts flags) place Null (omega (arith, le, length-zipped parts flags same))

  -- what stands at a place
  pub zipped_at : (parts : List A) (flags : List Bool) (place : ℕ) (d part : A) (flag : Bool) → place < length parts → length flags ≡ length parts
      → get_or parts place d ≡ part → get_or flags place false ≡ flag → get_or (zip2 unless parts flags) place Null ≡ unless part flag
  zipped_at parts flags place d part flag lt same is_part is_flag =
      get_or-zip2 unless parts flags place d false Null lt (omega (arith, lt, same)) ∙ ap₂ unless is_part is_flag

  zip2-push : (parts : List A) (flags : List Bool) (part : A) (flag : Bool) → length flags ≡ length parts → zip2 unless (parts ++ part ∷ []) (flags ++ flag ∷ []) ≡ zip2 unless parts flags ++ unless part flag ∷ []
  zip2-push [] [] part flag same = refl
  zip2-push [] (g ∷ flags) part flag same = absurd (omega arith)
  zip2-push (x ∷ parts) [] part flag same = absurd (omega arith)
  zip2-push (x ∷ parts) (g ∷ flags) part flag same = ap (λ (vs : List Value). unless x g ∷ vs) (zip2-push parts flags part flag (omega (arith, same)))

  -- one lent value more
  pub zipped_more : (parts : List A) (part : A) (values : List Lent) (i : ℕ) (value : Lent) → i < length values → value ≡ get_or values i lent.Null → length parts ≡ i → unless part (is_null (owned value)) ≡ owned value
      → zip2 unless parts (nulls_of (take i values)) ≡ map owned (take i values) → zip2 unless (parts ++ part ∷ []) (nulls_of (take (i + 1) values)) ≡ map owned (take (i + 1) values)
  zipped_more parts part values i value lt there long is so_far =
      ap (zip2 unless (parts ++ part ∷ [])) (nulls_more values i value lt there)
      ∙ zip2-push parts (nulls_of (take i values)) part (is_null (owned value)) (omega (arith, long, length-nulls_so_far values i lt))
      ∙ ap₂ (λ (vs : List Value) (v : Value). vs ++ v ∷ []) so_far is ∙ sym (owned_more values i value lt there)

-- nothing stands behind what is there, where the flag is set
nothing-push : {A : Type 0} (nothing : A) (flags : List Bool) (parts : List A) (flag : Bool) (part : A) → length flags ≡ length parts → NothingWhere nothing flags parts → (flag ≡ true → part ≡ nothing) → NothingWhere nothing (flags ++ flag ∷ []) (parts ++ part ∷ [])
nothing-push nothing [] [] flag part same clear last zero set = last set
nothing-push nothing [] [] flag part same clear last (suc k) set = refl
nothing-push nothing [] (p ∷ parts) flag part same clear last k set = absurd (omega arith)
nothing-push nothing (f ∷ flags) [] flag part same clear last k set = absurd (omega arith)
nothing-push nothing (f ∷ flags) (p ∷ parts) flag part same clear last zero set = clear 0 set
nothing-push nothing (f ∷ flags) (p ∷ parts) flag part same clear last (suc k) set = nothing-push nothing flags parts flag part (omega (arith, same)) (λ j. clear (suc j)) last k set

-- nothing where NULL stands, with one lent value more
pub nothing_more : {A : Type 0} (nothing : A) (parts : List A) (part : A) (values : List Lent) (i : ℕ) (value : Lent) → i < length values → value ≡ get_or values i lent.Null → length parts ≡ i → (is_null (owned value) ≡ true → part ≡ nothing)
    → NothingWhere nothing (nulls_of (take i values)) parts → NothingWhere nothing (nulls_of (take (i + 1) values)) (parts ++ part ∷ [])
nothing_more nothing parts part values i value lt there long none clear =
    subst (λ (fs : List Bool). NothingWhere nothing fs (parts ++ part ∷ [])) (sym (nulls_more values i value lt there))
    (nothing-push nothing (nulls_of (take i values)) parts (is_null (owned value)) part (omega (arith, long, length-nulls_so_far values i lt)) clear none)

-- what holds of each part and of nothing holds with one part more
pub facts_more : {A : Type 0} (P : A → Type 0) (nothing : A) (parts : List A) (part : A) → P part → ((k : ℕ) → P (get_or parts k nothing)) → (k : ℕ) → P (get_or (parts ++ part ∷ []) k nothing)
facts_more P nothing [] part fact all zero = fact
facts_more P nothing [] part fact all (suc k) = all 0
facts_more P nothing (p ∷ parts) part fact all zero = all 0
facts_more P nothing (p ∷ parts) part fact all (suc k) = facts_more P nothing parts part fact (λ j. all (suc j)) k

-- what was made of all lent values are their parts
pub parts_are : {A : Type 0} (unless : A → Bool → Value) (nothing : A) (parts : List A) (values : List Lent) (i : ℕ) → length values ≤ i → length parts ≡ i → i ≤ length values
    → NothingWhere nothing (nulls_of (take i values)) parts → zip2 unless parts (nulls_of (take i values)) ≡ map owned (take i values) → AreParts unless nothing parts values
parts_are unless nothing parts values i all long few clear same =
    let whole : take i values ≡ values = take_all i values all in
    record {
      long = omega (arith, all, long, few);
      clear = subst (λ (vs : List Lent). NothingWhere nothing (nulls_of vs) parts) whole clear;
      same = subst (λ (vs : List Lent). zip2 unless parts (nulls_of vs) ≡ map owned vs) whole same;
    }
