-- The results of the places, as numbers and flags.
use Rattle.std.proofs.Common.{◌≡◌, ℕ, zero, suc, ◌+◌, ◌<◌, ◌≤◌, ℤ, Bool, List, [], ◌∷◌, ◌++◌, map, take, length, get_or, refl, sym, ap, ap₂, ◌∙◌, arith, FitsSigned}
use Rattle.std.specs.Int.{w128}
use lib.Lanes.{zip2}
use Rattle.std.proofs.lemmas.Simd.{length-zip2, get_or-zip2}
use Rattle.std.proofs.lemmas.List.{map-append, take_all, take_more}
use Rattle.cq_values.specs.declared.value.Value.{Value}
use Rattle.cq_values.specs.declared.value.Value.TheVariants.{Null, Number, Day, Text}
use Rattle.cq_model.specs.Exact.{ValueInRange}
use Rattle.cq_model.specs.Group.{InRange, addend}
use Rattle.std.proofs.lemmas.Int.{ints}
use Rattle.cq_vectors_stored.specs.Columns.{AllFit, ZeroWhere, number_unless}
use Rattle.cq_prims_arithmetic.specs.Operation.{AllAddInRange, AllInRange, lifted, no_number}

-- a function of the values of one place more
pub map_more : {A : Type 0} (f : Value → A) (values : List Value) (i : ℕ) → i < length values → map f (take (i + 1) values) ≡ map f (take i values) ++ f (get_or values i Null) ∷ []
map_more f values i lt = ap (map f) (take_more values i Null lt) ∙ map-append f (take i values) (get_or values i Null ∷ [])

-- each value is a number or NULL
abbrev pub AreNumbers : List Value → Type 0
AreNumbers values = (k : ℕ) → number_unless (addend (get_or values k Null)) (no_number (get_or values k Null)) ≡ get_or values k Null

-- numbers and NULLs are made again of their numbers and flags
pub numbers_again : (values : List Value) → AreNumbers values → zip2 number_unless (map addend values) (map no_number values) ≡ values
numbers_again [] are = refl
numbers_again (v ∷ vs) are = ap₂ (λ w l. w ∷ l) (are 0) (numbers_again vs (λ k. are (suc k)))

-- what an operation gives is a number or NULL
lifted_number : (f : ℤ → ℤ → ℤ) (v w : Value) → number_unless (addend (lifted f v w)) (no_number (lifted f v w)) ≡ lifted f v w
lifted_number f (Number m) (Number n) = refl
lifted_number f (Number m) (Day n) = refl
lifted_number f (Number m) (Text n) = refl
lifted_number f (Number m) Null = refl
lifted_number f (Day m) w = refl
lifted_number f (Text m) w = refl
lifted_number f Null w = refl

-- and so are the results of all places
pub lifted_numbers : (f : ℤ → ℤ → ℤ) (vs ws : List Value) → AreNumbers (zip2 (lifted f) vs ws)
lifted_numbers f [] ws k = refl
lifted_numbers f (v ∷ vs) [] k = refl
lifted_numbers f (v ∷ vs) (w ∷ ws) zero = lifted_number f v w
lifted_numbers f (v ∷ vs) (w ∷ ws) (suc k) = lifted_numbers f vs ws k

-- the number of a NULL is 0
pub zero_where : (values : List Value) → ZeroWhere (map no_number values) (map addend values)
zero_where [] k is = refl
zero_where (Number n ∷ vs) zero is = absurd (cc is)
zero_where (Day n ∷ vs) zero is = refl
zero_where (Text n ∷ vs) zero is = refl
zero_where (Null ∷ vs) zero is = refl
zero_where (v ∷ vs) (suc k) is = zero_where vs k is

-- what is in range fits 128 bits
pub number_fits : (n : ℤ) → InRange n → FitsSigned w128 n
number_fits n within = omega (arith, ints, within.low, within.high)

-- the numbers fit where the values do
pub all_fit : (values : List Value) → AllInRange values → AllFit w128 (map addend values)
all_fit [] fit k = search arith
all_fit (Number n ∷ vs) fit zero = number_fits n (fit 0)
all_fit (Day n ∷ vs) fit zero = search arith
all_fit (Text n ∷ vs) fit zero = search arith
all_fit (Null ∷ vs) fit zero = search arith
all_fit (v ∷ vs) fit (suc k) = all_fit vs (λ j. fit (suc j)) k

-- what is made of the values so far and of the next one
pub push_more : {A : Type 0} (f : Value → A) (made : List A) (values : List Value) (i : ℕ) (x : A) → made ≡ map f (take i values) → i < length values → x ≡ f (get_or values i Null) → made ++ x ∷ [] ≡ map f (take (i + 1) values)
push_more f made values i x so_far lt is = ap₂ (λ l y. l ++ y ∷ []) so_far is ∙ sym (map_more f values i lt)

-- the result of a place
pub result_at : (f : Value → Value → Value) (vs ws : List Value) (i : ℕ) → length vs ≡ length ws → i < length vs → get_or (zip2 f vs ws) i Null ≡ f (get_or vs i Null) (get_or ws i Null)
result_at f vs ws i same lt = get_or-zip2 f vs ws i Null Null Null lt (omega (arith, same, lt))

pub length_results : (f : Value → Value → Value) (vs ws : List Value) → length vs ≡ length ws → length (zip2 f vs ws) ≡ length vs
length_results f vs ws same = length-zip2 f vs ws same

-- behind the last place all of them are made
pub whole_results : (f : Value → Value → Value) (vs ws : List Value) → length vs ≡ length ws → (i : ℕ) → length vs ≤ i → take i (zip2 f vs ws) ≡ zip2 f vs ws
whole_results f vs ws same i past = take_all i (zip2 f vs ws) (omega (arith, past, length_results f vs ws same))

-- the numbers and flags of all results make them
pub all_made : (values : List Value) (i : ℕ) (numbers : List ℤ) (flags : List Bool) → take i values ≡ values → numbers ≡ map addend (take i values) → flags ≡ map no_number (take i values) → AreNumbers values → zip2 number_unless numbers flags ≡ values
all_made values i numbers flags whole ns fs are = ap₂ (zip2 number_unless) (ns ∙ ap (map addend) whole) (fs ∙ ap (map no_number) whole) ∙ numbers_again values are

-- values are in range where what they add is
value_in_range : (v : Value) → InRange (addend v) → ValueInRange v
value_in_range (Number n) h = h
value_in_range (Day d) h = tt
value_in_range (Text t) h = tt
value_in_range Null h = tt

pub all_in_range : (values : List Value) → AllAddInRange values → AllInRange values
all_in_range values h k = value_in_range (get_or values k Null) (h k)
