-- Numbers and NULLs of columns that an operation goes over.
use Rattle.std.proofs.Common.{◌≡◌, ℕ, zero, suc, ◌+◌, ◌<◌, ◌≤◌, ℤ, pos, Bool, true, false, List, [], ◌∷◌, ◌++◌, map, take, length, replicate, get_or, nat_abs, ◌^◌, refl, sym, ap, ◌∙◌, arith, FitsSigned}
use Rattle.std.specs.Int.{w64}
use lib.Lanes.{zip2}
use Rattle.std.proofs.lemmas.Simd.{length-zip2, get_or-zip2}
use Rattle.std.proofs.lemmas.List.{ext_get_or, take_more}
use Rattle.cq_values.specs.declared.value.Value.TheVariants.{Number}
use Rattle.cq_values.specs.Order.{number}
use Rattle.cq_vectors_masks.specs.Plane.{either}
use Rattle.cq_vectors_stored.specs.Columns.{AllFit, ZeroWhere, number_unless}
use Rattle.cq_vectors_stored.specs.Sizes.{AreUpTo}
use Rattle.cq_prims_arithmetic.specs.Operation.{lifted, zero_if}

-- nothing is to be cleared where no flag is set
pub nothing_cleared : (numbers : List ℤ) (nulls : List Bool) → length nulls ≡ length numbers → ((k : ℕ) → get_or nulls k false ≡ false) → numbers ≡ zip2 zero_if numbers nulls
nothing_cleared [] nulls same clear = refl
nothing_cleared (n ∷ ns) [] same clear = absurd (omega arith)
nothing_cleared (n ∷ ns) (true ∷ fs) same clear = absurd (cc (clear 0))
nothing_cleared (n ∷ ns) (false ∷ fs) same clear = ap (λ l. n ∷ l) (nothing_cleared ns fs (omega arith) (λ k. clear (suc k)))

-- the numbers are cleared when each place is
pub cleared : (new old : List ℤ) (nulls : List Bool) → length nulls ≡ length old → length new ≡ length old
    → ((k : ℕ) → k < length nulls → get_or new k (pos 0) ≡ zero_if (get_or old k (pos 0)) (get_or nulls k false)) → new ≡ zip2 zero_if old nulls
cleared new old nulls same long at =
    let all : length (zip2 zero_if old nulls) ≡ length old = length-zip2 zero_if old nulls (sym same) in
    ext_get_or (pos 0) new (zip2 zero_if old nulls) (long ∙ sym all) (λ i lt. at i (omega (arith, lt, same, long)) ∙ sym (get_or-zip2 zero_if old nulls i (pos 0) false (pos 0) (omega (arith, lt, long)) (omega (arith, lt, same, long))))

pub zero_cleared : (ns : List ℤ) (fs : List Bool) → ZeroWhere fs (zip2 zero_if ns fs)
zero_cleared [] fs k is = refl
zero_cleared (n ∷ ns) [] k is = refl
zero_cleared (n ∷ ns) (true ∷ fs) zero is = refl
zero_cleared (n ∷ ns) (false ∷ fs) zero is = absurd (cc is)
zero_cleared (n ∷ ns) (f ∷ fs) (suc k) is = zero_cleared ns fs k is

pub zero_fits : FitsSigned w64 (pos 0)
zero_fits = search arith

-- one number more that fits
pub fit_more : (ns : List ℤ) (n : ℤ) → AllFit w64 ns → FitsSigned w64 n → AllFit w64 (ns ++ n ∷ [])
fit_more [] n fit fits zero = fits
fit_more [] n fit fits (suc k) = zero_fits
fit_more (m ∷ ms) n fit fits zero = fit 0
fit_more (m ∷ ms) n fit fits (suc k) = fit_more ms n (λ j. fit (suc j)) fits k

pub fit_cleared : (ns : List ℤ) (fs : List Bool) → AllFit w64 ns → AllFit w64 (zip2 zero_if ns fs)
fit_cleared [] fs fit k = zero_fits
fit_cleared (n ∷ ns) [] fit k = zero_fits
fit_cleared (n ∷ ns) (true ∷ fs) fit zero = zero_fits
fit_cleared (n ∷ ns) (false ∷ fs) fit zero = fit 0
fit_cleared (n ∷ ns) (f ∷ fs) fit (suc k) = fit_cleared ns fs (λ j. fit (suc j)) k

-- what is cleared makes the same values
pub values_cleared : (ns : List ℤ) (fs : List Bool) → zip2 number_unless (zip2 zero_if ns fs) fs ≡ zip2 number_unless ns fs
values_cleared [] fs = refl
values_cleared (n ∷ ns) [] = refl
values_cleared (n ∷ ns) (true ∷ fs) = ap (λ l. number_unless n true ∷ l) (values_cleared ns fs)
values_cleared (n ∷ ns) (false ∷ fs) = ap (λ l. number_unless n false ∷ l) (values_cleared ns fs)

-- the result of a place
pub number_at : (f : ℤ → ℤ → ℤ) (ms ns : List ℤ) (i n : ℕ) → length ms ≡ n → length ns ≡ n → i < n → get_or (zip2 f ms ns) i (pos 0) ≡ f (get_or ms i (pos 0)) (get_or ns i (pos 0))
number_at f ms ns i n left right lt = get_or-zip2 f ms ns i (pos 0) (pos 0) (pos 0) (omega (arith, lt, left)) (omega (arith, lt, right))

-- the results of one place more
pub results_more : (f : ℤ → ℤ → ℤ) (ms ns : List ℤ) (i n : ℕ) → length ms ≡ n → length ns ≡ n → i < n → take (i + 1) (zip2 f ms ns) ≡ take i (zip2 f ms ns) ++ f (get_or ms i (pos 0)) (get_or ns i (pos 0)) ∷ []
results_more f ms ns i n left right lt =
    take_more (zip2 f ms ns) i (pos 0) (omega (arith, lt, left, length-zip2 f ms ns (left ∙ sym right))) ∙ ap (λ x. take i (zip2 f ms ns) ++ x ∷ []) (number_at f ms ns i n left right lt)

-- results are within a size where numbers of these sizes have results that are
pub within_sizes : (f : ℤ → ℤ → ℤ) (a b size : ℕ) → ((m n : ℤ) → nat_abs m ≤ a → nat_abs n ≤ b → nat_abs (f m n) ≤ size) → (ms ns : List ℤ) → AreUpTo a ms → AreUpTo b ns → AreUpTo size (zip2 f ms ns)
within_sizes f a b size within [] ns left right k = search arith
within_sizes f a b size within (m ∷ ms) [] left right k = search arith
within_sizes f a b size within (m ∷ ms) (n ∷ ns) left right zero = within m n (left 0) (right 0)
within_sizes f a b size within (m ∷ ms) (n ∷ ns) left right (suc k) = within_sizes f a b size within ms ns (λ j. left (suc j)) (λ j. right (suc j)) k

below_63 : (n : ℤ) (size : ℕ) → size < 2 ^ 63 → nat_abs n ≤ size → FitsSigned w64 n
below_63 n size small within = search arith

-- numbers within a size that 63 bits hold fit 64
pub fit_within : (size : ℕ) (ns : List ℤ) → size < 2 ^ 63 → AreUpTo size ns → AllFit w64 ns
fit_within size ns small within k = below_63 (get_or ns k (pos 0)) size small (within k)

-- and so are those that are not NULL, with 0 in place of NULL
pub within_values : (size : ℕ) (ns : List ℤ) (fs : List Bool) → AreUpTo size ns → AreUpTo size (map number (zip2 number_unless ns fs))
within_values size [] fs within k = search arith
within_values size (n ∷ ns) [] within k = search arith
within_values size (n ∷ ns) (true ∷ fs) within zero = search arith
within_values size (n ∷ ns) (false ∷ fs) within zero = within 0
within_values size (n ∷ ns) (f ∷ fs) within (suc k) = within_values size ns fs (λ j. within (suc j)) k

-- one number in each place has its size
pub size_of_one : (len : ℕ) (n : ℤ) (a : ℕ) → nat_abs n ≤ a → (k : ℕ) → nat_abs (get_or (replicate len n) k (pos 0)) ≤ a
size_of_one zero n a small k = search arith
size_of_one (suc len) n a small zero = small
size_of_one (suc len) n a small (suc k) = size_of_one len n a small k

-- the results of two columns, NULL where one of them is
pub of_columns : (f : ℤ → ℤ → ℤ) (ms ns : List ℤ) (fs gs : List Bool)
    → zip2 number_unless (zip2 f ms ns) (zip2 either fs gs) ≡ zip2 (lifted f) (zip2 number_unless ms fs) (zip2 number_unless ns gs)
of_columns f [] ns fs gs = refl
of_columns f (m ∷ ms) [] [] gs = refl
of_columns f (m ∷ ms) [] (x ∷ fs) gs = refl
of_columns f (m ∷ ms) (n ∷ ns) [] gs = refl
of_columns f (m ∷ ms) (n ∷ ns) (true ∷ fs) [] = refl
of_columns f (m ∷ ms) (n ∷ ns) (false ∷ fs) [] = refl
of_columns f (m ∷ ms) (n ∷ ns) (true ∷ fs) (y ∷ gs) = ap (λ l. number_unless m true ∷ l) (of_columns f ms ns fs gs)
of_columns f (m ∷ ms) (n ∷ ns) (false ∷ fs) (true ∷ gs) = ap (λ l. number_unless m true ∷ l) (of_columns f ms ns fs gs)
of_columns f (m ∷ ms) (n ∷ ns) (false ∷ fs) (false ∷ gs) = ap (λ l. Number (f m n) ∷ l) (of_columns f ms ns fs gs)

-- there is a result for each flag of NULLs
pub results-same : (f : ℤ → ℤ → ℤ) (ms ns : List ℤ) (flags : List Bool) → length ms ≡ length flags → length ns ≡ length flags → length (zip2 f ms ns) ≡ length flags
results-same f ms ns flags left right = length-zip2 f ms ns (left ∙ sym right) ∙ left

-- also of those that are cleared
pub cleared-same : (f : ℤ → ℤ → ℤ) (ms ns : List ℤ) (flags : List Bool) → length ms ≡ length flags → length ns ≡ length flags → length (zip2 zero_if (zip2 f ms ns) flags) ≡ length flags
cleared-same f ms ns flags left right =
    let long = results-same f ms ns flags left right in
    length-zip2 zero_if (zip2 f ms ns) flags long ∙ long
