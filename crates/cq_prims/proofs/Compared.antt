-- Comparisons of lists of values, by the tests of their numbers and texts.
use Rattle.std.proofs.Common.{◌≡◌, ℕ, ◌<◌, Bool, true, false, not, List, [], ◌∷◌, map, length, get_or, zero, suc, pos, replicate, ℤ, refl, sym, ap, ap₂, ◌∙◌, arith, Ordering, Less, Equal, Greater, int_cmp, nat_cmp, cond}
use Rattle.std.specs.List.{range_with_len}
use Rattle.std.specs.Ordering.{is_eq, is_lt, is_gt, int_eq, ordering_reverse, ordering_then}
use Rattle.std.specs.Prelude.{int_lt}
use Rattle.std.specs.Cmp.Lexicographic.{slice_cmp, texts_ties}
use Rattle.std.specs.Str.{bytes_eq}
use Rattle.cq_prims.specs.Turned.{turned}
use lib.Lanes.{zip2}
use lib.Seq.{ext_get_or}
use lib.ListN.{get_or-map}
use Rattle.std.proofs.lemmas.List.{length-map}
use Rattle.std.proofs.lemmas.List.FromFn.{length-map-range_with_len, get_or-map-range_with_len}
use Rattle.std.proofs.lemmas.Simd.{length-zip2, get_or-zip2}
use Rattle.cq_values.specs.declared.value.Value.{Value}
use Rattle.cq_values.specs.declared.value.Value.TheVariants.{Null, Number, Text, Day}
use Rattle.cq_values.specs.declared.truth.Truth.TheVariants.{Unknown}
use Rattle.cq_values.specs.declared.comparison.Comparison.{Comparison}
use Rattle.cq_values.specs.declared.comparison.Comparison.TheVariants as by
use Rattle.cq_values.specs.Comparison.{compared, passes}
use Rattle.cq_values.specs.Keys.{value_cmp_total}
use Rattle.cq_values.specs.Order.{bytes, value_cmp}
use Rattle.cq_values.specs.Truth.{truth_of, not_truth, is_true}
use Rattle.cq_model.specs.Condition.{is_null}
use Rattle.cq_vectors_masks.specs.TruthMask.{known}
use Rattle.cq_vectors_masks.specs.Plane.{either}
use Rattle.cq_prims_texts.specs.Kinds.{is_of_kind, ShowsTexts}
use Rattle.cq_prims.specs.Numbers.{ShowsNumbers, unless}
use Rattle.cq_model.proofs.Conditions.{null-value}
use Rattle.cq_prims_texts.proofs.Known.{compared_known, known_true}

-- answers that are right wherever no value is NULL give the truths of a comparison
pub known_compared : (c : Comparison) (h : ℕ → Bool) (xs ys : List Value) → length xs ≡ length ys
    → ((i : ℕ) → i < length xs → known (h i) (either (is_null (get_or xs i Null)) (is_null (get_or ys i Null))) ≡ compared c (get_or xs i Null) (get_or ys i Null))
    → zip2 known (map h (range_with_len 0 (length xs))) (zip2 either (map is_null xs) (map is_null ys)) ≡ zip2 (compared c) xs ys
known_compared c h xs ys same right =
    let n = length xs in
    let answers = map h (range_with_len 0 n) in
    let nulls = zip2 either (map is_null xs) (map is_null ys) in
    let long_answers : length answers ≡ n = length-map-range_with_len h 0 n in
    let long_x : length (map is_null xs) ≡ n = length-map xs is_null in
    let long_y : length (map is_null ys) ≡ n = length-map ys is_null ∙ sym same in
    let long_nulls : length nulls ≡ n = length-zip2 either (map is_null xs) (map is_null ys) (long_x ∙ sym long_y) ∙ long_x in
    let long : length (zip2 known answers nulls) ≡ n = length-zip2 known answers nulls (long_answers ∙ sym long_nulls) ∙ long_answers in
    ext_get_or Unknown _ _ (long ∙ sym (length-zip2 (compared c) xs ys same)) (λ i lt.
    let within : i < n = omega (arith, long) in
    get_or-zip2 known answers nulls i false true Unknown (omega (arith, long_answers)) (omega (arith, long_nulls))
    ∙ ap₂ known (get_or-map-range_with_len h 0 n i i false within (omega arith))
    (get_or-zip2 either (map is_null xs) (map is_null ys) i true true true (omega (arith, long_x)) (omega (arith, long_y)) ∙ ap₂ either (get_or-map is_null xs i Null) (get_or-map is_null ys i Null))
    ∙ right i within
    ∙ sym (get_or-zip2 (compared c) xs ys i Null Null Unknown within (omega (arith, same))))

as_text : (P : Value → Type 0) → P Null → ((t : List ℕ) → P (Text t)) → (v : Value) → is_of_kind 2 v ≡ true → P v
as_text P none some (Number n) e = absurd (cc)
as_text P none some (Day n) e = absurd (cc)
as_text P none some (Text t) e = some t
as_text P none some Null e = none

-- known by a test of numbers, where the test is that of the order
module _ (c : Comparison) (s : ℤ → ℤ → Bool) (agree : (m n : ℤ) → s m n ≡ passes c (ordering_then (int_cmp m n) Equal)) where
  known_numbers : (days : Bool) (m n : ℤ) (f g : Bool) → known (s m n) (either f g) ≡ compared c (unless days m f) (unless days n g)
  known_numbers true m n true g = refl
  known_numbers false m n true g = refl
  known_numbers true m n false true = refl
  known_numbers false m n false true = refl
  known_numbers true m n false false = ap truth_of (agree m n)
  known_numbers false m n false false = ap truth_of (agree m n)

-- the value of a place by the number that is shown there
number_at : (days : Bool) (ns : List ℤ) (xs : List Value) → ShowsNumbers days ns xs → (i : ℕ) → i < length xs → unless days (get_or ns i (pos 0)) (is_null (get_or xs i Null)) ≡ get_or xs i Null
number_at days ns xs shows i lt =
    ap (unless days (get_or ns i (pos 0))) (sym (get_or-map is_null xs i Null))
    ∙ sym (get_or-zip2 (unless days) ns (map is_null xs) i (pos 0) true Null (omega (arith, lt, shows.long)) (omega (arith, lt, length-map xs is_null)))
    ∙ ap (λ (l : List Value). get_or l i Null) (sym shows.whole)

is_lt-cond : (a b : Bool) → a ≡ is_lt (ordering_then (cond a Less (cond b Greater Equal)) Equal)
is_lt-cond true b = refl
is_lt-cond false true = refl
is_lt-cond false false = refl

pub less_agrees : (m n : ℤ) → int_lt m n ≡ passes by.Less (ordering_then (int_cmp m n) Equal)
less_agrees m n = is_lt-cond (int_lt m n) (int_lt n m)

is_eq-then : (o : Ordering) → is_eq o ≡ is_eq (ordering_then o Equal)
is_eq-then Less = refl
is_eq-then Equal = refl
is_eq-then Greater = refl

pub equal_agrees : (m n : ℤ) → int_eq m n ≡ passes by.Equal (ordering_then (int_cmp m n) Equal)
equal_agrees m n = is_eq-then (int_cmp m n)

-- known by a test of texts
module _ (c : Comparison) (s : List ℕ → List ℕ → Bool) (agree : (t u : List ℕ) → s t u ≡ passes c (slice_cmp nat_cmp t u)) where
  abbrev texts_known : Value → Value → Type 0
  texts_known v w = known (s (bytes v) (bytes w)) (either (is_null v) (is_null w)) ≡ compared c v w

  pub known_texts : (v w : Value) → is_of_kind 2 v ≡ true → is_of_kind 2 w ≡ true → texts_known v w
  known_texts v w p q = as_text (λ v. texts_known v w) refl (λ t. as_text (texts_known (Text t)) refl (λ u. ap truth_of (agree t u)) w q) v p

pub equal_texts_agree : (t u : List ℕ) → bytes_eq t u ≡ passes by.Equal (slice_cmp nat_cmp t u)
equal_texts_agree t u = texts_ties t u

-- ---- one comparison by another
is_lt-reverse : (o : Ordering) → is_lt (ordering_reverse o) ≡ is_gt o
is_lt-reverse Less = refl
is_lt-reverse Equal = refl
is_lt-reverse Greater = refl

either_turned : (a b : Bool) → either a b ≡ either b a
either_turned true true = refl
either_turned true false = refl
either_turned false true = refl
either_turned false false = refl

-- what is less than a value is what the value is greater than
pub compared-turned : (v w : Value) → compared by.Less w v ≡ compared by.Greater v w
compared-turned v w =
    compared_known by.Less w v
    ∙ ap₂ known (ap is_lt (value_cmp_total.antisymm w v) ∙ is_lt-reverse (value_cmp v w)) (either_turned (is_null w) (is_null v))
    ∙ sym (compared_known by.Greater v w)

-- the turned comparison passes the reversed orderings
reversed : (c : Comparison) (o : Ordering) → passes (turned c) (ordering_reverse o) ≡ passes c o
reversed by.Equal Less = refl
reversed by.Equal Equal = refl
reversed by.Equal Greater = refl
reversed by.NotEqual Less = refl
reversed by.NotEqual Equal = refl
reversed by.NotEqual Greater = refl
reversed by.Less Less = refl
reversed by.Less Equal = refl
reversed by.Less Greater = refl
reversed by.LessOrEqual Less = refl
reversed by.LessOrEqual Equal = refl
reversed by.LessOrEqual Greater = refl
reversed by.Greater Less = refl
reversed by.Greater Equal = refl
reversed by.Greater Greater = refl
reversed by.GreaterOrEqual Less = refl
reversed by.GreaterOrEqual Equal = refl
reversed by.GreaterOrEqual Greater = refl

-- the turned comparison says the same of the sides turned
pub turned_by : (c d : Comparison) → d ≡ turned c → (v w : Value) → compared d w v ≡ compared c v w
turned_by c d is v w =
    ap (λ k. compared k w v) is ∙ compared_known (turned c) w v
    ∙ ap₂ known (ap (passes (turned c)) (value_cmp_total.antisymm w v) ∙ reversed c (value_cmp v w)) (either_turned (is_null w) (is_null v))
    ∙ sym (compared_known c v w)

-- a comparison of lists with its sides turned
pub zip2-turned : {X Y : Type 0} (f g : X → X → Y) → ((x y : X) → f y x ≡ g x y) → (xs ys : List X) → zip2 f ys xs ≡ zip2 g xs ys
zip2-turned f g h [] [] = refl
zip2-turned f g h [] (y ∷ ys) = refl
zip2-turned f g h (x ∷ xs) [] = refl
zip2-turned f g h (x ∷ xs) (y ∷ ys) = ap₂ (λ a l. a ∷ l) (h x y) (zip2-turned f g h xs ys)

not_known : (a b n : Bool) → not a ≡ b → not_truth (known a n) ≡ known b n
not_known a true true e = refl
not_known a false true e = refl
not_known true b false e = ap truth_of e
not_known false b false e = ap truth_of e

-- a comparison that passes where another does not
module _ (c d : Comparison) (opposite : (o : Ordering) → not (passes c o) ≡ passes d o) where
  compared-opposite : (v w : Value) → not_truth (compared c v w) ≡ compared d v w
  compared-opposite v w =
      let o = value_cmp v w in
      ap not_truth (compared_known c v w) ∙ not_known (passes c o) (passes d o) (either (is_null v) (is_null w)) (opposite o) ∙ sym (compared_known d v w)

  pub zip2-opposite : (xs ys : List Value) → map not_truth (zip2 (compared c) xs ys) ≡ zip2 (compared d) xs ys
  zip2-opposite [] ys = refl
  zip2-opposite (x ∷ xs) [] = refl
  zip2-opposite (x ∷ xs) (y ∷ ys) = ap₂ (λ a l. a ∷ l) (compared-opposite x y) (zip2-opposite xs ys)

pub not_equal : (o : Ordering) → not (passes by.Equal o) ≡ passes by.NotEqual o
not_equal Less = refl
not_equal Equal = refl
not_equal Greater = refl

pub not_less : (o : Ordering) → not (passes by.Less o) ≡ passes by.GreaterOrEqual o
not_less Less = refl
not_less Equal = refl
not_less Greater = refl

pub not_greater : (o : Ordering) → not (passes by.Greater o) ≡ passes by.LessOrEqual o
not_greater Less = refl
not_greater Equal = refl
not_greater Greater = refl

-- answers for so many places as there are flags of NULLs
known_where : (c : Comparison) (h : ℕ → Bool) (xs ys : List Value) (nulls : List Bool) → length xs ≡ length ys → nulls ≡ zip2 either (map is_null xs) (map is_null ys)
    → ((i : ℕ) → i < length xs → known (h i) (either (is_null (get_or xs i Null)) (is_null (get_or ys i Null))) ≡ compared c (get_or xs i Null) (get_or ys i Null))
    → zip2 known (map h (range_with_len 0 (length nulls))) nulls ≡ zip2 (compared c) xs ys
known_where c h xs ys nulls same is right =
    let all = zip2 either (map is_null xs) (map is_null ys) in
    let long : length all ≡ length xs = length-zip2 either (map is_null xs) (map is_null ys) (length-map xs is_null ∙ same ∙ sym (length-map ys is_null)) ∙ length-map xs is_null in
    ap (λ l. zip2 known (map h (range_with_len 0 (length l))) l) is
    ∙ ap (λ (n : ℕ). zip2 known (map h (range_with_len 0 n)) all) long
    ∙ known_compared c h xs ys same right

module _ (xs ys : List Value) (nulls : List Bool) (same : length xs ≡ length ys) (is : nulls ≡ zip2 either (map is_null xs) (map is_null ys)) where
  -- answers of a test of the numbers that are shown give the truths of the comparison
  pub by_numbers : (c : Comparison) (s : ℤ → ℤ → Bool) → ((m n : ℤ) → s m n ≡ passes c (ordering_then (int_cmp m n) Equal)) → (days : Bool) (ms ns : List ℤ) → ShowsNumbers days ms xs → ShowsNumbers days ns ys
      → zip2 known (map (λ i. s (get_or ms i (pos 0)) (get_or ns i (pos 0))) (range_with_len 0 (length nulls))) nulls ≡ zip2 (compared c) xs ys
  by_numbers c s agree days ms ns p q = known_where c (λ i. s (get_or ms i (pos 0)) (get_or ns i (pos 0))) xs ys nulls same is (λ i lt.
      known_numbers c s agree days (get_or ms i (pos 0)) (get_or ns i (pos 0)) (is_null (get_or xs i Null)) (is_null (get_or ys i Null))
      ∙ ap₂ (compared c) (number_at days ms xs p i lt) (number_at days ns ys q i (omega (arith, lt, same))))

  pub by_texts : (c : Comparison) (s : List ℕ → List ℕ → Bool) → ((t u : List ℕ) → s t u ≡ passes c (slice_cmp nat_cmp t u)) → (ts us : List (List ℕ)) → ShowsTexts ts xs → ShowsTexts us ys
      → zip2 known (map (λ i. s (get_or ts i []) (get_or us i [])) (range_with_len 0 (length nulls))) nulls ≡ zip2 (compared c) xs ys
  by_texts c s agree ts us p q = known_where c (λ i. s (get_or ts i []) (get_or us i [])) xs ys nulls same is (λ i lt.
      ap (λ b. known b (either (is_null (get_or xs i Null)) (is_null (get_or ys i Null)))) (ap₂ s (ap (λ l. get_or l i []) p.0 ∙ get_or-map bytes xs i Null) (ap (λ l. get_or l i []) q.0 ∙ get_or-map bytes ys i Null))
      ∙ known_texts c s agree _ _ (p.1 i) (q.1 i))

  pub by_lent : (c : Comparison) → zip2 known (map (λ i. is_true (compared c (get_or xs i Null) (get_or ys i Null))) (range_with_len 0 (length nulls))) nulls ≡ zip2 (compared c) xs ys
  by_lent c = known_where c (λ i. is_true (compared c (get_or xs i Null) (get_or ys i Null))) xs ys nulls same is (λ i lt. known_true c (get_or xs i Null) (get_or ys i Null))

-- a constant compared with a constant, and NULL with anything
pub zip2-replicate : {X Y : Type 0} (f : X → X → Y) (n : ℕ) (x y : X) → zip2 f (replicate n x) (replicate n y) ≡ replicate n (f x y)
zip2-replicate f zero x y = refl
zip2-replicate f (suc n) x y = ap (λ l. f x y ∷ l) (zip2-replicate f n x y)

compared_null : (c : Comparison) (v : Value) → compared c v Null ≡ Unknown
compared_null c (Number n) = refl
compared_null c (Day n) = refl
compared_null c (Text n) = refl
compared_null c Null = refl

pub null_left : (c : Comparison) (n : ℕ) (ys : List Value) → n ≡ length ys → zip2 (compared c) (replicate n Null) ys ≡ replicate n Unknown
null_left c n ys e = ap (λ (k : ℕ). zip2 (compared c) (replicate k Null) ys) e ∙ all_unknown ys ∙ ap (λ (k : ℕ). replicate k Unknown) (sym e)
  where
    all_unknown : (zs : List Value) → zip2 (compared c) (replicate (length zs) Null) zs ≡ replicate (length zs) Unknown
    all_unknown [] = refl
    all_unknown (z ∷ zs) = ap (λ l. Unknown ∷ l) (all_unknown zs)

pub null_right_side : (c : Comparison) (n : ℕ) (xs : List Value) → n ≡ length xs → zip2 (compared c) xs (replicate n Null) ≡ replicate n Unknown
null_right_side c n xs e = ap (λ (k : ℕ). zip2 (compared c) xs (replicate k Null)) e ∙ all_unknown xs ∙ ap (λ (k : ℕ). replicate k Unknown) (sym e)
  where
    all_unknown : (zs : List Value) → zip2 (compared c) zs (replicate (length zs) Null) ≡ replicate (length zs) Unknown
    all_unknown [] = refl
    all_unknown (z ∷ zs) = ap₂ (λ t l. t ∷ l) (compared_null c z) (all_unknown zs)

module _ (c : Comparison) (xs ys : List Value) (same : length xs ≡ length ys) where
  pub constants_compared : (v w : Value) → xs ≡ replicate (length xs) v → ys ≡ replicate (length ys) w → zip2 (compared c) xs ys ≡ replicate (length xs) (compared c v w)
  constants_compared v w p q = ap₂ (zip2 (compared c)) p (q ∙ ap (λ (n : ℕ). replicate n w) (sym same)) ∙ zip2-replicate (compared c) (length xs) v w

  pub null_compared : (v : Value) → is_null v ≡ true → xs ≡ replicate (length xs) v → zip2 (compared c) xs ys ≡ replicate (length xs) Unknown
  null_compared v h p = ap (λ l. zip2 (compared c) l ys) (p ∙ ap (λ (u : Value). replicate (length xs) u) (null-value v h)) ∙ null_left c (length xs) ys same

  pub compared_with_null : (w : Value) → is_null w ≡ true → ys ≡ replicate (length ys) w → zip2 (compared c) xs ys ≡ replicate (length xs) Unknown
  compared_with_null w h q =
      ap (zip2 (compared c) xs) (q ∙ ap₂ (λ (n : ℕ) (u : Value). replicate n u) (sym same) (null-value w h)) ∙ null_right_side c (length xs) xs refl
