-- Values put into groups, one after the other.
use Rattle.std.proofs.Common.{◌≡◌, ℕ, zero, suc, ◌+◌, ◌-◌, ◌^◌, ◌<◌, ◌≤◌, List, [], ◌∷◌, ◌++◌, drop, length, get_or, set, replicate, sym, ◌∙◌, ap, ap₂, arith, subst}
use Rattle.std.proofs.lemmas.List.{drop_more, drop_all, get_or_default, length-set}
use Rattle.cq_values.specs.declared.value.Value.{Value}
use Rattle.cq_values.specs.declared.value.Value.TheVariants.{Null}
use Rattle.cq_model_bags.proofs.Lists.{all-at}
use Rattle.cq_hash_groups_sums.specs.declared.wide_sums.Sum.{Sum}
use Rattle.cq_hash_groups_sums.specs.Puts.{PutFrom, most_before, put_all, put_sum, no_sum, AreSumsWithin, IsSumWithin, AreNumbers}

-- numbers of some groups are those of more
pub numbers-of_more : (few many : ℕ) (numbers : List ℕ) → few ≤ many → AreNumbers few numbers → AreNumbers many numbers
numbers-of_more few many [] h a = tt
numbers-of_more few many (n ∷ numbers) h a = (omega (arith, h, a.0), numbers-of_more few many numbers h a.1)

module _ {S : Type 0} (put : S → Value → S) (nothing : S) where
  -- the next value is put into the group of its number
  pub put-next : (numbers : List ℕ) (values : List Value) (slots : List S) (i n : ℕ) (v : Value) → i < length numbers → length numbers ≡ length values → n ≡ get_or numbers i n → v ≡ get_or values i Null
      → put_all put nothing (drop (i + 1) numbers) (drop (i + 1) values) (set slots n (put (get_or slots n nothing) v)) ≡ put_all put nothing (drop i numbers) (drop i values) slots
  put-next numbers values slots i n v h same is_n is_v =
      let ns : drop i numbers ≡ n ∷ drop (i + 1) numbers = drop_more numbers i n h ∙ ap (λ (m : ℕ). m ∷ drop (i + 1) numbers) (sym is_n) in
      let vs : drop i values ≡ v ∷ drop (i + 1) values = drop_more values i Null (omega (arith, h, same)) ∙ ap (λ (w : Value). w ∷ drop (i + 1) values) (sym is_v) in
      sym (ap₂ (λ (xs : List ℕ) (ys : List Value). put_all put nothing xs ys slots) ns vs)

  -- at the end all are put in
  pub put-done : (numbers : List ℕ) (values : List Value) (slots : List S) (i : ℕ) → length numbers ≤ i → put_all put nothing (drop i numbers) (drop i values) slots ≡ slots
  put-done numbers values slots i h = ap (λ (xs : List ℕ). put_all put nothing xs (drop i values) slots) (drop_all i numbers h)

-- what holds at each place, and of what is set at one, holds at each place then
pub set-each : {S : Type 0} (P : ℕ → S → Type 0) (slots : List S) (n : ℕ) (x d : S) → P n x → ((g : ℕ) → P g (get_or slots g d)) → (g : ℕ) → P g (get_or (set slots n x) g d)
set-each P [] n x d p all g = all g
set-each P (s ∷ slots) zero x d p all zero = p
set-each P (s ∷ slots) zero x d p all (suc g) = all (suc g)
set-each P (s ∷ slots) (suc n) x d p all zero = all zero
set-each P (s ∷ slots) (suc n) x d p all (suc g) = set-each (λ k. P (suc k)) slots n x d p (λ k. all (suc k)) g

-- what is there and not there yet
pub at-replicate : {S : Type 0} (P : S → Type 0) (m : ℕ) (d : S) (g : ℕ) → P d → P (get_or (replicate m d) g d)
at-replicate P zero d g p = p
at-replicate P (suc m) d zero p = p
at-replicate P (suc m) d (suc g) p = at-replicate P m d g p

pub at-grown : {S : Type 0} (P : S → Type 0) (slots : List S) (m : ℕ) (d : S) → P d → ((g : ℕ) → P (get_or slots g d)) → (g : ℕ) → P (get_or (slots ++ replicate m d) g d)
at-grown P [] m d p all g = at-replicate P m d g p
at-grown P (s ∷ slots) m d p all zero = all zero
at-grown P (s ∷ slots) m d p all (suc g) = at-grown P slots m d p (λ k. all (suc k)) g

pub sum-more : (most more : ℕ) (sum : Sum) → most ≤ more → IsSumWithin most sum → IsSumWithin more sum
sum-more most more sum le h = record { count = omega (arith, le, h.count); total = omega (arith, le, h.total) }

-- a sum put at a place
pub sums-next : (most : ℕ) (sums : List Sum) (n : ℕ) (sum : Sum) → IsSumWithin (most + 1) sum → AreSumsWithin most sums → AreSumsWithin (most + 1) (set sums n sum)
sums-next most sums n sum h all =
    set-each (λ g s. IsSumWithin (most + 1) s) sums n sum no_sum h (λ g. sum-more most (most + 1) (get_or sums g no_sum) (omega arith) (all g))

pub sums-more : (most more : ℕ) (sums : List Sum) → most ≤ more → AreSumsWithin most sums → AreSumsWithin more sums
sums-more most more sums le all g = sum-more most more (get_or sums g no_sum) le (all g)

-- a sum that is there, whatever is read past the end
pub sum-at : (most : ℕ) (sums : List Sum) (n : ℕ) (d : Sum) → n < length sums → AreSumsWithin most sums → IsSumWithin most (get_or sums n d)
sum-at most sums n d h all = subst (IsSumWithin most) (get_or_default sums n no_sum d h) (all n)

module _ {start place : ℕ} {numbers : List ℕ} {values : List Value} {old now : List Sum} (so_far : PutFrom start place numbers values old now) where
  -- the next value is put into the group of its number
  pub put_from-next : (n : ℕ) (v : Value) (sum : Sum) → place < length numbers → length numbers ≡ length values → n ≡ get_or numbers place n → v ≡ get_or values place Null
      → sum ≡ put_sum (get_or now n no_sum) v → ((m : ℕ) → IsSumWithin m (get_or now n no_sum) → IsSumWithin (m + 1) sum) → PutFrom start (place + 1) numbers values old (set now n sum)
  put_from-next n v sum lt same is_n is_v is_sum more = record {
    rest =
        ap (λ (x : Sum). put_all put_sum no_sum (drop (place + 1) numbers) (drop (place + 1) values) (set now n x)) is_sum
        ∙ put-next put_sum no_sum numbers values now place n v lt same is_n is_v ∙ so_far.rest;
    within = λ m all.
        sums-more (m + place + 1) (m + (place + 1)) (set now n sum) (omega arith)
        (sums-next (m + place) now n sum (more (m + place) (so_far.within m all n)) (so_far.within m all));
    same = length-set now n sum ∙ so_far.same;
  }

  -- at the end all are put in
  pub put_from-all : length numbers ≤ place → now ≡ put_all put_sum no_sum (drop start numbers) (drop start values) old
  put_from-all le = sym (put-done put_sum no_sum numbers values now place le) ∙ so_far.rest

-- from the first value on no sum has more values than it had and than were put in
pub put_from-within : {place : ℕ} {numbers : List ℕ} {values : List Value} {old now : List Sum} → PutFrom 0 place numbers values old now → (m : ℕ) → AreSumsWithin m old → AreSumsWithin (m + place) now
put_from-within {place} {numbers} {values} {old} {now} so_far m all = so_far.within m (sums-more m (m + 0) old (omega arith) all)

module _ {start place : ℕ} {numbers : List ℕ} {values : List Value} {old now : List Sum} (so_far : PutFrom start place numbers values old now) (s : Sum) (lt : place < length numbers) (there : AreNumbers (length old) numbers) where
  abbrev group : ℕ
  group = get_or numbers place 0

  is_group : group < length now
  is_group = subst (λ (k : ℕ). group < k) (sym so_far.same) (all-at (λ (m : ℕ). m < length old) numbers place 0 lt there)

  -- the next value is put into the group of its number, whatever is read past the last group
  pub put_from-step : (v : Value) (sum : Sum) → length numbers ≡ length values → v ≡ get_or values place Null → sum ≡ put_sum (get_or now group s) v
      → ((m : ℕ) → IsSumWithin m (get_or now group s) → IsSumWithin (m + 1) sum) → PutFrom start (place + 1) numbers values old (set now group sum)
  put_from-step v sum same is_v is_sum more =
      let is = get_or_default now group s no_sum is_group in
      put_from-next so_far group v sum lt same (get_or_default numbers place 0 group lt) is_v (is_sum ∙ ap (λ (x : Sum). put_sum x v) is) (λ m all. more m (subst (IsSumWithin m) (sym is) all))

  -- the sum of the next group leaves room for a value more
  pub wide_room : place ≤ 2 ^ 96 → AreSumsWithin (2 ^ 96) old → IsSumWithin (2 ^ 97) (get_or now group s)
  wide_room small room =
      sum-more (2 ^ 96 + place) (2 ^ 97) (get_or now group s) (omega (arith, small))
      (sum-at (2 ^ 96 + place) now group s is_group (so_far.within (2 ^ 96) (sums-more (2 ^ 96) (2 ^ 96 + start) old (omega arith) room)))

-- the same in 64 bits, where the first value was the first to be put in
pub small_room : {place : ℕ} {numbers : List ℕ} {values : List Value} {old now : List Sum} → PutFrom 0 place numbers values old now → (s : Sum) → place < length numbers → AreNumbers (length old) numbers
    → length numbers ≤ 2 ^ 64 - 1 → AreSumsWithin (most_before (length numbers)) old → IsSumWithin (most_before 1) (get_or now (get_or numbers place 0) s)
small_room {place} {numbers} {values} {old} {now} so_far s lt there small room =
    let most = most_before (length numbers) in
    let n = get_or numbers place 0 in
    sum-more (most + place) (most_before 1) (get_or now n s) (omega (arith, small, lt))
    (sum-at (most + place) now n s (is_group so_far s lt there) (put_from-within so_far most room))
