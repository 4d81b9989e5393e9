-- What is kept of groups stands for their rows, before and after rows are added.
use Rattle.std.proofs.Common.{◌≡◌, ℕ, zero, suc, ◌-◌, ◌<◌, true, false, List, [], ◌∷◌, ◌++◌, map, length, get_or, set, replicate, refl, sym, ◌∙◌, ap, ap₂, arith, Option, Some, None}
use Rattle.std.specs.List.{AllByRecursion}
use Rattle.std.proofs.lemmas.List.{append-nil, append_assoc, map-append, length-append, length-map, get_or-map}
use Rattle.cq_values.specs.declared.value.Value.{Value}
use Rattle.cq_values.specs.declared.value.Value.TheVariants.{Null}
use Rattle.cq_values.specs.Value.{Row}
use Rattle.cq_values.specs.Order.{same_row}
use Rattle.cq_values.specs.Keys.{same_row-refl}
use Rattle.cq_hash_keys.specs.Keys.{key_at}
use Rattle.cq_model.specs.declared.query.Aggregate.{Aggregate}
use Rattle.cq_model.specs.declared.query.Aggregate.TheVariants.{CountAll, Count, CountDistinct, Sum, Min, Max}
use Rattle.cq_model.specs.Group.{key_of}
use Rattle.cq_hash_groups_slots.specs.declared.bests.Extreme.TheVariants.{Least, Greatest}
use Rattle.cq_hash_groups_slots.specs.declared.slots.Slots.{Slots}
use Rattle.cq_hash_groups_slots.specs.declared.slots.Slots.TheVariants.{Counts, Sums, Bests, Sets}
use Rattle.cq_hash_groups.specs.Arguments.{argument}
use Rattle.cq_hash_groups.specs.Lead.{counted_beside}
use Rattle.cq_hash_groups.specs.Groups.{rows_at, kept_as, kept_at, kept_count, kept_nulls, kept_set, kept_sum, kept_best, slots_at, added_as, added_slots}
use Rattle.cq_hash_groups_sums.specs.Puts.{put_all, put_sum, no_sum, AreNumbers, grown}
use Rattle.cq_hash_groups_distinct.specs.Sets.{put_value}
use Rattle.cq_hash_groups_slots.specs.Puts.{put_count, put_null, put_best}
use Rattle.cq_hash_groups_slots.specs.Slots.{empty_slots, grown_slots, put_slots}
use Rattle.cq_hash_groups.proofs.ValuesPut.{count-push, null-push, set-push, sum-push, best-push}
use Rattle.cq_hash_groups.proofs.KeysMet.{AreApart, apart-sym, rows-append}
use Rattle.cq_model_bags.proofs.Lists.{all-at}

-- a function that is the same at rows apart from one
same-apart : {S : Type 0} (f g : Row → S) (k : Row) (keys : List Row) → AllByRecursion (λ j. same_row k j ≡ false) keys → ((j : Row) → same_row k j ≡ false → g j ≡ f j) → map f keys ≡ map g keys
same-apart {S} f g k [] a h = refl
same-apart {S} f g k (j ∷ keys) a h = ap₂ (λ (x : S) (xs : List S). x ∷ xs) (sym (h j a.0)) (same-apart f g k keys a.1 h)

-- what is set at one key is set for it alone
set-apart : {S : Type 0} (f g : Row → S) (keys : List Row) (n : ℕ) (x : S) → AreApart keys → n < length keys → g (get_or keys n []) ≡ x
    → ((j : Row) → same_row (get_or keys n []) j ≡ false → g j ≡ f j) → set (map f keys) n x ≡ map g keys
set-apart {S} f g [] n x a lt h others = absurd (omega (arith, lt))
set-apart {S} f g (k ∷ keys) zero x a lt h others = ap₂ (λ (y : S) (ys : List S). y ∷ ys) (sym h) (same-apart f g k keys a.0 others)
set-apart {S} f g (k ∷ keys) (suc n) x a lt h others =
    let here = others k (apart-sym k (get_or keys n []) (all-at (λ j. same_row k j ≡ false) keys n [] (omega (arith, lt)) a.0)) in
    ap₂ (λ (y : S) (ys : List S). y ∷ ys) (sym here) (set-apart f g keys n x a.1 (omega (arith, lt)) h others)

module _ {S : Type 0} (kept : List Value → S) (put : S → Value → S) (nothing : S) (start : kept [] ≡ nothing)
    (push : (vs : List Value) (v : Value) → kept (vs ++ v ∷ []) ≡ put (kept vs) v) (value : Row → Value) (columns : List ℕ) where
  -- what is kept of a key's rows
  abbrev of : List Row → Row → S
  of rows k = kept (map value (rows_at columns rows k))

  -- one row more, of the key or not
  of-same : (rows : List Row) (r k : Row) → same_row (key_of columns r) k ≡ true → of (rows ++ r ∷ []) k ≡ put (of rows k) (value r)
  of-same rows r k is =
      ap (λ (rs : List Row). kept (map value rs)) (rows-append columns rows (r ∷ []) k)
      ∙ rw is (ap kept (map-append value (rows_at columns rows k) (r ∷ [])) ∙ push (map value (rows_at columns rows k)) (value r))

  of-other : (rows : List Row) (r k : Row) → same_row (key_of columns r) k ≡ false → of (rows ++ r ∷ []) k ≡ of rows k
  of-other rows r k is =
      ap (λ (rs : List Row). kept (map value rs)) (rows-append columns rows (r ∷ []) k)
      ∙ rw is (ap (λ (rs : List Row). kept (map value rs)) (append-nil (rows_at columns rows k)))

  -- a row put into the group of its key
  put-row : (rows keys : List Row) (r : Row) (n : ℕ) → AreApart keys → n < length keys → get_or keys n [] ≡ key_of columns r
      → set (map (of rows) keys) n (put (get_or (map (of rows) keys) n nothing) (value r)) ≡ map (of (rows ++ r ∷ [])) keys
  put-row rows keys r n apart lt is =
      set-apart (of rows) (of (rows ++ r ∷ [])) keys n (put (get_or (map (of rows) keys) n nothing) (value r)) apart lt
      (of-same rows r (get_or keys n []) (ap (λ (k : Row). same_row (key_of columns r) k) is ∙ same_row-refl (key_of columns r))
      ∙ ap (λ (s : S). put s (value r)) (sym (get_or-map (of rows) keys n [] nothing lt)))
      (λ j other. of-other rows r j (ap (λ (k : Row). same_row k j) (sym is) ∙ other))

  -- rows put into the groups of their keys
  pub put-rows : (keys : List Row) → AreApart keys → (rows more : List Row) (numbers : List ℕ) → map (key_at keys) numbers ≡ map (key_of columns) more → AreNumbers (length keys) numbers
      → put_all put nothing numbers (map value more) (map (of rows) keys) ≡ map (of (rows ++ more)) keys
  put-rows keys apart rows [] [] are there = ap (λ (rs : List Row). map (of rs) keys) (sym (append-nil rows))
  put-rows keys apart rows [] (n ∷ numbers) are there = ap (λ (rs : List Row). map (of rs) keys) (sym (append-nil rows))
  put-rows keys apart rows (r ∷ more) [] are there = absurd (cc are)
  put-rows keys apart rows (r ∷ more) (n ∷ numbers) are there =
      let here : get_or keys n [] ≡ key_of columns r = cc are in
      let rest : map (key_at keys) numbers ≡ map (key_of columns) more = cc are in
      ap (put_all put nothing numbers (map value more)) (put-row rows keys r n apart there.0 here)
      ∙ put-rows keys apart (rows ++ r ∷ []) more numbers rest there.1
      ∙ ap (λ (rs : List Row). map (of rs) keys) (append_assoc rows (r ∷ []) more)

  -- keys without rows have nothing
  of-none : (rows new : List Row) → AllByRecursion (λ k. rows_at columns rows k ≡ []) new → replicate (length new) nothing ≡ map (of rows) new
  of-none rows [] a = refl
  of-none rows (k ∷ new) a = ap₂ (λ (s : S) (ss : List S). s ∷ ss) (sym (ap (λ (rs : List Row). kept (map value rs)) a.0 ∙ start)) (of-none rows new a.1)

  pub grown-keys : (rows keys new : List Row) → AllByRecursion (λ k. rows_at columns rows k ≡ []) new → grown nothing (length (keys ++ new)) (map (of rows) keys) ≡ map (of rows) (keys ++ new)
  grown-keys rows keys new none =
      ap (λ (n : ℕ). map (of rows) keys ++ replicate n nothing) {x = length (keys ++ new) - length (map (of rows) keys)} {y = length new} (omega (arith, length-append keys new, length-map keys (of rows)))
      ∙ ap (λ (ss : List S). map (of rows) keys ++ ss) (of-none rows new none) ∙ sym (map-append (of rows) keys new)

  -- both: new keys, and then the rows
  pub added : (rows keys new more : List Row) (numbers : List ℕ) → AllByRecursion (λ k. rows_at columns rows k ≡ []) new → AreApart (keys ++ new) → map (key_at (keys ++ new)) numbers ≡ map (key_of columns) more → AreNumbers (length (keys ++ new)) numbers
      → put_all put nothing numbers (map value more) (grown nothing (length (keys ++ new)) (map (of rows) keys)) ≡ map (of (rows ++ more)) (keys ++ new)
  added rows keys new more numbers none apart are there =
      ap (put_all put nothing numbers (map value more)) (grown-keys rows keys new none) ∙ put-rows (keys ++ new) apart rows more numbers are there

-- without rows no key has one
none-yet : (columns : List ℕ) (keys : List Row) → AllByRecursion (λ k. rows_at columns [] k ≡ []) keys
none-yet columns [] = tt
none-yet columns (k ∷ keys) = (refl, none-yet columns keys)

-- what is kept for an aggregate on its own, without rows
alone-first : (columns : List ℕ) (keys : List Row) (a : Aggregate) → grown_slots (length keys) (empty_slots a) ≡ slots_at columns [] keys a
alone-first columns keys CountAll = ap Counts (grown-keys kept_count put_count 0 refl count-push (argument CountAll) columns [] [] keys (none-yet columns keys))
alone-first columns keys (Count e) = ap Counts (grown-keys kept_count put_count 0 refl count-push (argument (Count e)) columns [] [] keys (none-yet columns keys))
alone-first columns keys (CountDistinct e) = ap Sets (grown-keys kept_set put_value [] refl set-push (argument (CountDistinct e)) columns [] [] keys (none-yet columns keys))
alone-first columns keys (Sum e) = ap Sums (grown-keys kept_sum put_sum no_sum refl sum-push (argument (Sum e)) columns [] [] keys (none-yet columns keys))
alone-first columns keys (Min e) =
    ap (Bests Least) (grown-keys (kept_best Least) (put_best Least) Null refl (best-push Least) (argument (Min e)) columns [] [] keys (none-yet columns keys))
alone-first columns keys (Max e) =
    ap (Bests Greatest) (grown-keys (kept_best Greatest) (put_best Greatest) Null refl (best-push Greatest) (argument (Max e)) columns [] [] keys (none-yet columns keys))

one-first : (columns : List ℕ) (keys : List Row) (lead : Option Aggregate) (a : Aggregate) → grown_slots (length keys) (empty_slots a) ≡ kept_at columns [] keys lead a
one-first columns keys None CountAll = alone-first columns keys CountAll
one-first columns keys (Some lead) CountAll = ap Counts (grown-keys kept_nulls put_null 0 refl null-push (argument lead) columns [] [] keys (none-yet columns keys))
one-first columns keys lead (Count e) = alone-first columns keys (Count e)
one-first columns keys lead (CountDistinct e) = alone-first columns keys (CountDistinct e)
one-first columns keys lead (Sum e) = alone-first columns keys (Sum e)
one-first columns keys lead (Min e) = alone-first columns keys (Min e)
one-first columns keys lead (Max e) = alone-first columns keys (Max e)

-- and for each of several
pub slots-first : (columns : List ℕ) (keys : List Row) (lead : Option Aggregate) (aggregates : List Aggregate) → map (λ a. grown_slots (length keys) (empty_slots a)) aggregates ≡ map (kept_at columns [] keys lead) aggregates
slots-first columns keys lead [] = refl
slots-first columns keys lead (a ∷ aggregates) = ap₂ (λ (s : Slots) (ss : List Slots). s ∷ ss) (one-first columns keys lead a) (slots-first columns keys lead aggregates)

module _ (columns : List ℕ) (rows keys new : List Row) (none : AllByRecursion (λ k. rows_at columns rows k ≡ []) new)
    (more : List Row) (numbers : List ℕ) (apart : AreApart (keys ++ new)) (are : map (key_at (keys ++ new)) numbers ≡ map (key_of columns) more) (there : AreNumbers (length (keys ++ new)) numbers) where
  -- what is kept for an aggregate on its own
  alone-added : (a : Aggregate) → put_slots numbers (map (argument a) more) (grown_slots (length (keys ++ new)) (slots_at columns rows keys a)) ≡ slots_at columns (rows ++ more) (keys ++ new) a
  alone-added CountAll = ap Counts (added kept_count put_count 0 refl count-push (argument CountAll) columns rows keys new more numbers none apart are there)
  alone-added (Count e) = ap Counts (added kept_count put_count 0 refl count-push (argument (Count e)) columns rows keys new more numbers none apart are there)
  alone-added (CountDistinct e) = ap Sets (added kept_set put_value [] refl set-push (argument (CountDistinct e)) columns rows keys new more numbers none apart are there)
  alone-added (Sum e) = ap Sums (added kept_sum put_sum no_sum refl sum-push (argument (Sum e)) columns rows keys new more numbers none apart are there)
  alone-added (Min e) =
      ap (Bests Least) (added (kept_best Least) (put_best Least) Null refl (best-push Least) (argument (Min e)) columns rows keys new more numbers none apart are there)
  alone-added (Max e) =
      ap (Bests Greatest) (added (kept_best Greatest) (put_best Greatest) Null refl (best-push Greatest) (argument (Max e)) columns rows keys new more numbers none apart are there)

  either-added : (a : Aggregate) (lead : Option Aggregate) → added_as lead (length (keys ++ new)) numbers more a (kept_as columns rows keys a lead) ≡ kept_as columns (rows ++ more) (keys ++ new) a lead
  either-added a None = alone-added a
  either-added a (Some lead) = ap Counts (added kept_nulls put_null 0 refl null-push (argument lead) columns rows keys new more numbers none apart are there)

  -- what is kept for an aggregate stands for the rows that were there and those that were added
  pub slots-added : (lead : Option Aggregate) (a : Aggregate) → added_slots lead (length (keys ++ new)) numbers more a (kept_at columns rows keys lead a) ≡ kept_at columns (rows ++ more) (keys ++ new) lead a
  slots-added lead a = either-added a (counted_beside lead a)
