-- What is kept for each aggregate, one after the other.
use Rattle.std.proofs.Common.{◌≡◌, ℕ, zero, suc, ◌+◌, ◌-◌, ◌<◌, ◌≤◌, List, [], ◌∷◌, map, take, replicate, length, get_or, set, refl, sym, ◌∙◌, ap, ap₂, min, add-one, arith, subst, Option}
use Rattle.std.proofs.lemmas.List.{get_or_default, length-append, length-replicate}
use Rattle.cq_values.specs.declared.value.Value.{Value}
use Rattle.cq_values.specs.declared.value.Value.TheVariants.{Null}
use Rattle.cq_values.specs.Value.{Row}
use Rattle.cq_model.specs.declared.query.Aggregate.{Aggregate}
use Rattle.cq_model.specs.declared.query.Aggregate.TheVariants.{CountAll, Count, CountDistinct, Sum, Min, Max}
use Rattle.cq_hash_groups_slots.specs.declared.slots.Slots.{Slots}
use Rattle.cq_hash_groups.specs.Groups.{AreAllWithin, added_slots, all_added}
use Rattle.cq_hash_groups_slots.specs.declared.slots.Slots.TheVariants.{Counts, Sums, Bests, Sets}
use Rattle.cq_hash_groups_sums.specs.Puts.{IsSumWithin, no_sum}
use Rattle.cq_hash_groups_slots.specs.Slots.{AreWithin, empty_slots, groups_in, grown_slots, no_slots}
use Rattle.cq_hash_groups_sums.proofs.Putting.{at-grown, sums-more}

module _ (lead : Option Aggregate) (groups : ℕ) (numbers : List ℕ) (rows : List Row) where
  -- a turn leaves what comes after it
  not-yet : (asked : List Aggregate) (ss : List Slots) (i : ℕ) (d : Slots) → get_or (all_added lead groups numbers rows (take i asked) ss) i d ≡ get_or ss i d
  not-yet [] ss zero d = refl
  not-yet [] ss (suc i) d = refl
  not-yet (a ∷ asked) [] zero d = refl
  not-yet (a ∷ asked) [] (suc i) d = refl
  not-yet (a ∷ asked) (s ∷ ss) zero d = refl
  not-yet (a ∷ asked) (s ∷ ss) (suc i) d = not-yet asked ss i d

  -- a turn writes its place
  one-more : (asked : List Aggregate) (ss : List Slots) (i : ℕ) (a : Aggregate) (d : Slots) → i < length asked → i < length ss
      → all_added lead groups numbers rows (take (suc i) asked) ss ≡ set (all_added lead groups numbers rows (take i asked) ss) i (added_slots lead groups numbers rows (get_or asked i a) (get_or ss i d))
  one-more [] ss i a d g h = absurd (omega (arith, g))
  one-more (b ∷ asked) [] i a d g h = absurd (omega (arith, h))
  one-more (b ∷ asked) (s ∷ ss) zero a d g h = refl
  one-more (b ∷ asked) (s ∷ ss) (suc i) a d g h = ap (λ (l : List Slots). added_slots lead groups numbers rows b s ∷ l) (one-more asked ss i a d (omega (arith, g)) (omega (arith, h)))

  length-added : (asked : List Aggregate) (ss : List Slots) → length (all_added lead groups numbers rows asked ss) ≡ length ss
  length-added [] ss = refl
  length-added (a ∷ asked) [] = refl
  length-added (a ∷ asked) (s ∷ ss) = ap suc (length-added asked ss)

  -- when one of the lists is at its end, all are added
  all-done : (asked : List Aggregate) (ss : List Slots) (n : ℕ) → min (length ss) (length asked) ≤ n → all_added lead groups numbers rows (take n asked) ss ≡ all_added lead groups numbers rows asked ss
  all-done [] ss zero h = refl
  all-done [] ss (suc n) h = refl
  all-done (a ∷ asked) [] zero h = refl
  all-done (a ∷ asked) [] (suc n) h = refl
  all-done (a ∷ asked) (s ∷ ss) zero h = absurd (omega (arith, h))
  all-done (a ∷ asked) (s ∷ ss) (suc n) h = ap (λ (l : List Slots). added_slots lead groups numbers rows a s ∷ l) (all-done asked ss n (omega (arith, h)))

  module _ (asked : List Aggregate) (initial now : List Slots) (i : ℕ) (so_far : now ≡ all_added lead groups numbers rows (take i asked) initial) where
    pub same-length : length now ≡ length initial
    same-length = ap length so_far ∙ length-added (take i asked) initial

    -- what is at a place has not had its turn
    pub still : (d : Slots) → get_or now i d ≡ get_or initial i d
    still d = ap (λ (l : List Slots). get_or l i d) so_far ∙ not-yet asked initial i d

    pub room-at : (n : ℕ) (d : Slots) → i < length now → AreWithin n (get_or initial i no_slots) → AreWithin n (get_or now i d)
    room-at n d lt h = subst (AreWithin n) (sym (get_or_default now i d no_slots lt ∙ still no_slots)) h

    pub turn : (a : Aggregate) (s new : Slots) → i < length asked → i < length initial → new ≡ added_slots lead groups numbers rows (get_or asked i a) (get_or now i s)
        → set now i new ≡ all_added lead groups numbers rows (take (i + 1) asked) initial
    turn a s new g h e =
        ap₂ (λ (l : List Slots) (x : Slots). set l i x) so_far (e ∙ ap (added_slots lead groups numbers rows (get_or asked i a)) (still s))
        ∙ rw (add-one i) (sym (one-more asked initial i a s g h))

    pub turns-done : min (length initial) (length asked) ≤ i → now ≡ all_added lead groups numbers rows asked initial
    turns-done h = so_far ∙ all-done asked initial i h

  -- rows added to what stands for each aggregate
  pub each-added : (old new : Aggregate → Slots) → ((a : Aggregate) → added_slots lead groups numbers rows a (old a) ≡ new a) → (asked : List Aggregate) → all_added lead groups numbers rows asked (map old asked) ≡ map new asked
  each-added old new h [] = refl
  each-added old new h (a ∷ asked) = ap₂ (λ (s : Slots) (ss : List Slots). s ∷ ss) (h a) (each-added old new h asked)

-- groups of no values are within any bound
within-grown : (n groups : ℕ) (s : Slots) → AreWithin n s → AreWithin n (grown_slots groups s)
within-grown n groups (Counts counts) all = at-grown (λ c. c ≤ n) counts (groups - length counts) 0 (omega arith) all
within-grown n groups (Sums sums) all = at-grown (IsSumWithin n) sums (groups - length sums) no_sum (record { count = omega arith; total = omega arith }) all
within-grown n groups (Bests which values) all = tt
within-grown n groups (Sets sets) all = tt

within-empty : (n : ℕ) (a : Aggregate) → AreWithin n (empty_slots a)
within-empty n CountAll = λ g. omega arith
within-empty n (Count e) = λ g. omega arith
within-empty n (CountDistinct e) = tt
within-empty n (Sum e) = λ g. record { count = omega arith; total = omega arith }
within-empty n (Min e) = tt
within-empty n (Max e) = tt

pub within-first : (n groups : ℕ) (aggregates : List Aggregate) → AreAllWithin n (map (λ a. grown_slots groups (empty_slots a)) aggregates)
within-first n groups [] place = tt
within-first n groups (a ∷ aggregates) zero = within-grown n groups (empty_slots a) (within-empty n a)
within-first n groups (a ∷ aggregates) (suc place) = within-first n groups aggregates place

pub within-more : (few many : ℕ) (s : Slots) → few ≤ many → AreWithin few s → AreWithin many s
within-more few many (Counts counts) le all = λ g. omega (arith, le, all g)
within-more few many (Sums sums) le all = sums-more few many sums le all
within-more few many (Bests which values) le all = tt
within-more few many (Sets sets) le all = tt

-- there are as many groups as there are to be
pub groups-grown : (groups : ℕ) (s : Slots) → groups ≤ groups_in (grown_slots groups s)
groups-grown groups (Counts counts) = omega (arith, length-append counts (replicate (groups - length counts) 0), length-replicate {A = ℕ} (groups - length counts) 0)
groups-grown groups (Sums sums) = omega (arith, length-append sums (replicate (groups - length sums) no_sum), length-replicate (groups - length sums) no_sum)
groups-grown groups (Bests which values) = omega (arith, length-append values (replicate (groups - length values) Null), length-replicate (groups - length values) Null)
groups-grown groups (Sets sets) = omega (arith, length-append sets (replicate {A = List Value} (groups - length sets) []), length-replicate {A = List Value} (groups - length sets) [])
