-- Numbers that are reached by steps.
use Rattle.std.proofs.Common.{◌≡◌, ◌≢◌, ℕ, zero, suc, ◌+◌, ◌*◌, ◌/◌, ◌%◌, ◌<◌, List, length, get_or, take, drop, sym, ap, ap₂, ◌∙◌, arith, zero-add}
use Rattle.std.proofs.lemmas.List.{get_or-drop, length-drop, take_more}
use Rattle.std.proofs.lemmas.List.FromFn.{fill_by_all, get_or-map-range_with_len, length-map-range_with_len}
use Rattle.std.proofs.lemmas.List.Sums.{fold_push}
use Rattle.cq_encodings_numbers.specs.Steps.{AreMarks, AreSteps, all_numbers, next_to, number_at, walked}

-- one step more
pub walked_more : (least number : ℕ) (steps : List ℕ) (n : ℕ) → n < length steps → walked least number (take (n + 1) steps) ≡ next_to least (walked least number (take n steps)) (get_or steps n 0)
walked_more least number steps n lt = ap (walked least number) (take_more steps n 0 lt) ∙ fold_push (next_to least) number (take n steps) (get_or steps n 0)

module _ (least : ℕ) (steps : List ℕ) where
  -- from a place, where the first step is that to the place behind it
  pub from_more : (number from n : ℕ) → from + n + 1 < length steps → walked least number (take (n + 1) (drop (from + 1) steps)) ≡ next_to least (walked least number (take n (drop (from + 1) steps))) (get_or steps (from + n + 1) 0)
  from_more number from n lt =
      walked_more least number (drop (from + 1) steps) n (omega (arith, lt, length-drop (from + 1) steps))
      ∙ ap (next_to least (walked least number (take n (drop (from + 1) steps))))
      (get_or-drop (from + 1) steps n 0 ∙ ap (λ (k : ℕ). get_or steps k 0) {x = from + 1 + n} {y = from + n + 1} (omega arith))

  -- steps that lead from one number to the next lead to all that follow
  leads : (numbers : List ℕ) → AreSteps least steps numbers → (number from n : ℕ) → from + n < length numbers → number ≡ get_or numbers from 0 → walked least number (take n (drop (from + 1) steps)) ≡ get_or numbers (from + n) 0
  leads numbers are number from zero lt is = is ∙ ap (λ (k : ℕ). get_or numbers k 0) {x = from} {y = from + 0} (omega arith)
  leads numbers are number from (suc n) lt is =
      ap (λ (k : ℕ). walked least number (take k (drop (from + 1) steps))) {x = suc n} {y = n + 1} (omega arith)
      ∙ from_more number from n (omega (arith, lt, are.long))
      ∙ ap (λ (m : ℕ). next_to least m (get_or steps (from + n + 1) 0)) (leads numbers are number from n (omega (arith, lt)) is)
      ∙ are.lead (from + n) (omega (arith, lt))
      ∙ ap (λ (k : ℕ). get_or numbers k 0) {x = from + n + 1} {y = from + suc n} (omega arith)

module _ (marks : List ℕ) (least : ℕ) (steps : List ℕ) where
  -- a mark is the number of its place
  pub number_at_mark : (place : ℕ) → place % 1024 ≡ 0 → number_at marks least steps place ≡ get_or marks (place / 1024) 0
  unfolding number_at
  number_at_mark place none = ap (λ (n : ℕ). walked least (get_or marks (place / 1024) 0) (take n (drop (1024 * (place / 1024) + 1) steps))) none

  -- and any other is a step behind the one before it
  pub number_at_next : (place : ℕ) → place + 1 < length steps → (place + 1) % 1024 ≢ 0 → number_at marks least steps (place + 1) ≡ next_to least (number_at marks least steps place) (get_or steps (place + 1) 0)
  unfolding number_at
  number_at_next place lt some =
      let k = place / 1024 in
      let n = place % 1024 in
      let same : (place + 1) / 1024 ≡ k = omega (arith, some) in
      let more : (place + 1) % 1024 ≡ n + 1 = omega (arith, some) in
      ap₂ (λ (j m : ℕ). walked least (get_or marks j 0) (take m (drop (1024 * j + 1) steps))) same more
      ∙ from_more least steps (get_or marks k 0) (1024 * k) n (omega (arith, lt))
      ∙ ap (λ (m : ℕ). next_to least (walked least (get_or marks k 0) (take n (drop (1024 * k + 1) steps))) (get_or steps m 0)) {x = 1024 * k + n + 1} {y = place + 1} (omega arith)

  pub length-all : length (all_numbers marks least steps) ≡ length steps
  length-all = length-map-range_with_len (number_at marks least steps) 0 (length steps)

  pub all_at : (place : ℕ) → place < length steps → get_or (all_numbers marks least steps) place 0 ≡ number_at marks least steps place
  all_at place lt = get_or-map-range_with_len (number_at marks least steps) 0 (length steps) place place 0 lt (zero-add place)

  number_is : (numbers : List ℕ) → AreMarks marks numbers → AreSteps least steps numbers → (place : ℕ) → place < length numbers → get_or numbers place 0 ≡ number_at marks least steps place
  unfolding number_at
  number_is numbers marked are place lt =
      let k = place / 1024 in
      sym (leads least steps numbers are (get_or marks k 0) (1024 * k) (place % 1024) (omega (arith, lt)) (marked k (omega (arith, lt)))
      ∙ ap (λ (n : ℕ). get_or numbers n 0) {x = 1024 * k + place % 1024} {y = place} (omega arith))

  -- marks and steps of numbers are the numbers
  pub all_are : (numbers : List ℕ) → AreMarks marks numbers → AreSteps least steps numbers → all_numbers marks least steps ≡ numbers
  all_are numbers marked are = sym (fill_by_all (number_at marks least steps) numbers (length steps) 0 (sym are.long) (λ place lt. number_is numbers marked are place (omega (arith, lt, are.long))))
