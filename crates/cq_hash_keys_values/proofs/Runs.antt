-- Runs of what is known, between what may be new.
use Rattle.std.proofs.Common.{◌≡◌, ℕ, zero, suc, ◌+◌, ◌-◌, ◌<◌, ◌≤◌, Bool, true, List, ◌++◌, map, set, take, length, get_or, position, Option, Some, refl, sym, ◌∙◌, ap, subst, arith}
use Rattle.std.proofs.lemmas.Bool.{cases_lt}
use Rattle.std.proofs.lemmas.List.{ext_get_or, get_or_default, get_or-map, get_or-set_other, get_or-set_same, length-map, length-set}
use Rattle.std.proofs.lemmas.List.Sums.{fold_more}
use Rattle.indexmap.specs.IndexSet.{insert_key}
use Rattle.cq_model_bags.proofs.Lists.{all-listed}
use Rattle.cq_hash_keys_values.specs.Met.{AreNumbersOf, IsNumberIn, IsRun, IsToldTo, with_new}
use Rattle.cq_hash_keys_values.proofs.Meeting.{met-next, numbered-stays, stays, told}
use Rattle.cq_hash_keys_values.proofs.Choices.{by-sum}
use Rattle.cq_hash_keys_values.proofs.Growing.{insert-more}

module _ {X : Type 0} (none : X) (find : X → Option ℕ) (xs : List X) (from : ℕ) where
  -- a run of nothing
  pub run-none : (old : List ℕ) → IsRun none find xs from from old old
  run-none old = record { same = refl; kept = λ i lt. refl; found = λ i le lt. absurd (omega (arith, le, lt)) }

  -- one place more
  pub run-next : (at n : ℕ) (old new : List ℕ) → from ≤ at → at < length old → find (get_or xs at none) ≡ Some n → IsRun none find xs from at old new → IsRun none find xs from (at + 1) old (set new at n)
  run-next at n old new le lt here run = record {
    same = length-set new at n ∙ run.same;
    kept = λ i below. get_or-set_other new at i n 0 (λ e. omega (arith, e, below, le)) ∙ run.kept i below;
    found = λ i above below. by-sum (cases_lt i at)
        (λ before. run.found i above before ∙ ap Some (sym (get_or-set_other new at i n 0 (λ e. omega (arith, e, before)))))
        (λ past.
        let is : i ≡ at = omega (arith, past, below) in
        ap (λ (j : ℕ). find (get_or xs j none)) is ∙ here
        ∙ ap Some (sym (ap (λ (j : ℕ). get_or (set new at n) j 0) is ∙ get_or-set_same new at n 0 (let e = run.same in omega (arith, e, lt)))));
  }

module _ {X : Type 0} (same : X → X → Bool) (none : X) (is_same : (x y : X) → same x y ≡ true → x ≡ y) (itself : (x : X) → same x x ≡ true) where
  -- what is known puts nothing in
  run-met : (start met xs : List X) (from count : ℕ) → from + count ≤ length xs → met ≡ with_new same start (take from xs)
      → ((i : ℕ) → from ≤ i → i < from + count → (n : ℕ) × IsNumberIn none met (get_or xs i none) n) → met ≡ with_new same start (take (from + count) xs)
  run-met start met xs from zero le made known = made ∙ ap (λ (n : ℕ). with_new same start (take n xs)) (omega arith)
  run-met start met xs from (suc count) le made known =
      let before = run-met start met xs from count (omega (arith, le)) made (λ i above below. known i above (omega (arith, below))) in
      let here = known (from + count) (omega arith) (omega arith) in
      sym (numbered-stays same none is_same itself met (get_or xs (from + count) none) here.0 here.1)
      ∙ ap (λ ys. insert_key same ys (get_or xs (from + count) none)) before
      ∙ sym (fold_more (insert_key same) start xs (from + count) none (omega (arith, le)))
      ∙ ap (λ (n : ℕ). with_new same start (take n xs)) (omega arith)

  -- numbers stay where one more is put in
  pub still-number : (old new : List X) (x y : X) (n : ℕ) → new ≡ insert_key same old y → IsNumberIn none old x n → IsNumberIn none new x n
  still-number old new x y n made is =
      let more = insert-more same old y in
      let e : new ≡ old ++ more.0 = made ∙ more.1 in
      let kept = stays none old more.0 n is.0 in
      subst (λ ys. IsNumberIn none ys x n) (sym e) (kept.0, kept.1 ∙ is.1)

  -- one that may be new, and then numbers of what is known
  pub one-and-known : (start old new xs : List X) (at upto : ℕ) (numbers after last : List ℕ) (x : X) (n : ℕ) → at < length xs → x ≡ get_or xs at none → length numbers ≡ length xs
      → old ≡ with_new same start (take at xs) → IsToldTo none old xs at numbers → new ≡ insert_key same old x → IsNumberIn none new x n → after ≡ set numbers at n → at + 1 ≤ upto → upto ≤ length xs
      → length last ≡ length after → ((i : ℕ) → i < at + 1 → get_or last i 0 ≡ get_or after i 0) → ((i : ℕ) → at + 1 ≤ i → i < upto → IsNumberIn none new (get_or xs i none) (get_or last i 0))
      → (new ≡ with_new same start (take upto xs)) × (IsToldTo none new xs upto last × (length last ≡ length xs))
  one-and-known start old new xs at upto numbers after last x n lt is long so_far told_far made number written le end as_long kept_so in_run =
      let rest : at + 1 + (upto - (at + 1)) ≡ upto = omega (arith, le) in
      let first : new ≡ with_new same start (take (at + 1) xs) = met-next same none is_same itself start old new xs at x lt is made so_far in (
        run-met start new xs (at + 1) (upto - (at + 1)) (omega (arith, rest, end)) first (λ i above below. (get_or last i 0, in_run i above (omega (arith, below, rest))))
            ∙ ap (λ (m : ℕ). with_new same start (take m xs)) rest,
        (
          λ i below. by-sum (cases_lt i (at + 1))
              (λ before.
              let kept : get_or last i 0 ≡ get_or (set numbers at n) i 0 = kept_so i before ∙ ap (λ (ns : List ℕ). get_or ns i 0) written in
              by-sum (cases_lt i at)
              (λ earlier.
              let e : get_or last i 0 ≡ get_or numbers i 0 = kept ∙ get_or-set_other numbers at i n 0 (λ e. omega (arith, e, earlier)) in
              subst (IsNumberIn none new (get_or xs i none)) (sym e) (still-number old new (get_or xs i none) x (get_or numbers i 0) made (told_far i earlier)))
              (λ now.
              let j : i ≡ at = omega (arith, now, before) in
              let e : get_or last i 0 ≡ n = kept ∙ ap (λ (k : ℕ). get_or (set numbers at n) k 0) j ∙ get_or-set_same numbers at n 0 (omega (arith, lt, long)) in
              let y : x ≡ get_or xs i none = is ∙ ap (λ (k : ℕ). get_or xs k none) (sym j) in
              subst (IsNumberIn none new (get_or xs i none)) (sym e) (subst (λ z. IsNumberIn none new z n) y number)))
              (λ past. in_run i past below),
          as_long ∙ ap (λ (ns : List ℕ). length ns) written ∙ length-set numbers at n ∙ long,
        ),
      )

  -- one that may be new, and then a run of what is known
  pub one-and-run : (start old new xs : List X) (at upto : ℕ) (numbers after last : List ℕ) (x : X) (n : ℕ) → at < length xs → x ≡ get_or xs at none → length numbers ≡ length xs
      → old ≡ with_new same start (take at xs) → IsToldTo none old xs at numbers → new ≡ insert_key same old x → IsNumberIn none new x n → after ≡ set numbers at n → at + 1 ≤ upto → upto ≤ length xs
      → IsRun none (λ y. position (same y) new) xs (at + 1) upto after last → (new ≡ with_new same start (take upto xs)) × (IsToldTo none new xs upto last × (length last ≡ length xs))
  one-and-run start old new xs at upto numbers after last x n lt is long so_far told_far made number written le end run =
      one-and-known start old new xs at upto numbers after last x n lt is long so_far told_far made number written le end run.same run.kept
      (λ i above below. told same none is_same itself new (get_or xs i none) (get_or last i 0) (run.found i above below))

-- all are told
pub all-are_told : {X : Type 0} (none : X) (met xs : List X) (upto : ℕ) (numbers : List ℕ) → length numbers ≡ length xs → upto ≡ length xs → IsToldTo none met xs upto numbers → AreNumbersOf none met xs numbers
all-are_told none met xs upto numbers long end told = record {
  named =
      ext_get_or none (map (λ n. get_or met n none) numbers) xs (length-map numbers (λ n. get_or met n none) ∙ long)
      (λ i lt.
      let there : i < length numbers = omega (arith, lt, length-map numbers (λ n. get_or met n none)) in
      get_or-map (λ n. get_or met n none) numbers i 0 none there ∙ (told i (omega (arith, there, long, end))).1);
  within = all-listed (λ n. n < length met) numbers
      (λ i d lt.
      let e : get_or numbers i d ≡ get_or numbers i 0 = get_or_default numbers i d 0 lt in
      subst (λ (n : ℕ). n < length met) (sym e) (told i (omega (arith, lt, long, end))).0);
}
