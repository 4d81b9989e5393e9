-- How far counts and totals have moved, and how far they can still move.
use Rattle.std.proofs.Common.{◌≡◌, ℕ, ◌+◌, ◌<◌, ◌≤◌, ◌^◌, ℤ, ◌+ℤ◌, nat_abs, List, [], ◌∷◌, take, length, get_or, Option, None, Some, refl, sym, ◌∙◌, ap, subst, arith}
use Rattle.std.specs.List.{AllByRecursion}
use Rattle.std.specs.Option.{option_map}
use Rattle.std.proofs.lemmas.Int.{ints}
use Rattle.std.proofs.lemmas.List.Sums.{sum_by-cons, sum_by_more_le}
use Rattle.cq_values.specs.Value.{Row}
use Rattle.cq_values.specs.Order.{same_row}
use Rattle.cq_values.specs.declared.value.Value.{Value}
use Rattle.cq_model_bags.specs.Bag.{Weighted, weight_of}
use Rattle.cq_model_bags.proofs.Totals.{by_test, weight_of-append}
use Rattle.cq_views_model.specs.Kept.{Kept, Counted, Totalled, Listed, Group}
use Rattle.cq_deltas.specs.Extremes.{alone, with_more}
use Rattle.cq_deltas.specs.declared.change.Addend.{Addend}
use Rattle.cq_deltas.specs.declared.change.Addend.TheVariants as added
use Rattle.cq_deltas.specs.Additions.{Addition}
use Rattle.cq_deltas.specs.Kept.{kept_with, all_kept_with, total_move, total_moves, KeptHolds, GroupHolds}
use Rattle.cq_deltas.specs.Keyed.{KeyedGroups, stored_at, group_met, group_with_all, count_moves, all_total_moves, HoldsFor}
use Rattle.cq_deltas.proofs.Turns.{holds-less}
use Rattle.cq_deltas.proofs.Writes.{more-added}
use Rattle.cq_model_bags.proofs.Integers.{abs-plus}

all-holds-less : (counts totals c t : ℕ) (ks : List Kept) → c ≤ counts → t ≤ totals → AllByRecursion (KeptHolds counts totals) ks → AllByRecursion (KeptHolds c t) ks
all-holds-less counts totals c t [] x y h = tt
all-holds-less counts totals c t (k ∷ ks) x y h = (holds-less counts totals c t k x y h.0, all-holds-less counts totals c t ks x y h.1)

-- what holds of a group while much moves holds while less does
group-holds-less : (counts totals c t : ℕ) (g : Group) → c ≤ counts → t ≤ totals → GroupHolds counts totals g → GroupHolds c t g
group-holds-less counts totals c t g x y h = record { count = omega (arith, x, h.count); kept = all-holds-less counts totals c t g.kept x y h.kept }

-- a value's count moves by no more than the row's weight
more-holds : (values : Weighted) (u : Value) (w : ℤ) (c : ℕ) → ((v : Value) → nat_abs (weight_of values (alone v)) + (nat_abs w + c) < 2 ^ 127)
    → (v : Value) → nat_abs (weight_of (with_more (alone u) w values) (alone v)) + c < 2 ^ 127
more-holds values u w c h v =
    let sum : weight_of (with_more (alone u) w values) (alone v) ≡ weight_of values (alone v) +ℤ weight_of ((alone u, w) ∷ []) (alone v) =
    (more-added (alone u) w values (with_more (alone u) w values) refl).bag.at (alone v) ∙ weight_of-append values ((alone u, w) ∷ []) (alone v) in
    let one : nat_abs (weight_of ((alone u, w) ∷ []) (alone v)) ≤ nat_abs w = by_test (same_row (alone u) (alone v)) (λ s. rw s (omega (arith, ints))) (λ s. rw s (omega (arith, ints))) in
    let all : nat_abs (weight_of (with_more (alone u) w values) (alone v)) ≡ nat_abs (weight_of values (alone v) +ℤ weight_of ((alone u, w) ∷ []) (alone v)) = ap nat_abs sum in
    omega (arith, all, one, abs-plus (weight_of values (alone v)) (weight_of ((alone u, w) ∷ []) (alone v)), h v)

-- after an argument is put in, the rest of the way is left
kept_with-holds : (w : ℤ) (v : Option Addend) (m c t : ℕ) (k : Kept) → total_move w v ≤ m → KeptHolds (nat_abs w + c) (m + t) k → KeptHolds c t (kept_with w v k)
kept_with-holds w None m c t k x h = holds-less (nat_abs w + c) (m + t) c t k (omega arith) (omega arith) h
kept_with-holds w (Some (added.Number v)) m c t (Counted n) x h = omega (arith, ints, h)
kept_with-holds w (Some (added.Number v)) m c t (Totalled n total) x h = (omega (arith, ints, h.0), omega (arith, ints, x, h.1))
kept_with-holds w (Some (added.Number v)) m c t (Listed values) x h = holds-less (nat_abs w + c) (m + t) c t (Listed values) (omega arith) (omega arith) h
kept_with-holds w (Some (added.Listed v)) m c t (Counted n) x h = holds-less (nat_abs w + c) (m + t) c t (Counted n) (omega arith) (omega arith) h
kept_with-holds w (Some (added.Listed v)) m c t (Totalled n total) x h = holds-less (nat_abs w + c) (m + t) c t (Totalled n total) (omega arith) (omega arith) h
kept_with-holds w (Some (added.Listed v)) m c t (Listed values) x h = more-holds values v w c h

all_kept_with-hold : (w : ℤ) (vs : List (Option Addend)) (m c t : ℕ) (ks : List Kept) → total_moves w vs ≤ m → AllByRecursion (KeptHolds (nat_abs w + c) (m + t)) ks
    → AllByRecursion (KeptHolds c t) (all_kept_with w vs ks)
all_kept_with-hold w [] m c t ks x h = all-holds-less (nat_abs w + c) (m + t) c t ks (omega arith) (omega arith) h
all_kept_with-hold w (v ∷ vs) m c t [] x h = tt
all_kept_with-hold w (v ∷ vs) m c t (k ∷ ks) x h = (kept_with-holds w v m c t k (omega (arith, x)) h.0, all_kept_with-hold w vs m c t ks (omega (arith, x)) h.1)

group_met-holds : (k : Row) (x : Addition) (c t : ℕ) (g : Group) → GroupHolds (nat_abs x.weight + c) (total_moves x.weight x.addends + t) g → GroupHolds c t (group_met k g x)
group_met-holds k x c t g h = by_test (same_row x.key k)
    (λ s. rw s (record {
      count = omega (arith, ints, h.count);
      kept = all_kept_with-hold x.weight x.addends (total_moves x.weight x.addends) c t g.kept (omega arith) h.kept;
    }))
    (λ s. rw s (group-holds-less (nat_abs x.weight + c) (total_moves x.weight x.addends + t) c t g (omega arith) (omega arith) h))

-- after a change is put in, the rest of the way is left
pub group_with_all-holds : (xs : List Addition) (k : Row) (c t : ℕ) (g : Group) → GroupHolds (count_moves xs + c) (all_total_moves xs + t) g → GroupHolds c t (group_with_all xs k g)
group_with_all-holds [] k c t g h = group-holds-less (0 + c) (0 + t) c t g (omega arith) (omega arith) h
group_with_all-holds (x ∷ xs) k c t g h =
    let e = sum_by-cons (λ (y : Addition). nat_abs y.weight) x xs in
    let f = sum_by-cons (λ (y : Addition). total_moves y.weight y.addends) x xs in
    group_with_all-holds xs k c t (group_met k g x)
    (group_met-holds k x (count_moves xs + c) (all_total_moves xs + t) g
    (group-holds-less (count_moves (x ∷ xs) + c) (all_total_moves (x ∷ xs) + t) (nat_abs x.weight + (count_moves xs + c)) (total_moves x.weight x.addends + (all_total_moves xs + t)) g
    (omega (arith, e)) (omega (arith, f)) h))

some-same : (g h : Group) → Some g ≡ Some h → g ≡ h
some-same g h e = cc e

-- so a row can be put in after those before it
pub next-holds : (old now : KeyedGroups) (xs : List Addition) (i : ℕ) (x : Addition) → HoldsFor xs old → i < length xs → x ≡ get_or xs i x
    → ((k : Row) → stored_at now k ≡ option_map (group_with_all (take i xs) k) (stored_at old k))
    → (g : Group) → stored_at now x.key ≡ Some g → GroupHolds (nat_abs x.weight) (total_moves x.weight x.addends) g
next-holds old now xs i x holds h is so_far g e = by (stored_at old x.key) refl
  where
    moves : count_moves (take i xs) + nat_abs x.weight ≤ count_moves xs
    moves = rw (ap (λ (y : Addition). nat_abs y.weight) is) (sum_by_more_le (λ (y : Addition). nat_abs y.weight) xs i x h)

    total_way : all_total_moves (take i xs) + total_moves x.weight x.addends ≤ all_total_moves xs
    total_way = rw (ap (λ (y : Addition). total_moves y.weight y.addends) is) (sum_by_more_le (λ (y : Addition). total_moves y.weight y.addends) xs i x h)

    by : (o : Option Group) → stored_at old x.key ≡ o → GroupHolds (nat_abs x.weight) (total_moves x.weight x.addends) g
    by None p = absurd (cc (sym e ∙ so_far x.key ∙ ap (option_map (group_with_all (take i xs) x.key)) p))
    by (Some g0) p =
        let is_g : group_with_all (take i xs) x.key g0 ≡ g = some-same _ _ (sym (so_far x.key ∙ ap (option_map (group_with_all (take i xs) x.key)) p) ∙ e) in
        subst (GroupHolds (nat_abs x.weight) (total_moves x.weight x.addends)) is_g
        (group_with_all-holds (take i xs) x.key (nat_abs x.weight) (total_moves x.weight x.addends) g0
        (group-holds-less (count_moves xs) (all_total_moves xs) (count_moves (take i xs) + nat_abs x.weight) (all_total_moves (take i xs) + total_moves x.weight x.addends) g0 moves total_way
        (holds.at x.key g0 p)))
