-- Rows that pass conditions, one after the other.
use Rattle.std.proofs.Common.{◌≡◌, ℕ, ◌+◌, ◌<◌, ◌≤◌, Bool, true, false, ◌&&◌, cond, List, [], ◌∷◌, drop, length, get_or, refl, sym, ◌∙◌, ap, subst, arith, add-one, drop-cons}
use Rattle.std.specs.Prelude.{◌==◌}
use Rattle.std.specs.Borrow.{Bor}
use Rattle.std.specs.List.{AllByRecursion, filter}
use Rattle.std.proofs.lemmas.Bool.{eqb-true}
use Rattle.std.proofs.lemmas.List.{drop_all}
use Rattle.cq_model.specs.Own.{passes_own}
use Rattle.cq_values.specs.Value.{Row}
use Rattle.cq_model.specs.Trees.{cond_of}
use Rattle.cq_model.specs.declared.expr.CondTree.{CondTree}
use Rattle.cq_operators_conditions.specs.Passing.{CanPass, conditions_in, passing_rows}
use Rattle.cq_operators_scans.specs.Asked.{IsExactBehind, passes_one}
use Rattle.cq_model_bags.proofs.Lists.{all-filter, all-weaker, fewer}

-- where there is no condition all pass
none-asked : (before : ℕ) (rows : List Row) → passing_rows before [] rows ≡ rows
none-asked before [] = refl
none-asked before (row ∷ rows) = ap (λ rs. row ∷ rs) (none-asked before rows)

-- of an empty list of them
pub empty-asked : (before : ℕ) (conditions : List (Bor CondTree)) (rows : List Row) → (length conditions == 0) ≡ true → passing_rows before conditions rows ≡ rows
empty-asked before [] rows e = none-asked before rows
empty-asked before (c ∷ cs) rows e = absurd (omega (arith, eqb-true (length (c ∷ cs)) 0 e))

-- a row that passes both tests is kept by one after the other
both-kept : (p q : Row → Bool) (b : Bool) (row : Row) (rows : List Row) → filter q (cond b (row ∷ rows) rows) ≡ cond (b && q row) (row ∷ filter q rows) (filter q rows)
both-kept p q true row rows = refl
both-kept p q false row rows = refl

one-after-other : (p q : Row → Bool) (rows : List Row) → filter q (filter p rows) ≡ filter (λ row. p row && q row) rows
one-after-other p q [] = refl
one-after-other p q (row ∷ rows) = both-kept p q (p row) row (filter p rows) ∙ ap (λ rs. cond (p row && q row) (row ∷ rs) rs) (one-after-other p q rows)

-- Of some conditions the first ones were asked, and the rows that passed are those of which the rest is to be asked.
pub record LeftToPass (before : ℕ) (left conditions : List (Bor CondTree)) (passed rows : List Row) : Type 0 where
  pub few : length passed ≤ 1024
  pub exact : AllByRecursion (CanPass before (conditions_in left)) passed
  pub completes : passing_rows before left passed ≡ passing_rows before conditions rows

module _ (before : ℕ) (first : Bor CondTree) (left conditions : List (Bor CondTree)) (passed rows : List Row) (asked : LeftToPass before (first ∷ left) conditions passed rows) where
  exact-first : AllByRecursion (IsExactBehind before (cond_of first.now)) passed
  exact-first = all-weaker _ _ (λ row h. h.0) passed asked.exact

  asked-first : (kept : List Row) → kept ≡ filter (passes_one before first.now) passed → LeftToPass before left conditions kept rows
  asked-first kept is = record {
    few = omega (arith, ap length is, fewer (passes_one before first.now) passed, asked.few);
    exact = subst (AllByRecursion (CanPass before (conditions_in left))) (sym is) (all-filter (CanPass before (conditions_in left)) (passes_one before first.now) passed (all-weaker _ _ (λ row h. h.1) passed asked.exact));
    completes = ap (passing_rows before left) is ∙ one-after-other (passes_one before first.now) (passes_own before (conditions_in left)) passed ∙ asked.completes;
  }

module _ (before : ℕ) (conditions : List (Bor CondTree)) (i : ℕ) (condition : Bor CondTree) (more : i < length conditions) (is : condition ≡ get_or conditions i condition) (passed rows : List Row)
    (asked : LeftToPass before (drop i conditions) conditions passed rows) where
  at-next : LeftToPass before (condition ∷ drop (i + 1) conditions) conditions passed rows
  at-next =
      subst (λ (left : List (Bor CondTree)). LeftToPass before left conditions passed rows)
      (drop-cons conditions i condition more ∙ ap (λ (n : ℕ). get_or conditions i condition ∷ drop n conditions) (sym (add-one i)) ∙ ap (λ (c : Bor CondTree). c ∷ drop (i + 1) conditions) (sym is)) asked

  -- the next condition can be asked of those that passed
  pub exact-next : AllByRecursion (IsExactBehind before (cond_of condition.now)) passed
  exact-next = exact-first before condition (drop (i + 1) conditions) conditions passed rows at-next

  -- and leaves those of which the rest is to be asked
  pub asked-next : (kept : List Row) → kept ≡ filter (passes_one before condition.now) passed → LeftToPass before (drop (i + 1) conditions) conditions kept rows
  asked-next = asked-first before condition (drop (i + 1) conditions) conditions passed rows at-next

-- when all were asked, the rows that passed are the ones
pub all-asked : (before : ℕ) (conditions : List (Bor CondTree)) (i : ℕ) → length conditions ≤ i → (passed rows : List Row)
    → LeftToPass before (drop i conditions) conditions passed rows → passed ≡ passing_rows before conditions rows
all-asked before conditions i le passed rows asked =
    sym (ap (λ (left : List (Bor CondTree)). passing_rows before left passed) (drop_all i conditions le) ∙ none-asked before passed) ∙ asked.completes
