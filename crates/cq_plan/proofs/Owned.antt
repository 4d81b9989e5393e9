-- Which parts of a condition AND joins.
use Rattle.std.proofs.Common.{◌≡◌, ℕ, zero, suc, ◌<◌, List, [], ◌∷◌, map, length, get_or, sym, subst, arith, Vec, Box, Global}
use Rattle.std.specs.Borrow.{Bor}
use Rattle.std.specs.List.{fold}
use Rattle.cq_model_eval.proofs.Trees.{tree-And}
use Rattle.cq_model.specs.Own.{AreOwn, IsPart, whole, before_and, behind_and}
use Rattle.cq_model.specs.Expr.{And, Cond}
use Rattle.cq_model.specs.Trees.{cond_of}
use Rattle.cq_model.specs.declared.expr.CondTree.{CondTree}
use Rattle.cq_model.specs.declared.expr.CondTree.TheViews as cond_view
use Rattle.cq_plan.specs.Own.{StayOwn, conditions_of}

-- ---- parts
-- a part of a part is a part
pub part-through : (a b c : Cond) → IsPart a b → IsPart b c → IsPart a c
part-through a b c p (whole d) = p
part-through a b c p (before_and part x y is) = before_and a x y (part-through a b x p is)
part-through a b c p (behind_and part x y is) = behind_and a x y (part-through a b y p is)

first-part : (c : Cond) (cs : List Cond) → IsPart c (fold And c cs)
first-part c [] = whole c
first-part c (d ∷ ds) = part-through c (And c d) (fold And (And c d) ds) (before_and c c d (whole c)) (first-part (And c d) ds)

later-part : (c : Cond) (ts : List CondTree) (i : ℕ) (d part : CondTree) → i < length ts → part ≡ get_or ts i d → IsPart (cond_of part) (fold And c (map cond_of ts))
later-part c [] i d part h is = absurd (omega arith)
later-part c (t ∷ ts) zero d part h is =
    subst (λ (u : CondTree). IsPart (cond_of u) (fold And (And c (cond_of t)) (map cond_of ts))) (sym is)
    (part-through (cond_of t) (And c (cond_of t)) (fold And (And c (cond_of t)) (map cond_of ts)) (behind_and (cond_of t) c (cond_of t) (whole (cond_of t))) (first-part (And c (cond_of t)) (map cond_of ts)))
later-part c (t ∷ ts) (suc i) d part h is = later-part (And c (cond_of t)) ts i d part (omega arith) is

module _ (tree : CondTree) (first : Box CondTree Global) (rest : Vec CondTree Global) (is : tree ≡ cond_view.And first rest) where
  -- the first of what AND joins is a part
  pub first-is-part : (head : CondTree) → head ≡ first.value → IsPart (cond_of head) (cond_of tree)
  first-is-part head one = rw (one, is, tree-And first rest) (first-part (cond_of first.value) (map cond_of rest.items))

  -- and so is each that follows
  pub later-is-part : (items : List CondTree) → items ≡ rest.items → (i : ℕ) (d part : CondTree) → i < length items → part ≡ get_or items i d → IsPart (cond_of part) (cond_of tree)
  later-is-part items same i d part h at =
      rw (is, tree-And first rest, ← same) (later-part (cond_of first.value) items i d part h at)

-- ---- own conditions
-- none at all
pub none-own : (filter : Cond) (before wide : ℕ) (trees : List (Bor CondTree)) → trees ≡ [] → AreOwn filter before wide (conditions_of trees)
none-own filter before wide trees is =
    subst (λ (ts : List (Bor CondTree)). AreOwn filter before wide (conditions_of ts)) (sym is) (record { named = tt; parts = tt })

-- what stays own for the parts in turn stays own for the whole
pub own-through : (part tree : CondTree) (before wide : ℕ) (old middle new : List (Bor CondTree)) → IsPart (cond_of part) (cond_of tree)
    → StayOwn tree before wide old middle → StayOwn part before wide middle new → StayOwn tree before wide old new
own-through part tree before wide old middle new is first then filter of own =
    then filter (part-through (cond_of part) (cond_of tree) filter is of) (first filter of own)
