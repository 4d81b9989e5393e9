-- An expression that names so many columns is as wide over them as where each column is of their size.
use Rattle.std.proofs.Common.{◌≡◌, ℕ, ◌+◌, ◌<◌, ◌≤◌, Bool, true, ◌&&◌, List, [], ◌∷◌, ◌++◌, map, drop, length, get_or, replicate, nat_le, nat_lt, refl, sym, ◌∙◌, ap, arith, Box, Vec, Global, ◌⊎◌, inl, inr}
use Rattle.std.proofs.lemmas.Bool.{and_from, le-leb, lt-ltb}
use Rattle.std.proofs.lemmas.Bool.Decides.{nat_tests}
use Rattle.std.proofs.lemmas.List.{get_or-replicate, replicate_more}
use Rattle.std.specs.List.{fold}
use Rattle.cq_model_eval.proofs.Chains.{chain-end, chain-next}
use Rattle.cq_model_eval.proofs.Trees.{through, tree-Product, tree-Sum}
use Rattle.cq_model.specs.Own.{is_within, names_only}
use Rattle.cq_model_laws.proofs.Names.{both-first, both-second}
use Rattle.cq_model.specs.declared.expr.ExprTree.{ExprTree}
use Rattle.cq_model.specs.declared.expr.ExprTree.TheViews as view
use Rattle.cq_model.specs.Expr.{Expr, Column, Literal, Negate, Plus, Times, Extract}
use Rattle.cq_model.specs.Sizes.{stored_size}
use Rattle.cq_model.specs.Trees.{expr_of}
use Rattle.cq_model.specs.Width.{Extent, extent_of, extent_plus, extent_times, limits_of, part_limit, width}

-- ---- which columns are named
-- a column below so many is below more
column-more : (m n i : ℕ) → m ≤ n → is_within 0 m i ≡ true → is_within 0 n i ≡ true
column-more m n i more h =
    let below : i < m = grind (arith, nat_tests, both-second (nat_le 0 i) (nat_lt i (0 + m)) h) in
    and_from (nat_le 0 i) (nat_lt i (0 + n)) (le-leb 0 i (omega arith)) (lt-ltb i (0 + n) (omega arith))

-- so it is with what names no others
names-more : (m n : ℕ) → m ≤ n → (e : Expr) → names_only 0 m e ≡ true → names_only 0 n e ≡ true
names-more m n more (Column i) h = column-more m n i more h
names-more m n more (Literal v) h = refl
names-more m n more (Negate e) h = names-more m n more e h
names-more m n more (Plus a b) h =
    let p = names-more m n more a (both-first (names_only 0 m a) (names_only 0 m b) h) in
    let q = names-more m n more b (both-second (names_only 0 m a) (names_only 0 m b) h) in
    and_from (names_only 0 n a) (names_only 0 n b) p q
names-more m n more (Times a b) h =
    let p = names-more m n more a (both-first (names_only 0 m a) (names_only 0 m b) h) in
    let q = names-more m n more b (both-second (names_only 0 m a) (names_only 0 m b) h) in
    and_from (names_only 0 n a) (names_only 0 n b) p q
names-more m n more (Extract part e) h = names-more m n more e h

-- ---- chains
-- whether a tree names no column behind this one
abbrev pub ends_at : ℕ → ExprTree → Bool
ends_at n t = names_only 0 (n + 1) (expr_of t)

-- what a chain names of the parts so far ends at a column: whether all of it ends there, or behind it, is left to the others
pub record EndsSoFar (greatest : ℕ) (left : List ExprTree) (tree : ExprTree) : Type 0 where
  pub at : (n : ℕ) → greatest ≤ n → fold ◌&&◌ true (map (ends_at n) left) ≡ ends_at n tree

later-ends : (m n : ℕ) (t : ExprTree) → m ≤ n → ends_at m t ≡ true → ends_at n t ≡ true
later-ends m n t more h = names-more (m + 1) (n + 1) (omega arith) (expr_of t) h

module _ (tree : ExprTree) (first : Box ExprTree Global) (rest : Vec ExprTree Global) (head : ExprTree) (one : head ≡ first.value) where
  -- a chain ends where each of its parts does
  chain-ends : (n : ℕ) → (tree ≡ view.Sum first rest) ⊎ (tree ≡ view.Product first rest)
      → fold ◌&&◌ (ends_at n head) (map (ends_at n) rest.items) ≡ ends_at n tree
  chain-ends n (inl is) =
      let test = names_only 0 (n + 1) in
      ap (λ (t : ExprTree). fold ◌&&◌ (ends_at n t) (map (ends_at n) rest.items)) one
      ∙ sym (ap (ends_at n) is ∙ ap test (tree-Sum first rest) ∙ through expr_of test Plus ◌&&◌ (λ a b. refl) (expr_of first.value) rest.items)
  chain-ends n (inr is) =
      let test = names_only 0 (n + 1) in
      ap (λ (t : ExprTree). fold ◌&&◌ (ends_at n t) (map (ends_at n) rest.items)) one
      ∙ sym (ap (ends_at n) is ∙ ap test (tree-Product first rest) ∙ through expr_of test Times ◌&&◌ (λ a b. refl) (expr_of first.value) rest.items)

  -- after its first part
  pub first-ends : (tree ≡ view.Sum first rest) ⊎ (tree ≡ view.Product first rest) → (items : List ExprTree) → items ≡ rest.items
      → (greatest : ℕ) → ends_at greatest head ≡ true → EndsSoFar greatest items tree
  first-ends is items same greatest h = record {
    at = λ n more.
        ap (λ (ts : List ExprTree). fold ◌&&◌ true (map (ends_at n) ts)) same
        ∙ ap (λ (b : Bool). fold ◌&&◌ b (map (ends_at n) rest.items)) (sym (later-ends greatest n head more h))
        ∙ chain-ends n is;
  }

module _ (tree : ExprTree) (items : List ExprTree) (i greatest : ℕ) (so_far : EndsSoFar greatest (drop i items) tree) where
  -- after one part more
  pub next-ends : (part : ExprTree) → i < length items → part ≡ get_or items i part
      → (its more : ℕ) → ends_at its part ≡ true → greatest ≤ more → its ≤ more → EndsSoFar more (drop (i + 1) items) tree
  next-ends part there is its more h old new = record {
    at = λ n beyond.
        ap (λ (b : Bool). fold ◌&&◌ b (map (ends_at n) (drop (i + 1) items))) (sym (later-ends its n part (omega arith) h))
        ∙ chain-next ◌&&◌ (ends_at n) items i part true (ends_at n tree) there is (so_far.at n (omega arith));
  }

  -- and after the last
  pub all-ends : length items ≤ i → ends_at greatest tree ≡ true
  all-ends done = sym (chain-end ◌&&◌ (ends_at greatest) items i true (ends_at greatest tree) done (so_far.at greatest (omega arith)))

-- ---- widths
module _ (n size : ℕ) (sizes : ℕ → ℕ) (same : (i : ℕ) → i < n → sizes i ≡ size) where
  width-within : (e : Expr) → names_only 0 n e ≡ true → width e sizes ≡ width e (λ i. size)
  width-within (Column i) h =
      let below : i < n = grind (arith, nat_tests, both-second (nat_le 0 i) (nat_lt i (0 + n)) h) in
      ap (λ (s : ℕ). record { size = s; widest = 0 }) (same i below)
  width-within (Literal v) h = refl
  width-within (Negate e) h = ap (λ (x : Extent). extent_of x.size x.widest) (width-within e h)
  width-within (Plus a b) h =
      let p = width-within a (both-first (names_only 0 n a) (names_only 0 n b) h) in
      let q = width-within b (both-second (names_only 0 n a) (names_only 0 n b) h) in
      λ i. extent_plus (p i) (q i)
  width-within (Times a b) h =
      let p = width-within a (both-first (names_only 0 n a) (names_only 0 n b) h) in
      let q = width-within b (both-second (names_only 0 n a) (names_only 0 n b) h) in
      λ i. extent_times (p i) (q i)
  width-within (Extract part e) h = ap (λ (x : Extent). record { size = part_limit part; widest = x.widest }) (width-within e h)

-- over so many stored columns and one more
pub stored-columns : (e : Expr) (greatest : ℕ) (sizes : List ℕ) → sizes ≡ replicate greatest stored_size ++ stored_size ∷ []
    → names_only 0 (greatest + 1) e ≡ true → width e (limits_of sizes) ≡ width e (λ i. stored_size)
stored-columns e greatest sizes is named =
    let all = is ∙ replicate_more greatest stored_size in
    width-within (greatest + 1) stored_size (limits_of sizes)
    (λ i below. ap (λ (ns : List ℕ). limits_of ns i) all ∙ get_or-replicate (greatest + 1) i stored_size 0 below) e named
