-- What a tree stands for with its parts renamed, and what is told of a chain by its parts.
use Rattle.std.proofs.Common.{◌≡◌, ℕ, Bool, true, false, ◌&&◌, ◌||◌, ◌⊎◌, inl, inr, List, [], ◌∷◌, map, length, Option, Some, None, refl, sym, ◌∙◌, ap, ap₂, Box, Vec, Global}
use Rattle.std.specs.Prelude.{◌==◌}
use Rattle.std.specs.List.{fold, list_all, list_any}
use Rattle.std.specs.Option.{option_map}
use Rattle.cq_model_eval.proofs.Trees.{through, tree-And, tree-Or, tree-Product, tree-Sum}
use Rattle.cq_model.specs.declared.expr.CondTree.{CondTree}
use Rattle.cq_model.specs.declared.expr.CondTree.TheFolds.{fold-roll-CondTree}
use Rattle.cq_model.specs.declared.expr.CondTree.TheOpen as cond_node
use Rattle.cq_model.specs.declared.expr.CondTree.TheVariants as conds
use Rattle.cq_model.specs.declared.expr.CondTree.TheViews as cond_view
use Rattle.cq_model.specs.declared.expr.ExprTree.{ExprTree}
use Rattle.cq_model.specs.declared.expr.ExprTree.TheViews as view
use Rattle.cq_model.specs.Expr.{Expr, Column, Literal, Negate, Plus, Times, Extract, Cond, Compare, IsNull, Between, In, Like, Not, And, Or}
use Rattle.cq_model.specs.Own.{names_only, tests_only}
use Rattle.cq_model.specs.Trees.{cond_of, cond_step, expr_of}
use Rattle.cq_model_terms.specs.Reads.{only_reads, only_reads_in, reads, reads_in}
use Rattle.cq_model_terms.specs.Renamed.{renamed, renamed_cond}

-- ---- what is renamed
-- a choice among values is its parts
tree-In : (value : ExprTree) (choices : Vec ExprTree Global) → cond_of (conds.In value choices) ≡ In (expr_of value) (map expr_of choices.items)
tree-In value choices = ap cond_of (sym (conds.rolls-In value choices)) ∙ fold-roll-CondTree Cond cond_step (cond_node.In value choices)

-- what is renamed of each is renamed of all
map-renamed : (to : ℕ → ℕ) (es : List ExprTree) → map (λ t. renamed to (expr_of t)) es ≡ map (renamed to) (map expr_of es)
map-renamed to [] = refl
map-renamed to (e ∷ es) = ap (λ (xs : List Expr). renamed to (expr_of e) ∷ xs) (map-renamed to es)

-- a tree made of parts that were changed is the changed tree
pub changed-tree : {T A : Type 0} (of : T → A) (f : A → A) (node : A → A → A) → ((a b : A) → f (node a b) ≡ node (f a) (f b)) → (first head : T) (rest others : List T)
    → of head ≡ f (of first) → map of others ≡ map (λ t. f (of t)) rest → (tree made : T) → of tree ≡ fold node (of first) (map of rest) → of made ≡ fold node (of head) (map of others)
    → of made ≡ f (of tree)
changed-tree of f node each first head rest others one all tree made before after =
    after ∙ ap₂ (fold node) one all ∙ sym (through of f node node each (of first) rest) ∙ sym (ap f before)

module _ (to : ℕ → ℕ) where
  pub in-renamed : (tree : CondTree) (value : ExprTree) (choices : Vec ExprTree Global) (made : ExprTree) (among : Vec ExprTree Global) → expr_of made ≡ renamed to (expr_of value)
      → map expr_of among.items ≡ map (λ t. renamed to (expr_of t)) choices.items → tree ≡ conds.In value choices → cond_of (conds.In made among) ≡ renamed_cond to (cond_of tree)
  in-renamed tree value choices made among one all is =
      tree-In made among ∙ ap₂ In one (all ∙ map-renamed to choices.items)
      ∙ sym (ap (λ (t : CondTree). renamed_cond to (cond_of t)) is ∙ ap (renamed_cond to) (tree-In value choices))

-- ---- what is told of a chain
-- what a chain of expressions comes to, where a sum and a product come to what their parts come to
chain-through : {B : Type 0} (f : Expr → B) (join : B → B → B) → ((a b : Expr) → f (Plus a b) ≡ join (f a) (f b)) → ((a b : Expr) → f (Times a b) ≡ join (f a) (f b))
    → (tree : ExprTree) (first : Box ExprTree Global) (rest : Vec ExprTree Global) → (tree ≡ view.Sum first rest) ⊎ (tree ≡ view.Product first rest)
    → f (expr_of tree) ≡ fold join (f (expr_of first.value)) (map (λ t. f (expr_of t)) rest.items)
chain-through f join plus times tree first rest (inl is) = ap (λ (t : ExprTree). f (expr_of t)) is ∙ ap f (tree-Sum first rest) ∙ through expr_of f Plus join plus (expr_of first.value) rest.items
chain-through f join plus times tree first rest (inr is) = ap (λ (t : ExprTree). f (expr_of t)) is ∙ ap f (tree-Product first rest) ∙ through expr_of f Times join times (expr_of first.value) rest.items

-- and one of conditions
parts-through : {B : Type 0} (f : Cond → B) (join : B → B → B) → ((a b : Cond) → f (And a b) ≡ join (f a) (f b)) → ((a b : Cond) → f (Or a b) ≡ join (f a) (f b))
    → (tree : CondTree) (first : Box CondTree Global) (rest : Vec CondTree Global) → (tree ≡ cond_view.And first rest) ⊎ (tree ≡ cond_view.Or first rest)
    → f (cond_of tree) ≡ fold join (f (cond_of first.value)) (map (λ t. f (cond_of t)) rest.items)
parts-through f join both one tree first rest (inl is) = ap (λ (t : CondTree). f (cond_of t)) is ∙ ap f (tree-And first rest) ∙ through cond_of f And join both (cond_of first.value) rest.items
parts-through f join both one tree first rest (inr is) = ap (λ (t : CondTree). f (cond_of t)) is ∙ ap f (tree-Or first rest) ∙ through cond_of f Or join one (cond_of first.value) rest.items

-- each of these comes to what its parts come to
pub reads-chain : (place : ℕ) (tree : ExprTree) (first : Box ExprTree Global) (rest : Vec ExprTree Global) → (tree ≡ view.Sum first rest) ⊎ (tree ≡ view.Product first rest)
    → reads place (expr_of tree) ≡ fold ◌||◌ (reads place (expr_of first.value)) (map (λ t. reads place (expr_of t)) rest.items)
reads-chain place = chain-through (reads place) ◌||◌ (λ a b. refl) (λ a b. refl)

pub reads_in-parts : (place : ℕ) (tree : CondTree) (first : Box CondTree Global) (rest : Vec CondTree Global) → (tree ≡ cond_view.And first rest) ⊎ (tree ≡ cond_view.Or first rest)
    → reads_in place (cond_of tree) ≡ fold ◌||◌ (reads_in place (cond_of first.value)) (map (λ t. reads_in place (cond_of t)) rest.items)
reads_in-parts place = parts-through (reads_in place) ◌||◌ (λ a b. refl) (λ a b. refl)

pub named-chain : (before wide : ℕ) (tree : ExprTree) (first : Box ExprTree Global) (rest : Vec ExprTree Global) → (tree ≡ view.Sum first rest) ⊎ (tree ≡ view.Product first rest)
    → names_only before wide (expr_of tree) ≡ fold ◌&&◌ (names_only before wide (expr_of first.value)) (map (λ t. names_only before wide (expr_of t)) rest.items)
named-chain before wide = chain-through (names_only before wide) ◌&&◌ (λ a b. refl) (λ a b. refl)

pub tested-parts : (before wide : ℕ) (tree : CondTree) (first : Box CondTree Global) (rest : Vec CondTree Global) → (tree ≡ cond_view.And first rest) ⊎ (tree ≡ cond_view.Or first rest)
    → tests_only before wide (cond_of tree) ≡ fold ◌&&◌ (tests_only before wide (cond_of first.value)) (map (λ t. tests_only before wide (cond_of t)) rest.items)
tested-parts before wide = parts-through (tests_only before wide) ◌&&◌ (λ a b. refl) (λ a b. refl)

pub read-parts : (tree : CondTree) (first : Box CondTree Global) (rest : Vec CondTree Global) → (tree ≡ cond_view.And first rest) ⊎ (tree ≡ cond_view.Or first rest)
    → only_reads_in (cond_of tree) ≡ fold ◌&&◌ (only_reads_in (cond_of first.value)) (map (λ t. only_reads_in (cond_of t)) rest.items)
read-parts = parts-through only_reads_in ◌&&◌ (λ a b. refl) (λ a b. refl)

-- a chain of several parts is worked out
abbrev worked : Bool → Bool → Bool
worked a b = false

all-worked : (bs : List Bool) → false ≡ fold worked false bs
all-worked [] = refl
all-worked (b ∷ bs) = all-worked bs

several-worked : {X : Type 0} (f : X → Bool) (b : Bool) (xs : List X) → (length xs == 0) ≡ false → false ≡ fold worked b (map f xs)
several-worked f b [] e = absurd (cc e)
several-worked f b (x ∷ xs) e = all-worked (map f xs)

pub worked-chain : (tree : ExprTree) (first : Box ExprTree Global) (rest : Vec ExprTree Global) → (tree ≡ view.Sum first rest) ⊎ (tree ≡ view.Product first rest)
    → (length rest.items == 0) ≡ false → false ≡ only_reads (expr_of tree)
worked-chain tree first rest is e =
    several-worked (λ t. only_reads (expr_of t)) (only_reads (expr_of first.value)) rest.items e ∙ sym (chain-through only_reads worked (λ a b. refl) (λ a b. refl) tree first rest is)

any-from : {X : Type 0} (f : X → Bool) (b : Bool) (xs : List X) → fold ◌||◌ b (map f xs) ≡ b || list_any f xs
any-from f true [] = refl
any-from f false [] = refl
any-from f true (x ∷ xs) = any-from f true xs
any-from f false (x ∷ xs) = any-from f (f x) xs

all-from : {X : Type 0} (f : X → Bool) (b : Bool) (xs : List X) → fold ◌&&◌ b (map f xs) ≡ b && list_all f xs
all-from f true [] = refl
all-from f false [] = refl
all-from f true (x ∷ xs) = all-from f (f x) xs
all-from f false (x ∷ xs) = all-from f false xs

pub any-map : {X Y : Type 0} (of : X → Y) (f : Y → Bool) (xs : List X) → list_any f (map of xs) ≡ list_any (λ x. f (of x)) xs
any-map of f [] = refl
any-map of f (x ∷ xs) = ap (λ b. f (of x) || b) (any-map of f xs)

pub all-map : {X Y : Type 0} (of : X → Y) (f : Y → Bool) (xs : List X) → list_all f (map of xs) ≡ list_all (λ x. f (of x)) xs
all-map of f [] = refl
all-map of f (x ∷ xs) = ap (λ b. f (of x) && b) (all-map of f xs)

-- a chain of which one part decides
module _ {T : Type 0} (test : T → Bool) (tree first head : T) (rest : List T) (one : head ≡ first) where
  -- where the first part passes, so does the whole, if one is to pass
  pub first-passes : test tree ≡ fold ◌||◌ (test first) (map test rest) → test head ≡ true → true ≡ test tree
  first-passes whole h = sym (whole ∙ any-from test (test first) rest ∙ ap (λ b. b || list_any test rest) (ap test (sym one) ∙ h))

  -- and else the others tell
  pub others-pass : test tree ≡ fold ◌||◌ (test first) (map test rest) → (items : List T) → items ≡ rest → test head ≡ false → list_any test items ≡ test tree
  others-pass whole items same h = rw same (sym (whole ∙ any-from test (test first) rest ∙ ap (λ b. b || list_any test rest) (ap test (sym one) ∙ h)))

  -- where the first part fails, so does the whole, if all are to pass
  pub first-fails : test tree ≡ fold ◌&&◌ (test first) (map test rest) → test head ≡ false → false ≡ test tree
  first-fails whole h = sym (whole ∙ all-from test (test first) rest ∙ ap (λ b. b && list_all test rest) (ap test (sym one) ∙ h))

  -- and else the others tell
  pub others-all-pass : test tree ≡ fold ◌&&◌ (test first) (map test rest) → (items : List T) → items ≡ rest → test head ≡ true → list_all test items ≡ test tree
  others-all-pass whole items same h = rw same (sym (whole ∙ all-from test (test first) rest ∙ ap (λ b. b && list_all test rest) (ap test (sym one) ∙ h)))

-- ---- what stays
same-expr : (e : Expr) → renamed (λ i. i) e ≡ e
same-expr (Column i) = refl
same-expr (Literal v) = refl
same-expr (Negate e) = ap Negate (same-expr e)
same-expr (Plus a b) = ap₂ Plus (same-expr a) (same-expr b)
same-expr (Times a b) = ap₂ Times (same-expr a) (same-expr b)
same-expr (Extract part e) = ap (Extract part) (same-expr e)

pub same-exprs : (es : List Expr) → map (renamed (λ i. i)) es ≡ es
same-exprs [] = refl
same-exprs (e ∷ es) = ap₂ (λ (d : Expr) (ds : List Expr). d ∷ ds) (same-expr e) (same-exprs es)

same-cond : (c : Cond) → renamed_cond (λ i. i) c ≡ c
same-cond (Compare c a b) = ap₂ (Compare c) (same-expr a) (same-expr b)
same-cond (IsNull e) = ap IsNull (same-expr e)
same-cond (Between e a b) =
    let p = same-expr e in
    let q = same-expr a in
    let r = same-expr b in
    λ i. Between (p i) (q i) (r i)
same-cond (In e es) = ap₂ In (same-expr e) (same-exprs es)
same-cond (Like e pattern) = ap (λ (d : Expr). Like d pattern) (same-expr e)
same-cond (Not c) = ap Not (same-cond c)
same-cond (And a b) = ap₂ And (same-cond a) (same-cond b)
same-cond (Or a b) = ap₂ Or (same-cond a) (same-cond b)

pub same-condition : (condition : Option Cond) → option_map (renamed_cond (λ i. i)) condition ≡ condition
same-condition None = refl
same-condition (Some c) = ap Some (same-cond c)
