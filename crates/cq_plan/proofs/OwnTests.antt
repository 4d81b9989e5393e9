-- One condition in place of the parts of WHERE that are a source's own: what passes it, and how wide its numbers are.
use Rattle.std.proofs.Common.{◌≡◌, ℕ, ◌+◌, ◌-◌, ◌≤◌, ◌<◌, ◌^◌, Bool, true, false, ◌&&◌, List, [], ◌∷◌, map, length, get_or, replicate, nat_le, nat_lt, Option, None, Some, refl, sym, ◌∙◌, ap, ap₂, subst, arith, Box, Vec, Global}
use Rattle.std.specs.Borrow.{Bor}
use Rattle.std.specs.List.{AllByRecursion, fold}
use Rattle.std.proofs.Math.Seq.{get_or-append_right}
use Rattle.std.proofs.lemmas.Bool.{and_parts}
use Rattle.std.proofs.lemmas.Bool.Decides.{nat_tests}
use Rattle.std.proofs.lemmas.List.{length-replicate}
use Rattle.cq_values.specs.declared.truth.Truth.{Truth}
use Rattle.cq_values.specs.declared.truth.Truth.TheVariants.{True, False, Unknown}
use Rattle.cq_values.specs.declared.value.Value.TheVariants.{Null}
use Rattle.cq_values.specs.Truth.{is_true, and_truth}
use Rattle.cq_values.specs.Value.{Row, column}
use Rattle.cq_model.specs.Own.{IsPart, whole, before_and, behind_and, in_place, is_within, passes_own, tests_only}
use Rattle.cq_model.specs.Condition.{holds}
use Rattle.cq_model.specs.Expr.{Cond, And}
use Rattle.cq_model.specs.Width.{IsNarrowIn, sizes_of, value_size, widest_in}
use Rattle.cq_model_eval.proofs.Trees.{tree-And}
use Rattle.cq_model.specs.declared.expr.CondTree.{CondTree}
use Rattle.cq_model.specs.declared.expr.CondTree.TheViews as cond_view
use Rattle.cq_model.specs.Trees.{cond_of}
use Rattle.cq_model_terms.proofs.Names.{tested-read}
use Rattle.cq_model_terms.proofs.Values.{holds-renamed, widest-renamed}
use Rattle.cq_plan.specs.Own.{AreOwnOf, AskAllOwnOf, conditions_of}
use Rattle.cq_plan.specs.OwnTest.{IsOwnTest, cond_behind}

-- ---- one condition
module _ (before wide : ℕ) (s : Row) where
  -- a column of the row is that of the row in place
  column-behind : (i : ℕ) → is_within before wide i ≡ true → column s (i - before) ≡ column (in_place before s) i
  column-behind i h =
      let low : before ≤ i = grind (arith, nat_tests, (and_parts (nat_le before i) (nat_lt i (before + wide)) h).0) in
      let behind : length (replicate before Null) ≤ i = omega (arith, length-replicate before Null, low) in
      ap (λ (n : ℕ). get_or s (i - n) Null) (sym (length-replicate before Null)) ∙ sym (get_or-append_right (replicate before Null) s i Null behind)

  -- so a condition on these columns has the truth that it has in place
  holds-behind : (c : Cond) → tests_only before wide c ≡ true → holds (cond_behind before c) s ≡ holds c (in_place before s)
  holds-behind c h = holds-renamed (λ i. i - before) s (in_place before s) c (λ i r. column-behind i (tested-read before wide i c h r))

  -- and is as wide
  widest-behind : (c : Cond) → tests_only before wide c ≡ true → widest_in (cond_behind before c) (sizes_of s) ≡ widest_in c (sizes_of (in_place before s))
  widest-behind c h = widest-renamed (λ i. i - before) (sizes_of s) (sizes_of (in_place before s)) c (λ i r. ap value_size (column-behind i (tested-read before wide i c h r)))

-- ---- what AND joins
-- AND is True where both parts are
true-and : (a b : Truth) → is_true (and_truth a b) ≡ is_true a && is_true b
true-and True True = refl
true-and True False = refl
true-and True Unknown = refl
true-and False True = refl
true-and False False = refl
true-and False Unknown = refl
true-and Unknown True = refl
true-and Unknown False = refl
true-and Unknown Unknown = refl

-- and it groups as it may
and-groups : (a b c : Bool) → (a && b) && c ≡ a && (b && c)
and-groups true b c = refl
and-groups false b c = refl

module _ (before wide : ℕ) (s : Row) where
  -- what AND joins passes where each part does
  joined-passes : (a : Cond) (made parts : List Cond) → made ≡ map (cond_behind before) parts → AllByRecursion (λ c. tests_only before wide c ≡ true) parts
      → is_true (holds (fold And a made) s) ≡ is_true (holds a s) && passes_own before parts s
  joined-passes a made [] is named = ap (λ (cs : List Cond). is_true (holds (fold And a cs) s)) is ∙ sym (and-true (is_true (holds a s)))
    where
      and-true : (b : Bool) → b && true ≡ b
      and-true true = refl
      and-true false = refl
  joined-passes a made (c ∷ parts) is named =
      ap (λ (cs : List Cond). is_true (holds (fold And a cs) s)) is
      ∙ joined-passes (And a (cond_behind before c)) (map (cond_behind before) parts) parts refl named.1
      ∙ ap (λ (b : Bool). b && passes_own before parts s) (true-and (holds a s) (holds (cond_behind before c) s) ∙ ap (λ (t : Truth). is_true (holds a s) && is_true t) (holds-behind before wide s c named.0))
      ∙ and-groups (is_true (holds a s)) (is_true (holds c (in_place before s))) (passes_own before parts s)

  -- a part is no wider than the whole
  part-widest : (c filter : Cond) (sizes : ℕ → ℕ) → IsPart c filter → widest_in c sizes ≤ widest_in filter sizes
  part-widest c filter sizes (whole d) = omega arith
  part-widest c filter sizes (before_and part a b is) = omega (arith, part-widest part a sizes is)
  part-widest c filter sizes (behind_and part a b is) = omega (arith, part-widest part b sizes is)

  -- what AND joins is narrow where each part is
  joined-narrow : (filter a : Cond) (parts : List Cond) → widest_in a (sizes_of s) < 2 ^ 127 → widest_in filter (sizes_of (in_place before s)) < 2 ^ 127
      → AllByRecursion (λ c. tests_only before wide c ≡ true) parts → AllByRecursion (λ c. IsPart c filter) parts → widest_in (fold And a (map (cond_behind before) parts)) (sizes_of s) < 2 ^ 127
  joined-narrow filter a [] first most named all = first
  joined-narrow filter a (c ∷ parts) first most named all =
      joined-narrow filter (And a (cond_behind before c)) parts
      (omega (arith, first, most, widest-behind before wide s c named.0, part-widest c filter (sizes_of (in_place before s)) all.0)) most named.1 all.1

  -- own conditions, joined, are narrow where WHERE is
  own-narrow : (where_is : Option Cond) (first : Cond) (parts : List Cond) → AreOwnOf where_is before wide (first ∷ parts) → IsNarrowIn where_is (in_place before s)
      → widest_in (fold And (cond_behind before first) (map (cond_behind before) parts)) (sizes_of s) < 2 ^ 127
  own-narrow None first parts own narrow = absurd (cc)
  own-narrow (Some filter) first parts own narrow =
      joined-narrow filter (cond_behind before first) parts
      (omega (arith, narrow, widest-behind before wide s first own.named.0, part-widest first filter (sizes_of (in_place before s)) own.parts.0)) narrow own.named.1 own.parts.1

-- ---- own conditions
-- own conditions name the source's columns alone
named-own : (where_is : Option Cond) (before wide : ℕ) (cs : List Cond) → AreOwnOf where_is before wide cs → AllByRecursion (λ c. tests_only before wide c ≡ true) cs
named-own None before wide cs own = subst (AllByRecursion (λ c. tests_only before wide c ≡ true)) (sym own) tt
named-own (Some filter) before wide cs own = own.named

parts-behind : (before : ℕ) (trees : List (Bor CondTree)) → map (λ t. cond_behind before (cond_of t.now)) trees ≡ map (cond_behind before) (conditions_of trees)
parts-behind before [] = refl
parts-behind before (t ∷ trees) = ap (λ (cs : List Cond). cond_behind before (cond_of t.now) ∷ cs) (parts-behind before trees)

module _ (where_is : Option Cond) (before wide : ℕ) (trees : List (Bor CondTree)) (own : AreOwnOf where_is before wide (conditions_of trees))
    (asked : AskAllOwnOf where_is before wide (conditions_of trees)) where
  -- where there are no own conditions, each row passes
  pub none-own : trees ≡ [] → IsOwnTest where_is before wide None
  none-own is = record {
    parts = [];
    own = subst (λ (ts : List (Bor CondTree)). AreOwnOf where_is before wide (conditions_of ts)) is own;
    all = λ small. subst (λ (ts : List (Bor CondTree)). AskAllOwnOf where_is before wide (conditions_of ts)) is asked;
    same = λ row. refl;
    narrow = λ row h. tt;
  }

  -- and else AND joins them
  pub some-own : (first : Bor CondTree) (rest : List (Bor CondTree)) (head : Box CondTree Global) (others : Vec CondTree Global) → trees ≡ first ∷ rest
      → cond_of head.value ≡ cond_behind before (cond_of first.now) → map cond_of others.items ≡ map (λ t. cond_behind before (cond_of t.now)) rest
      → IsOwnTest where_is before wide (Some (cond_of (cond_view.And head others)))
  some-own first rest head others is one all =
      let here : AreOwnOf where_is before wide (conditions_of (first ∷ rest)) = subst (λ (ts : List (Bor CondTree)). AreOwnOf where_is before wide (conditions_of ts)) is own in
      let named = named-own where_is before wide (conditions_of (first ∷ rest)) here in
      record {
        parts = conditions_of (first ∷ rest);
        own = here;
        all = λ small. subst (λ (ts : List (Bor CondTree)). AskAllOwnOf where_is before wide (conditions_of ts)) is asked;
        same = λ row.
            ap (λ (c : Cond). is_true (holds c row)) (tree-And head others)
            ∙ joined-passes before wide row (cond_of head.value) (map cond_of others.items) (conditions_of rest) (all ∙ parts-behind before rest) named.1
            ∙ ap (λ (b : Bool). b && passes_own before (conditions_of rest) row)
            (ap (λ (c : Cond). is_true (holds c row)) one ∙ ap is_true (holds-behind before wide row (cond_of first.now) named.0));
        narrow = λ row h.
            let are : cond_of (cond_view.And head others) ≡ fold And (cond_behind before (cond_of first.now)) (map (cond_behind before) (conditions_of rest)) =
            tree-And head others ∙ ap₂ (fold And) one (all ∙ parts-behind before rest) in
            subst (λ (c : Cond). IsNarrowIn (Some c) row) (sym are) (own-narrow before wide row where_is (cond_of first.now) (conditions_of rest) here h);
      }
