-- What own conditions ask of a source's rows.
use Rattle.std.proofs.Common.{◌≡◌, ℕ, ◌<◌, zero, suc, true, false, ◌&&◌, List, [], ◌∷◌, ◌++◌, map, length, get_or, refl, sym, ◌∙◌, ap, subst, arith, Vec, Box, Global, ◌⊎◌, inl, inr, ◌≤◌}
use Rattle.std.specs.Borrow.{Bor}
use Rattle.std.specs.List.{fold}
use Rattle.std.specs.Prelude.{◌==◌, ◌+◌}
use Rattle.std.specs.Vec.{vec_len}
use Rattle.std.proofs.lemmas.Bool.Decides.{nat_tests}
use Rattle.cq_model_eval.proofs.Trees.{tree-And, tree-Or}
use Rattle.cq_model.specs.Own.{IsPart, whole, before_and, behind_and, in_place, passes_own, tests_only}
use Rattle.cq_model.specs.Condition.{holds}
use Rattle.cq_model.specs.Expr.{And, Cond, Or}
use Rattle.cq_model.specs.Trees.{cond_of}
use Rattle.cq_model.specs.declared.expr.CondTree.{CondTree}
use Rattle.cq_model.specs.declared.expr.CondTree.TheViews as cond_view
use Rattle.cq_plan.specs.Own.{AskAllOwn, AskMore, StayOwn, conditions_of}
use Rattle.cq_values.specs.Truth.{and_truth, is_true}
use Rattle.cq_values.specs.Value.{Row}
use Rattle.cq_values.specs.declared.truth.Truth.{Truth}
use Rattle.cq_values.specs.declared.truth.Truth.TheVariants.{True, False, Unknown}
use Rattle.std.proofs.lemmas.Bool.{and_parts}
use Rattle.cq_model.proofs.Conditions.{part-true}

-- AND of two that are True is True
pub true-both : (a b : Truth) → is_true a ≡ true → is_true b ≡ true → is_true (and_truth a b) ≡ true
true-both True b h k = k
true-both False b h k = absurd (cc)
true-both Unknown b h k = absurd (cc)

-- whether there are trees
no-trees : (ts : List CondTree) (n : ℕ) → n ≡ length ts → true ≡ (n == 0) → ts ≡ []
no-trees [] n is none = refl
no-trees (t ∷ ts) n is none = absurd (grind (arith, nat_tests, is, none))

pub some-trees : (ts : List CondTree) (n : ℕ) → n ≡ length ts → false ≡ (n == 0) → ts ≡ [] → ⊥
some-trees [] n is some none = grind (arith, nat_tests, is, some)
some-trees (t ∷ ts) n is some none = absurd cc

module _ (before wide : ℕ) where
  -- conditions of which some stand in front
  front-passes : (row : Row) (cs ds : List Cond) → passes_own before (cs ++ ds) row ≡ true → passes_own before cs row ≡ true
  front-passes row [] ds h = refl
  front-passes row (c ∷ cs) ds h =
      let one = (and_parts (is_true (holds c (in_place before row))) (passes_own before (cs ++ ds) row) h).0 in
      let more = front-passes row cs ds (and_parts (is_true (holds c (in_place before row))) (passes_own before (cs ++ ds) row) h).1 in
      ap (λ b. b && passes_own before cs row) one ∙ more

  back-passes : (row : Row) (cs ds : List Cond) → passes_own before (cs ++ ds) row ≡ true → passes_own before ds row ≡ true
  back-passes row [] ds h = h
  back-passes row (c ∷ cs) ds h = back-passes row cs ds (and_parts (is_true (holds c (in_place before row))) (passes_own before (cs ++ ds) row) h).1

  -- a row passes each part of this condition that names the source's columns alone
  abbrev pub Covered : Row → Cond → Type 0
  Covered row c = (part : Cond) → IsPart part c → tests_only before wide part ≡ true → is_true (holds part (in_place before row)) ≡ true

  covered-and : (row : Row) (a b : Cond) → Covered row a → Covered row b → Covered row (And a b)
  covered-and row a b f g part (whole d) h =
      true-both (holds a (in_place before row)) (holds b (in_place before row))
      (f a (whole a) (and_parts (tests_only before wide a) (tests_only before wide b) h).0)
      (g b (whole b) (and_parts (tests_only before wide a) (tests_only before wide b) h).1)
  covered-and row a b f g part (before_and p x y is) h = f part is h
  covered-and row a b f g part (behind_and p x y is) h = g part is h

  -- and so it is with a chain of ANDs
  abbrev pub AllCovered : Row → List CondTree → Type 0
  AllCovered row [] = Unit {0}
  AllCovered row (t ∷ ts) = Covered row (cond_of t) × AllCovered row ts

  covered-chain : (row : Row) (c : Cond) (ts : List CondTree) → Covered row c → AllCovered row ts → Covered row (fold And c (map cond_of ts))
  covered-chain row c [] f all = f
  covered-chain row c (t ∷ ts) f all = covered-chain row (And c (cond_of t)) ts (covered-and row c (cond_of t) f all.0) all.1

  all-covered : (row : Row) (ts : List CondTree) → ((j : ℕ) (d : CondTree) → j < length ts → Covered row (cond_of (get_or ts j d))) → AllCovered row ts
  all-covered row [] f = tt
  all-covered row (t ∷ ts) f = (f zero t (omega arith), all-covered row ts (λ j d h. f (suc j) d (omega arith)))

  same-default : (ts : List CondTree) (i : ℕ) (d e : CondTree) → i < length ts → get_or ts i d ≡ get_or ts i e
  same-default [] i d e h = absurd (omega arith)
  same-default (t ∷ ts) zero d e h = refl
  same-default (t ∷ ts) (suc i) d e h = same-default ts i d e (omega arith)

  -- ---- what trees add
  abbrev pub Passes : List (Bor CondTree) → Row → Type 0
  Passes trees row = passes_own before (conditions_of trees) row ≡ true

  conditions-append : (old more : List (Bor CondTree)) → conditions_of (old ++ more) ≡ conditions_of old ++ conditions_of more
  conditions-append [] more = refl
  conditions-append (t ∷ old) more = ap (λ (cs : List Cond). cond_of t.now ∷ cs) (conditions-append old more)

  -- a tree that is put behind the others
  pub ask-pushed : (tree : Bor CondTree) (old new : List (Bor CondTree)) → new ≡ old ++ tree ∷ [] → AskMore tree.now before wide old new
  ask-pushed tree old new is =
      let same : conditions_of new ≡ conditions_of old ++ cond_of tree.now ∷ [] = ap conditions_of is ∙ conditions-append old (tree ∷ []) in
      let of : (row : Row) → Passes new row → passes_own before (conditions_of old ++ cond_of tree.now ∷ []) row ≡ true =
      λ row h. ap (λ (cs : List Cond). passes_own before cs row) (sym same) ∙ h in
      record {
        kept = λ row h. front-passes row (conditions_of old) (cond_of tree.now ∷ []) (of row h);
        all = λ part row is named h. part-true part (cond_of tree.now) is (in_place before row)
            (and_parts (is_true (holds (cond_of tree.now) (in_place before row))) true (back-passes row (conditions_of old) (cond_of tree.now ∷ []) (of row h))).0;
      }

  -- ---- OR
  -- an OR of one part is that part
  pub or-of-one : (tree : CondTree) (first : Box CondTree Global) (rest : Vec CondTree Global) (head : CondTree) → tree ≡ cond_view.Or first rest → head ≡ first.value → true ≡ (vec_len rest == 0)
      → cond_of head ≡ cond_of tree
  or-of-one tree first rest head is one none =
      ap cond_of one ∙ sym (ap cond_of is ∙ tree-Or first rest ∙ ap (λ (ts : List CondTree). fold Or (cond_of first.value) (map cond_of ts)) (no-trees rest.items rest.len rest.ok.0 none))

  pub ask-same : (part tree : CondTree) (old new : List (Bor CondTree)) → cond_of part ≡ cond_of tree → AskMore part before wide old new → AskMore tree before wide old new
  ask-same part tree old new same asks = record { kept = asks.kept; all = subst (λ (c : Cond). AskAllOwn c before wide (conditions_of new)) same asks.all }

  pub own-same : (part tree : CondTree) (old new : List (Bor CondTree)) → cond_of part ≡ cond_of tree → StayOwn part before wide old new → StayOwn tree before wide old new
  own-same part tree old new same stay filter of own = stay filter (subst (λ (c : Cond). IsPart c filter) (sym same) of) own

  -- OR joins no parts by AND
  or-whole : (part c d : Cond) (ds : List Cond) → IsPart part (fold Or c (d ∷ ds)) → part ≡ fold Or c (d ∷ ds)
  or-whole part c d [] (whole x) = refl
  or-whole part c d (e ∷ es) is = or-whole part (Or c d) e es is

  pub ask-or : (tree : CondTree) (first : Box CondTree Global) (rest : Vec CondTree Global) (old : List (Bor CondTree)) → tree ≡ cond_view.Or first rest → false ≡ (vec_len rest == 0)
      → tests_only before wide (cond_of tree) ≡ false → AskMore tree before wide old old
  ask-or tree first rest old is some fails = record {
    kept = λ row h. h;
    all = λ part row of named h.
        let chain : cond_of tree ≡ fold Or (cond_of first.value) (map cond_of rest.items) = ap cond_of is ∙ tree-Or first rest in
        let whole : part ≡ cond_of tree = or-part part (cond_of first.value) rest.items (some-trees rest.items rest.len rest.ok.0 some) (subst (λ (c : Cond). IsPart part c) chain of) ∙ sym chain in
        let k : true ≡ false = sym named ∙ ap (tests_only before wide) whole ∙ fails in absurd cc;
  } where
    or-part : (part c : Cond) (ts : List CondTree) → (ts ≡ [] → ⊥) → IsPart part (fold Or c (map cond_of ts)) → part ≡ fold Or c (map cond_of ts)
    or-part part c [] some is = absurd (some refl)
    or-part part c (t ∷ ts) some is = or-whole part c (cond_of t) (map cond_of ts) is

  -- the parts of a tree so far
  pub record AskSoFar (tree : CondTree) (parts : List CondTree) (index : ℕ) (initial now : List (Bor CondTree)) : Type 0 where
    pub own : StayOwn tree before wide initial now
    pub kept : (row : Row) → Passes now row → Passes initial row
    pub asked : (row : Row) → Passes now row → (j : ℕ) (d : CondTree) → j < index → Covered row (cond_of (get_or parts j d))

  pub ask-next : (tree : CondTree) (parts : List CondTree) (index : ℕ) (initial middle new : List (Bor CondTree)) (part : CondTree) → index < length parts → part ≡ get_or parts index part
      → AskSoFar tree parts index initial middle → StayOwn tree before wide initial new → AskMore part before wide middle new → AskSoFar tree parts (index + 1) initial new
  ask-next tree parts index initial middle new part h is sofar stay more = record {
    own = stay;
    kept = λ row p. sofar.kept row (more.kept row p);
    asked = λ row p j d low. at row p j d (lt-or-eq j index (omega (arith, low)));
  } where
    lt-or-eq : (j n : ℕ) → j < suc n → (j < n) ⊎ (j ≡ n)
    lt-or-eq zero zero low = inr refl
    lt-or-eq zero (suc n) low = inl (omega arith)
    lt-or-eq (suc j) zero low = absurd (omega arith)
    lt-or-eq (suc j) (suc n) low = next (lt-or-eq j n (omega arith)) where
      next : (j < n) ⊎ (j ≡ n) → (suc j < suc n) ⊎ (suc j ≡ suc n)
      next (inl k) = inl (omega arith)
      next (inr k) = inr (ap suc k)

    at : (row : Row) → Passes new row → (j : ℕ) (d : CondTree) → (j < index) ⊎ (j ≡ index) → Covered row (cond_of (get_or parts j d))
    at row p j d (inl k) = sofar.asked row (more.kept row p) j d k
    at row p j d (inr k) =
        subst (λ (t : CondTree). Covered row (cond_of t)) (is ∙ same-default parts index part d h ∙ ap (λ i. get_or parts i d) (sym k))
        (λ q of named. more.all q row of named p)

  -- all parts of what AND joins
  pub ask-and : (tree : CondTree) (first : Box CondTree Global) (rest : Vec CondTree Global) (head : CondTree) (parts : List CondTree) (index : ℕ) (old middle new : List (Bor CondTree))
      → tree ≡ cond_view.And first rest → head ≡ first.value → parts ≡ rest.items → length parts ≤ index → AskMore head before wide old middle → AskSoFar tree parts index middle new → AskMore tree before wide old new
  ask-and tree first rest head parts index old middle new is one same done first_more sofar = record {
    kept = λ row p. first_more.kept row (sofar.kept row p);
    all = λ part row of named p.
        let chain : cond_of tree ≡ fold And (cond_of first.value) (map cond_of parts) =
        ap cond_of is ∙ tree-And first rest ∙ ap (λ (ts : List CondTree). fold And (cond_of first.value) (map cond_of ts)) (sym same) in
        let front : Covered row (cond_of first.value) = subst (λ (t : CondTree). Covered row (cond_of t)) one (λ q is named. first_more.all q row is named (sofar.kept row p)) in
        let others : AllCovered row parts = all-covered row parts (λ j d h. sofar.asked row p j d (omega (arith, done, h))) in
        covered-chain row (cond_of first.value) parts front others part (subst (λ (c : Cond). IsPart part c) chain of) named;
  }
