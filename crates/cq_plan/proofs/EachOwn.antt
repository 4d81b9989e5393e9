-- WHERE of which each part is one source's own: it keeps each row that is joined of rows which have passed these.
use Rattle.std.proofs.Common.{◌≡◌, ◌∙◌, ℕ, ◌+◌, ◌⊎◌, inl, inr, Bool, true, false, ◌&&◌, ◌||◌, List, [], ◌∷◌, ◌++◌, map, filter, length, Option, Some, None, refl, sym, subst, ap, arith, Vec, Box, Global}
use Rattle.std.specs.Prelude.{◌==◌}
use Rattle.std.specs.List.{AllByRecursion, fold}
use Rattle.std.specs.Vec.{vec_len}
use Rattle.std.proofs.lemmas.Bool.{and_parts}
use Rattle.std.proofs.lemmas.List.{append-nil, append_assoc}
use Rattle.cq_model_bags.proofs.Lists.{all-append, all-filter, all-weaker}
use Rattle.cq_model_bags.proofs.Totals.{by_test}
use Rattle.cq_model.proofs.Conditions.{none-kept}
use Rattle.cq_model_eval.proofs.Trees.{through, tree-And, tree-Or}
use Rattle.cq_model_laws.proofs.Names.{holds-same}
use Rattle.cq_model_laws.proofs.Own.{column-part}
use Rattle.cq_model.specs.Condition.{holds}
use Rattle.cq_model.specs.Expr.{Cond, Compare, IsNull, Between, In, Like, Not, And, Or}
use Rattle.cq_model.specs.Meaning.{keeps, meets}
use Rattle.cq_model.specs.Own.{IsPart, whole, before_and, behind_and, in_place, passes_own, tests_only}
use Rattle.cq_model.specs.Trees.{cond_of}
use Rattle.cq_model.specs.declared.expr.CondTree.{CondTree}
use Rattle.cq_model.specs.declared.expr.CondTree.TheViews as cond_view
use Rattle.cq_model.specs.declared.query.Equality.{Equality}
use Rattle.cq_plan.proofs.Asked.{some-trees, true-both}
use Rattle.cq_plan.proofs.Chains.{joined-values}
use Rattle.cq_plan.proofs.Owned.{part-through}
use Rattle.cq_plan.specs.Below.{ArePassing, LinksPass}
use Rattle.cq_plan.specs.Chain.{AreAsWide, ChainedSource, HaveValues, chain_list, joined_list, pairs_with}
use Rattle.cq_plan.specs.EachOwn.{AreEachOwn, each_is_of_one, each_names_one, is_of_one, names_one}
use Rattle.cq_plan.specs.Own.{AskAllOwn}
use Rattle.cq_plan.specs.declared.plans.PlannedSource.{PlannedSource}
use Rattle.cq_values.specs.Truth.{is_true}
use Rattle.cq_values.specs.Value.{Row}

-- ---- which parts name one source
-- a chain of AND does where each of its parts does
pub each-chain : (sources : List PlannedSource) (tree : CondTree) (first : Box CondTree Global) (rest : Vec CondTree Global) → tree ≡ cond_view.And first rest
    → each_is_of_one sources (cond_of tree) ≡ fold ◌&&◌ (each_is_of_one sources (cond_of first.value)) (map (λ t. each_is_of_one sources (cond_of t)) rest.items)
each-chain sources tree first rest is =
    ap (λ (t : CondTree). each_is_of_one sources (cond_of t)) is ∙ ap (each_is_of_one sources) (tree-And first rest)
    ∙ through cond_of (each_is_of_one sources) And ◌&&◌ (λ a b. refl) (cond_of first.value) rest.items

-- OR of several is one part
or-one : (sources : List PlannedSource) (c d : Cond) (ds : List Cond) → each_is_of_one sources (fold Or c (d ∷ ds)) ≡ is_of_one sources (fold Or c (d ∷ ds))
or-one sources c d [] = refl
or-one sources c d (e ∷ ds) = or-one sources (Or c d) e ds

pub each-or : (sources : List PlannedSource) (tree : CondTree) (first : Box CondTree Global) (rest : Vec CondTree Global) → tree ≡ cond_view.Or first rest → false ≡ (vec_len rest == 0)
    → is_of_one sources (cond_of tree) ≡ each_is_of_one sources (cond_of tree)
each-or sources tree first rest is some =
    let chain : cond_of tree ≡ fold Or (cond_of first.value) (map cond_of rest.items) = ap cond_of is ∙ tree-Or first rest in
    subst (λ (c : Cond). is_of_one sources c ≡ each_is_of_one sources c) (sym chain) (by_parts rest.items (some-trees rest.items rest.len rest.ok.0 some))
  where
    by_parts : (ts : List CondTree) → (ts ≡ [] → ⊥) → is_of_one sources (fold Or (cond_of first.value) (map cond_of ts)) ≡ each_is_of_one sources (fold Or (cond_of first.value) (map cond_of ts))
    by_parts [] some = absurd (some refl)
    by_parts (t ∷ ts) some = sym (or-one sources (cond_of first.value) (cond_of t) (map cond_of ts))

-- ---- what holds of rows that are joined
-- sources of these widths, of which the last one ends there
abbrev Ends : ℕ → List ℕ → ℕ → Type 0
Ends before [] n = before ≡ n
Ends before (w ∷ ws) n = Ends (before + w) ws n

ends-more : (before : ℕ) (widths : List ℕ) (n wide : ℕ) → Ends before widths n → Ends before (widths ++ wide ∷ []) (n + wide)
ends-more before [] n wide e = ap (λ k. k + wide) e
ends-more before (w ∷ ws) n wide e = ends-more (before + w) ws n wide e

-- with a source more, one of those before is named or this one
one-more : (before : ℕ) (widths : List ℕ) (n wide : ℕ) (c : Cond) → Ends before widths n → names_one before (widths ++ wide ∷ []) c ≡ true
    → (names_one before widths c ≡ true) ⊎ (tests_only n wide c ≡ true)
one-more before [] n wide c e h = inr (ap (λ k. tests_only k wide c) (sym e) ∙ alone (tests_only before wide c) h)
  where
    alone : (x : Bool) → (x || false) ≡ true → x ≡ true
    alone true e = refl
    alone false e = e
one-more before (w ∷ ws) n wide c e h = by_test (tests_only before w c)
    (λ k. inl (ap (λ x. x || names_one (before + w) ws c) k))
    (λ k. rest k (one-more (before + w) ws n wide c e (rw k at h)))
  where
    rest : tests_only before w c ≡ false → (names_one (before + w) ws c ≡ true) ⊎ (tests_only n wide c ≡ true) → (names_one before (w ∷ ws) c ≡ true) ⊎ (tests_only n wide c ≡ true)
    rest k (inl m) = inl (ap (λ x. x || names_one (before + w) ws c) k ∙ m)
    rest k (inr m) = inr m

-- what a test keeps passes it
kept-pass : (keep : Row → Bool) (rows : List Row) → AllByRecursion (λ s. keep s ≡ true) (filter keep rows)
kept-pass keep [] = tt
kept-pass keep (r ∷ rows) = by_test (keep r) (λ k. rw k (k, kept-pass keep rows)) (λ k. rw k (kept-pass keep rows))

-- and all are kept where all pass
kept-whole : (keep : Row → Bool) (rows : List Row) → AllByRecursion (λ s. keep s ≡ true) rows → filter keep rows ≡ rows
kept-whole keep [] all = refl
kept-whole keep (r ∷ rows) all = rw (all.0, kept-whole keep rows all.1) refl

module _ (filter_is : Cond) where
  -- each part that names one of these sources alone is True in the row, whatever stands behind it
  abbrev Covers : List ℕ → Row → Type 0
  Covers widths r = (part : Cond) (t : Row) → IsPart part filter_is → names_one 0 widths part ≡ true → is_true (holds part (r ++ t)) ≡ true

  module _ (done : List ℕ) (n wide : ℕ) (cs : List Cond) (ends : Ends 0 done n) (asks : AskAllOwn filter_is n wide cs) where
    pair-covers : (r s : Row) → length r ≡ n → length s ≡ wide → Covers done r → passes_own n cs s ≡ true → Covers (done ++ wide ∷ []) (r ++ s)
    pair-covers r s e w covers passes part t is named = by_one (one-more 0 done n wide part ends named)
      where
        by_one : (names_one 0 done part ≡ true) ⊎ (tests_only n wide part ≡ true) → is_true (holds part ((r ++ s) ++ t)) ≡ true
        by_one (inl m) = ap (λ row. is_true (holds part row)) (append_assoc r s t) ∙ covers part (s ++ t) is m
        by_one (inr m) =
            ap is_true (holds-same n wide (r ++ s ++ t) (in_place n s) (column-part n wide r s t e w) part m) ∙ asks part s is m passes

    -- the pairs of a row with those of a source that pass
    pairs-cover : (on : List Equality) (r : Row) (others : List Row) → length r ≡ n → Covers done r → HaveValues wide others
        → AllByRecursion (λ s. passes_own n cs s ≡ true) others → AllByRecursion (Covers (done ++ wide ∷ [])) (pairs_with on r others)
    pairs-cover on r [] e covers v p = tt
    pairs-cover on r (s ∷ others) e covers v p = by_test (meets on r s)
        (λ m. rw m (pair-covers r s e v.0 covers p.0, pairs-cover on r others e covers v.1 p.1))
        (λ m. rw m (pairs-cover on r others e covers v.1 p.1))

    joined-cover : (on : List Equality) (rows others : List Row) → HaveValues n rows → AllByRecursion (Covers done) rows → HaveValues wide others
        → AllByRecursion (λ s. passes_own n cs s ≡ true) others → AllByRecursion (Covers (done ++ wide ∷ [])) (joined_list on rows others)
    joined-cover on [] others v all w p = tt
    joined-cover on (r ∷ rows) others v all w p =
        all-append (Covers (done ++ wide ∷ [])) (pairs_with on r others) (joined_list on rows others)
        (pairs-cover on r others v.0 all.0 w p) (joined-cover on rows others v.1 all.1 w p)

  -- of sources in turn
  chain-cover : (done : List ℕ) (n : ℕ) (widths : List ℕ) (rows : List Row) (links passed : List ChainedSource) → Ends 0 done n → HaveValues n rows → AllByRecursion (Covers done) rows
      → AreAsWide widths links → LinksPass (Some filter_is) n widths links passed → AllByRecursion (Covers (done ++ widths)) (chain_list rows passed)
  chain-cover done n [] rows [] [] ends v all w pass = subst (λ (ds : List ℕ). AllByRecursion (Covers ds) rows) (sym (append-nil done)) all
  chain-cover done n [] rows [] (p ∷ ps) ends v all w pass = absurd pass
  chain-cover done n [] rows (link ∷ links) passed ends v all w pass = absurd w
  chain-cover done n (wide ∷ widths) rows [] passed ends v all w pass = absurd w
  chain-cover done n (wide ∷ widths) rows (link ∷ links) [] ends v all w pass = absurd pass
  chain-cover done n (wide ∷ widths) rows (link ∷ links) (p ∷ ps) ends v all w pass =
      let cs = pass.1.conditions in
      let wide_ones : HaveValues wide p.1 = subst (HaveValues wide) (sym pass.1.are) (all-filter (λ s. length s ≡ wide) (passes_own n cs) link.1 w.0) in
      let passing : AllByRecursion (λ s. passes_own n cs s ≡ true) p.1 = subst (AllByRecursion (λ s. passes_own n cs s ≡ true)) (sym pass.1.are) (kept-pass (passes_own n cs) link.1) in
      let next = joined_list p.0 rows p.1 in
      subst (λ (ds : List ℕ). AllByRecursion (Covers ds) (chain_list next ps)) (append_assoc done (wide ∷ []) widths)
      (chain-cover (done ++ wide ∷ []) (n + wide) widths next links ps (ends-more 0 done n wide ends) (joined-values p.0 n wide rows p.1 v wide_ones)
      (joined-cover done n wide cs ends pass.1.all p.0 rows p.1 v all wide_ones passing) w.1 pass.2)

  -- a condition of such parts is True in the row
  covered : (widths : List ℕ) (r : Row) → Covers widths r → (c : Cond) → IsPart c filter_is → each_names_one widths c ≡ true → is_true (holds c r) ≡ true
  covered widths r covers c is h = by_form c is h
    where
      alone : (part : Cond) → IsPart part filter_is → names_one 0 widths part ≡ true → is_true (holds part r) ≡ true
      alone part is h = ap (λ row. is_true (holds part row)) (sym (append-nil r)) ∙ covers part [] is h

      by_form : (c : Cond) → IsPart c filter_is → each_names_one widths c ≡ true → is_true (holds c r) ≡ true
      by_form (And a b) is h =
          let both = and_parts (each_names_one widths a) (each_names_one widths b) h in
          true-both (holds a r) (holds b r)
          (by_form a (part-through a (And a b) filter_is (before_and a a b (whole a)) is) both.0)
          (by_form b (part-through b (And a b) filter_is (behind_and b a b (whole b)) is) both.1)
      by_form (Compare c a b) is h = alone (Compare c a b) is h
      by_form (IsNull e) is h = alone (IsNull e) is h
      by_form (Between e a b) is h = alone (Between e a b) is h
      by_form (In e es) is h = alone (In e es) is h
      by_form (Like e p) is h = alone (Like e p) is h
      by_form (Not c) is h = alone (Not c) is h
      by_form (Or a b) is h = alone (Or a b) is h

-- WHERE keeps all
pub owned-all : (where_is : Option Cond) (n : ℕ) (widths : List ℕ) (rows passing : List Row) (links passed : List ChainedSource)
    → AreEachOwn where_is (n ∷ widths) → HaveValues n rows → AreAsWide widths links → ArePassing where_is 0 n rows passing → LinksPass where_is n widths links passed
    → filter (keeps where_is) (chain_list passing passed) ≡ chain_list passing passed
owned-all None n widths rows passing links passed own v w first pass = none-kept (chain_list passing passed)
owned-all (Some filter_is) n widths rows passing links passed own v w first pass =
    let cs = first.conditions in
    let wide_ones : HaveValues n passing = subst (HaveValues n) (sym first.are) (all-filter (λ s. length s ≡ n) (passes_own 0 cs) rows v) in
    let kept : AllByRecursion (λ s. passes_own 0 cs s ≡ true) passing = subst (AllByRecursion (λ s. passes_own 0 cs s ≡ true)) (sym first.are) (kept-pass (passes_own 0 cs) rows) in
    let covers = chain-cover filter_is (n ∷ []) n widths passing links passed (omega arith) wide_ones (firsts passing wide_ones kept) w pass in
    kept-whole (keeps (Some filter_is)) (chain_list passing passed)
    (all-weaker (Covers filter_is (n ∷ widths)) (λ r. keeps (Some filter_is) r ≡ true) (λ r c. covered filter_is (n ∷ widths) r c filter_is (whole filter_is) own) (chain_list passing passed) covers)
  where
    firsts : (some : List Row) → HaveValues n some → AllByRecursion (λ s. passes_own 0 first.conditions s ≡ true) some → AllByRecursion (Covers filter_is (n ∷ [])) some
    firsts [] v p = tt
    firsts (s ∷ some) v p =
        (pair-covers filter_is [] 0 n first.conditions refl first.all [] s refl v.0 (λ part t is named. absurd (cc named)) p.0, firsts some v.1 p.1)
