-- A plan keeps the joined rows that WHERE keeps.
use Rattle.std.proofs.Common.{◌≡◌, ◌∙◌, ℕ, ◌+◌, not, ◌&&◌, ◌||◌, ◌⊎◌, Bool, true, false, List, [], ◌∷◌, Option, Some, None, arith, ap, ap₂, filter, length, refl, subst, sym, inl, inr}
use Rattle.std.proofs.lemmas.List.{length-map}
use Rattle.std.specs.List.{AllByRecursion}
use Rattle.cq_values.specs.Value.{Row}
use Rattle.cq_model.proofs.Conditions.{none-kept}
use Rattle.cq_model.specs.Expr.{Cond, Compare, IsNull, Between, In, Like, Not, And, Or}
use Rattle.cq_model.specs.Meaning.{keeps}
use Rattle.cq_model.specs.Own.{passes_own, tests_only}
use Rattle.cq_model.specs.declared.query.Join.{Join}
use Rattle.cq_model.specs.declared.query.Query.{Query}
use Rattle.cq_plan.specs.Below.{AllPass, ArePassing}
use Rattle.cq_plan.specs.Chain.{ChainedSource, chain_list, joined_lists, links_with}
use Rattle.cq_plan.specs.EachOwn.{AreEachOwn, each_is_of_one, each_names_one, is_of_one, names_one}
use Rattle.cq_plan.specs.Own.{conditions_of}
use Rattle.cq_plan.specs.Plan.{kept_of}
use Rattle.cq_plan.specs.Planned.{AreAllOwn, AsksWhere, HaveColumns, IsPlanned, asked_behind, asked_below, below_of, is_asked_behind, is_joined, joined_by, passing_links, passing_of, widths_of}
use Rattle.cq_plan.specs.declared.plans.PlannedSource.{PlannedSource}
use Rattle.cq_plan.proofs.Below.{all-below, below-joins}
use Rattle.cq_plan.proofs.EachOwn.{owned-all}

-- ---- sources that pass
-- the rows of a planned source that pass are those that pass its own conditions
passing-planned : (below : Option Cond) (before : ℕ) (s : PlannedSource) (rows : List Row) → IsPlanned below before s → ArePassing below before s.wide rows (passing_of s rows)
passing-planned below before s rows is = record {
  conditions = conditions_of s.own.items;
  own = is.own;
  all = is.all;
  are = ap (λ (n : ℕ). filter (passes_own n (conditions_of s.own.items)) rows) is.place;
}

-- so it is with those that are joined
links-planned : (below : Option Cond) (before : ℕ) (joins : List Join) (ss : List PlannedSource) (others : List (List Row)) → AreAllOwn below before ss → HaveColumns ss others → length ss ≡ length joins
    → AllPass below before (widths_of ss) (links_with joins others) (passing_links joins ss others)
links-planned below before [] [] [] own have same = record { wide = tt; pass = tt }
links-planned below before (j ∷ js) [] [] own have same = absurd (omega (arith, same))
links-planned below before [] (s ∷ ss) others own have same = absurd (omega (arith, same))
links-planned below before joins [] (rows ∷ others) own have same = absurd have
links-planned below before joins (s ∷ ss) [] own have same = absurd have
links-planned below before (j ∷ js) (s ∷ ss) (rows ∷ others) own have same =
    let rest = links-planned below (before + s.wide) js ss others own.1 have.1 (omega (arith, same)) in
    record {
      wide = (have.0, rest.wide);
      pass = (refl, passing-planned below before s rows own.0, rest.pass);
    }

-- ---- parts of WHERE
-- where planned sources stand one behind the other, one is named alone exactly where one of their widths is
one-named : (below : Option Cond) (before : ℕ) (ss : List PlannedSource) (c : Cond) → AreAllOwn below before ss → is_of_one ss c ≡ names_one before (widths_of ss) c
one-named below before [] c own = refl
one-named below before (s ∷ ss) c own =
    ap₂ ◌||◌ (ap (λ (n : ℕ). tests_only n s.wide c) own.0.place) (one-named below (before + s.wide) ss c own.1)

-- and by each part
each-named : (below : Option Cond) (ss : List PlannedSource) (c : Cond) → AreAllOwn below 0 ss → each_is_of_one ss c ≡ each_names_one (widths_of ss) c
each-named below ss (And a b) own = ap₂ ◌&&◌ (each-named below ss a own) (each-named below ss b own)
each-named below ss (Compare c a b) own = one-named below 0 ss (Compare c a b) own
each-named below ss (IsNull e) own = one-named below 0 ss (IsNull e) own
each-named below ss (Between e a b) own = one-named below 0 ss (Between e a b) own
each-named below ss (In e es) own = one-named below 0 ss (In e es) own
each-named below ss (Like e p) own = one-named below 0 ss (Like e p) own
each-named below ss (Not c) own = one-named below 0 ss (Not c) own
each-named below ss (Or a b) own = one-named below 0 ss (Or a b) own

-- what is asked behind the joins: WHERE, or nothing where each of its parts was asked below them
abbrev IsLeft : Option Cond → Option Cond → List ℕ → Option Cond → Type 0
IsLeft where_is below widths behind = (behind ≡ where_is) ⊎ ((behind ≡ None) × (below ≡ where_is) × AreEachOwn where_is widths)

behind-or-each : (q : Query) (asks_behind : Bool) (ss : List PlannedSource) → AsksWhere q ss asks_behind → IsLeft q.filter (below_of q) (widths_of ss) (asked_behind asks_behind q.filter)
behind-or-each q asks_behind ss asks = by_where q.filter asks_behind (is_joined q) asks.own asks.behind
  where
    by_where : (where_is : Option Cond) (asks below : Bool) → AreAllOwn (asked_below below where_is) 0 ss → asks ≡ is_asked_behind where_is below ss
        → IsLeft where_is (asked_below below where_is) (widths_of ss) (asked_behind asks where_is)
    by_where None true below own is = inl refl
    by_where None false below own is = inl refl
    by_where (Some c) true below own is = inl refl
    by_where (Some c) false false own is = absurd (cc is)
    by_where (Some c) false true own is = inr (refl, refl, sym (each-named (Some c) ss c own) ∙ all-own (each_is_of_one ss c) is)
      where
        all-own : (x : Bool) → false ≡ not (true && x) → x ≡ true
        all-own true e = refl
        all-own false e = absurd (cc e)

-- ---- WHERE
-- it keeps the same rows, whether its own conditions were asked before or none were
same-kept : (where_is : Option Cond) (below : Bool) (asked rows : List Row) → filter (keeps (asked_below below where_is)) asked ≡ filter (keeps (asked_below below where_is)) rows
    → filter (keeps where_is) asked ≡ filter (keeps where_is) rows
same-kept where_is true asked rows same = same
same-kept where_is false asked rows same = ap (filter (keeps where_is)) (sym (none-kept asked) ∙ same ∙ none-kept rows)

module _ (q : Query) (asks_behind : Bool) (s : PlannedSource) (ss : List PlannedSource) (first : List Row) (others : List (List Row)) (asks : AsksWhere q (s ∷ ss) asks_behind) (have : HaveColumns (s ∷ ss) (first ∷ others)) where
  abbrev links : List ChainedSource
  links = links_with q.joins others

  abbrev passed : List ChainedSource
  passed = passing_links q.joins ss others

  abbrev asked : List Row
  asked = chain_list (passing_of s first) passed

  abbrev below : Option Cond
  below = below_of q

  abbrev behind : Option Cond
  behind = asked_behind asks_behind q.filter

  passing : ArePassing below 0 s.wide first (passing_of s first)
  passing = passing-planned below 0 s first asks.own.0

  pass : AllPass below s.wide (widths_of ss) links passed
  pass = links-planned below s.wide q.joins ss others own have.1 (omega (arith, asks.count))
    where
      own : AreAllOwn below s.wide ss
      own = let front : 0 + s.wide ≡ s.wide = omega arith in subst (λ (n : ℕ). AreAllOwn below n ss) front asks.own.1

  -- it keeps the same of the rows that pass, joined
  same : filter (keeps q.filter) asked ≡ filter (keeps q.filter) (chain_list first links)
  same = same-kept q.filter (is_joined q) asked (chain_list first links)
      (below-joins below s.wide (widths_of ss) first (passing_of s first) links passed have.0 pass.wide passing pass.pass)

  -- and so does what is asked behind the joins
  same-behind : filter (keeps behind) asked ≡ filter (keeps q.filter) asked
  same-behind = by_case (behind-or-each q asks_behind (s ∷ ss) asks)
    where
      by_case : IsLeft q.filter below (s.wide ∷ widths_of ss) behind → filter (keeps behind) asked ≡ filter (keeps q.filter) asked
      by_case (inl is) = ap (λ (c : Option Cond). filter (keeps c) asked) is
      by_case (inr (none, is, each)) =
          ap (λ (c : Option Cond). filter (keeps c) asked) none ∙ none-kept asked
          ∙ sym (subst (λ (c : Option Cond). filter (keeps c) asked ≡ asked) is
          (owned-all below s.wide (widths_of ss) first (passing_of s first) links passed (subst (λ (c : Option Cond). AreEachOwn c (s.wide ∷ widths_of ss)) (sym is) each) have.0 pass.wide passing pass.pass))

  -- what holds of each joined row holds of those
  all-asked : (P : Row → Type 0) → AllByRecursion P (chain_list first links) → AllByRecursion P asked
  all-asked P all = all-below P below s.wide (widths_of ss) first (passing_of s first) links passed have.0 pass.wide passing pass.pass all

-- ---- plans
module _ (q : Query) (ss : List PlannedSource) (asks_behind : Bool) (asks : AsksWhere q ss asks_behind) (sources : List (List Row)) (have : HaveColumns ss sources) where
  -- they keep what WHERE keeps
  pub kept-planned : filter (keeps (asked_behind asks_behind q.filter)) (joined_by q.joins ss sources) ≡ kept_of q sources
  kept-planned = by_sources ss sources asks have
    where
      by_sources : (ss : List PlannedSource) (sources : List (List Row)) → AsksWhere q ss asks_behind → HaveColumns ss sources → filter (keeps (asked_behind asks_behind q.filter)) (joined_by q.joins ss sources) ≡ kept_of q sources
      by_sources [] sources asks have = absurd (omega (arith, asks.count))
      by_sources (s ∷ ss) [] asks have = absurd have
      by_sources (s ∷ ss) (first ∷ others) asks have = same-behind q asks_behind s ss first others asks have ∙ same q asks_behind s ss first others asks have

  -- and join no other rows
  pub all-planned : (P : Row → Type 0) → AllByRecursion P (joined_lists q.joins sources) → AllByRecursion P (joined_by q.joins ss sources)
  all-planned P = by_sources ss sources asks have
    where
      by_sources : (ss : List PlannedSource) (sources : List (List Row)) → AsksWhere q ss asks_behind → HaveColumns ss sources → AllByRecursion P (joined_lists q.joins sources) → AllByRecursion P (joined_by q.joins ss sources)
      by_sources [] sources asks have all = absurd (omega (arith, asks.count))
      by_sources (s ∷ ss) [] asks have all = absurd have
      by_sources (s ∷ ss) (first ∷ others) asks have all = all-asked q asks_behind s ss first others asks have P all

-- ---- making one
module _ (q : Query) (ss : List PlannedSource) (below : Bool) (widths : List ℕ) (joined : below ≡ is_joined q) (own : AreAllOwn (asked_below below q.filter) 0 ss) (wide : widths_of ss ≡ widths) (count : length widths ≡ length q.joins + 1) where
  -- WHERE is asked of each source, and behind the joins where some part is left
  pub asks-where : (asks : Bool) → asks ≡ is_asked_behind q.filter below ss → AsksWhere q ss asks
  asks-where asks is = record {
    count = sym (length-map ss (λ s. s.wide)) ∙ ap length wide ∙ count;
    own = subst (λ (b : Bool). AreAllOwn (asked_below b q.filter) 0 ss) joined own;
    behind = is ∙ ap (λ (b : Bool). is_asked_behind q.filter b ss) joined;
  }
