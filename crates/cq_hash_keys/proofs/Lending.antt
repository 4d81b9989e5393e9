-- The values of a key, from its last column on.
use Rattle.std.proofs.Common.{◌≡◌, ℕ, ◌+◌, ◌<◌, ◌≤◌, List, [], ◌∷◌, ◌++◌, map, length, get_or, refl, sym, ◌∙◌, ap, subst, arith}
use Rattle.std.specs.List.{AllByRecursion}
use Rattle.std.proofs.lemmas.Grind.{common_steps}
use Rattle.std.proofs.lemmas.List.{get_or-map, length-append, length-map}
use Rattle.std.proofs.lemmas.List.Sums.{fold-append}
use Rattle.cq_values.specs.declared.value.Value.{Value}
use Rattle.cq_values.specs.declared.value.Value.TheVariants.{Null}
use Rattle.cq_values.specs.Value.{Row, column}
use Rattle.cq_model_bags.proofs.Lists.{all-at}
use Rattle.cq_hash_keys.specs.declared.stage.Stage.{Stage}
use Rattle.cq_hash_keys.specs.Keys.{HasValues, key_at}
use Rattle.cq_hash_keys.specs.Stages.{AreStages, IsStage, IsWithinBoth, joined, longer, longest, singles}

-- ---- how many values keys have
pub singles-wide : (first : List Value) → AllByRecursion (HasValues 1) (singles first)
singles-wide [] = tt
singles-wide (v ∷ first) = (refl, singles-wide first)

longer-wide : (width : ℕ) (keys : List Row) (values : List Value) (pairs : List (ℕ × ℕ)) → AllByRecursion (HasValues width) keys → AllByRecursion (IsWithinBoth (length keys) (length values)) pairs
    → AllByRecursion (HasValues (width + 1)) (map (joined keys values) pairs)
longer-wide width keys values [] wide all = tt
longer-wide width keys values (p ∷ pairs) wide all =
    let here : length (key_at keys p.0) ≡ width = all-at (HasValues width) keys p.0 [] all.0.0 wide in
    (length-append (key_at keys p.0) (column values p.1 ∷ []) ∙ ap (λ (n : ℕ). n + 1) here, longer-wide width keys values pairs wide all.1)

pub longest-wide : (width : ℕ) (keys : List Row) (stages : List Stage) → AllByRecursion (HasValues width) keys → AreStages keys stages → AllByRecursion (HasValues (width + length stages)) (longest keys stages)
longest-wide width keys [] wide are = subst (λ (n : ℕ). AllByRecursion (HasValues n) keys) (omega arith) wide
longest-wide width keys (stage ∷ stages) wide are =
    subst (λ (n : ℕ). AllByRecursion (HasValues n) (longest (longer keys stage) stages)) (omega arith)
    (longest-wide (width + 1) (longer keys stage) stages (longer-wide width keys stage.values stage.pairs wide are.0.within) are.1)

-- ---- stages, and the last one
are-before : (keys : List Row) (before : List Stage) (stage : Stage) → AreStages keys (before ++ stage ∷ []) → AreStages keys before × IsStage (longest keys before) stage
are-before keys [] stage are = (tt, are.0)
are-before keys (s ∷ before) stage are = let rest = are-before (longer keys s) before stage are.1 in ((are.0, rest.0), rest.1)

module _ (first : List Value) (before : List Stage) (stage : Stage) (stages : List Stage) (split : stages ≡ before ++ stage ∷ []) (are : AreStages (singles first) stages) where
  abbrev keys : List Row
  keys = longest (singles first) before

  parts : AreStages (singles first) before × IsStage keys stage
  parts = are-before (singles first) before stage (subst (AreStages (singles first)) split are)

  pub before-are : AreStages (singles first) before
  before-are = parts.0

  is : longest (singles first) stages ≡ longer keys stage
  is = ap (longest (singles first)) split ∙ fold-append longer (singles first) before (stage ∷ [])

  module _ (key : ℕ) (lt : key < length (longest (singles first) stages)) where
    abbrev pair : ℕ × ℕ
    pair = get_or stage.pairs key (0, 0)

    below : key < length stage.pairs
    below = let e = ap (λ (rows : List Row). length rows) is in omega (arith, lt, e, length-map stage.pairs (joined keys stage.values))

    pub within : IsWithinBoth (length keys) (length stage.values) pair
    within = all-at (IsWithinBoth (length keys) (length stage.values)) stage.pairs key (0, 0) below parts.1.within

    key_is : key_at (longest (singles first) stages) key ≡ joined keys stage.values pair
    key_is = ap (λ (rows : List Row). key_at rows key) is ∙ get_or-map (joined keys stage.values) stage.pairs key (0, 0) [] below

    long : length (key_at keys pair.0) ≡ 1 + length before
    long = all-at (HasValues (1 + length before)) keys pair.0 [] within.0 (longest-wide 1 (singles first) before (singles-wide first) parts.0)

    -- a value before the last is that of the key without the last
    pub earlier : (at : ℕ) → at ≤ length before → column (key_at keys pair.0) at ≡ column (key_at (longest (singles first) stages) key) at
    earlier at le =
        let within : at < length (key_at keys pair.0) = omega (arith, le, long) in
        let e : get_or (key_at keys pair.0) at Null ≡ get_or (key_at keys pair.0 ++ column stage.values pair.1 ∷ []) at Null = grind (arith, common_steps) in
        e ∙ sym (ap (λ (row : Row). column row at) key_is)

    -- and the last is that of the stage
    pub latest : (at : ℕ) → length before < at → at ≤ length stages → column stage.values pair.1 ≡ column (key_at (longest (singles first) stages) key) at
    latest at past le =
        let count = ap (λ (ss : List Stage). length ss) split ∙ length-append before (stage ∷ []) in
        let end : at ≡ length (key_at keys pair.0) = omega (arith, past, le, long, count) in
        let e : column stage.values pair.1 ≡ get_or (key_at keys pair.0 ++ column stage.values pair.1 ∷ []) at Null = grind (arith, common_steps) in
        e ∙ sym (ap (λ (row : Row). column row at) key_is)
