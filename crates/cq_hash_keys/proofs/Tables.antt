-- A table of keys, as columns are taken in and looked up.
use Rattle.std.proofs.lemmas.Bool.{eqb-true}
use Rattle.std.specs.Prelude.{⊤}
use Rattle.std.proofs.Common.{◌≡◌, inl, ℕ, ◌+◌, ◌<◌, ◌≤◌, Bool, true, false, nat_eq, cond, List, [], ◌∷◌, ◌++◌, map, replicate, take, length, Option, None, refl, sym, ◌∙◌, ap, ap₂, subst, arith}
use Rattle.std.specs.List.{AllByRecursion, IsDistinct, zip}
use Rattle.std.proofs.lemmas.List.{get_or-map, length-map}
use Rattle.cq_values.specs.declared.value.Value.{Value}
use Rattle.cq_values.specs.declared.value.Value.TheVariants.{Null}
use Rattle.cq_values.specs.Keys.{same_row-refl, same_row-same}
use Rattle.cq_values.specs.Order.{same_row}
use Rattle.cq_values.specs.Value.{Row, column}
use Rattle.cq_model_bags.proofs.Lists.{all-at, all-of}
use Rattle.cq_model_bags.proofs.Totals.{by_test}
use Rattle.cq_model_bags.specs.Bag.{firsts}
use Rattle.cq_hash_keys.specs.declared.stage.Stage.{Stage}
use Rattle.cq_hash_keys.specs.Keys.{AreKeys, HasLength, HasValues, key_at, places_of}
use Rattle.cq_hash_keys_values.specs.Met.{AreNumbersOf, TakesFront, with_new}
use Rattle.cq_hash_keys.specs.Stages.{Adds, AreStages, FindsOn, GoesOn, IsFresh, IsStage, Readies, StartsFrom, StaysStages, behind, joined, longer, longest, rows_with, singles}
use Rattle.cq_hash_keys.specs.Table.{IsKeyTable, keys_in}
use Rattle.cq_hash_keys_values.specs.Values.{place_in, same_value}
use Rattle.cq_hash_keys_values.proofs.Choices.{by-sum}
use Rattle.cq_hash_keys.proofs.Further.{more-once, rest-stays}
use Rattle.cq_hash_keys_values.proofs.Growing.{met-more, new-named, new-once, place-named}
use Rattle.cq_hash_keys.proofs.KeyRows.{new-firsts}
use Rattle.cq_hash_keys.proofs.Lending.{longest-wide, singles-wide}
use Rattle.cq_hash_keys.proofs.Longer.{same-length}
use Rattle.cq_hash_keys.proofs.Zips.{length-zip}

abbrev single : Value → Row
single v = v ∷ []

-- anything may be there
anything : (values : List Value) → AllByRecursion (λ (v : Value). ⊤) values
anything values = all-of (λ (v : Value). ⊤) (λ v. tt) values

-- ---- the first column
singles-new : (old values : List Value) → singles (with_new same_value old values) ≡ with_new same_row (singles old) (singles values)
singles-new old values = new-named same_value same_row single (λ (v : Value). ⊤) (λ v w a b. refl) old values (anything old) (anything values)

-- a value is found where its key is
pub singles-found : (met values : List Value) → map (place_in met) values ≡ places_of (singles met) (singles values)
singles-found met [] = refl
singles-found met (v ∷ values) =
    ap₂ (λ (n : Option ℕ) (ns : List (Option ℕ)). n ∷ ns) (sym (place-named same_value same_row single (λ (v : Value). ⊤) (λ v w a b. refl) v met tt (anything met))) (singles-found met values)

singles-named : (met : List Value) (numbers : List ℕ) → AllByRecursion (λ n. n < length met) numbers → map (key_at (singles met)) numbers ≡ singles (map (column met) numbers)
singles-named met [] all = refl
singles-named met (n ∷ numbers) all = ap₂ (λ (r : Row) (rs : List Row). r ∷ rs) (get_or-map single met n Null [] all.0) (singles-named met numbers all.1)

module _ (old new values : List Value) (stages : List Stage) (once : IsDistinct same_row (singles old)) (are : AreStages (singles old) stages) where
  -- the first column taken in
  pub first-starts : (numbers : List ℕ) → new ≡ with_new same_value old values → AreNumbersOf Null new values numbers → StartsFrom (singles old) (singles new) (singles values) stages numbers
  first-starts numbers made told = record {
    once = once;
    are = are;
    adds = record {
      made = ap singles made ∙ singles-new old values;
      told = record {
        named = singles-named new numbers told.within ∙ ap singles told.named;
        within = same-length single new numbers told.within;
      };
    };
  }

  -- or a part of it
  first-made : (front : TakesFront same_value old values new) → singles new ≡ with_new same_row (singles old) (singles (take front.0 values))
  first-made front = ap singles front.1 ∙ singles-new old (take front.0 values)

  pub first-once : TakesFront same_value old values new → IsDistinct same_row (singles new)
  first-once front = subst (IsDistinct same_row) (sym (first-made front)) (new-once same_row [] same_row-same same_row-refl (singles old) (singles (take front.0 values)) once)

  pub first-stays : TakesFront same_value old values new → AreStages (singles new) stages
  first-stays front =
      let m = met-more same_row (singles old) (singles (take front.0 values)) in
      let is : singles new ≡ singles old ++ m.0 = first-made front ∙ m.1 in
      subst (λ (ks : List Row). AreStages ks stages) (sym is) (rest-stays (singles old) m.0 stages (subst (IsDistinct same_row) is (first-once front)) are)

-- ---- stages with nothing in them
pub fresh-are : (keys : List Row) (stages : List Stage) → AllByRecursion IsFresh stages → AreStages keys stages
unfolding IsDistinct
fresh-are keys [] all = tt
fresh-are keys (stage ∷ stages) all =
    let values = all.0.values in
    let pairs = all.0.pairs in (
      record { values = rw values tt; within = rw pairs tt; once = rw pairs tt },
      fresh-are (longer keys stage) stages all.1,
    )

-- without keys there are no longer ones
no-longer : (stage : Stage) → IsStage [] stage → longer [] stage ≡ []
no-longer stage is = none stage.pairs is.within
  where
    none : (pairs : List (ℕ × ℕ)) → AllByRecursion (λ (p : ℕ × ℕ). (p.0 < 0) × (p.1 < length stage.values)) pairs → map (joined [] stage.values) pairs ≡ []
    none [] all = refl
    none (p ∷ pairs) all = absurd (let lt = all.0.0 in omega (arith, lt))

pub no-longest : (stages : List Stage) → AreStages [] stages → longest [] stages ≡ []
no-longest [] are = refl
no-longest (stage ∷ stages) are =
    let e = no-longer stage are.0 in
    ap (λ (ks : List Row). longest ks stages) e ∙ no-longest stages (subst (λ (ks : List Row). AreStages ks stages) e are.1)

no-keys : (first : List Value) (stages : List Stage) → first ≡ [] → AreStages (singles first) stages → longest (singles first) stages ≡ []
no-keys first stages none are =
    ap (λ (vs : List Value). longest (singles vs) stages) none ∙ no-longest stages (subst (λ (vs : List Value). AreStages (singles vs) stages) none are)

-- ---- stages that are made ready
module _ (width count : ℕ) (first : List Value) (old new : List Stage) (table : IsKeyTable width first old) (wide : count + 1 ≡ width) (readies : Readies count old new) where
  pub ready-long : length new ≡ count
  ready-long = by-sum readies (λ same. ap (λ (ss : List Stage). length ss) same.1 ∙ same.0) (λ made. made.1)

  pub ready-are : AreStages (singles first) new
  ready-are = by-sum readies
      (λ same. subst (AreStages (singles first)) (sym same.1) table.are)
      (λ made. fresh-are (singles first) new made.2)

  pub ready-same : longest (singles first) old ≡ longest (singles first) new
  ready-same = by-sum readies
      (λ same. ap (longest (singles first)) (sym same.1))
      (λ made. by-sum table.ready
      (λ full. absurd (made.0 (omega (arith, full, wide))))
      (λ none. no-keys first old none table.are ∙ sym (no-keys first new none (fresh-are (singles first) new made.2))))

  pub ready-table : IsKeyTable width first new
  ready-table = record { once = table.once; are = ready-are; ready = inl (ap (λ (n : ℕ). n + 1) ready-long ∙ wide) }

-- ---- the keys of a table
longest-once : (keys : List Row) (stages : List Stage) → IsDistinct same_row keys → AreStages keys stages → IsDistinct same_row (longest keys stages)
longest-once keys [] once are = once
longest-once keys (stage ∷ stages) once are = longest-once (longer keys stage) stages are.0.once are.1

pub keys-once : (first : List Value) (stages : List Stage) → IsDistinct same_row (singles first) → AreStages (singles first) stages → IsDistinct same_row (longest (singles first) stages)
keys-once first stages once are = longest-once (singles first) stages once are

-- a table of more than no columns
pub keys-wide : (width : ℕ) (is_met : Bool) (first : List Value) (stages : List Stage) (columns : ℕ) → columns + 1 ≡ width → keys_in width is_met first stages ≡ longest (singles first) stages
keys-wide width is_met first stages columns wide = by_test (nat_eq width 0)
    (λ s. absurd (wide-none s))
    (λ s. rw s refl)
  where
    wide-none : nat_eq width 0 ≡ true → ⊥
    wide-none s = let e = eqb-true width 0 s in omega (arith, e, wide)

empty-once : (b : Bool) → IsDistinct same_row (cond b ([] ∷ []) [])
unfolding IsDistinct
empty-once true = (tt, tt)
empty-once false = tt

-- ---- rows of as many columns
pub rows-long : (rows : List Row) (columns : List (List Value)) → AllByRecursion (HasLength (length rows)) columns → length (rows_with rows columns) ≡ length rows
rows-long rows [] all = refl
rows-long rows (values ∷ columns) all =
    let here : length (behind rows values) ≡ length rows = length-map (zip rows values) (λ next. next.0 ++ next.1 ∷ []) ∙ length-zip rows values (sym all.0) in
    rows-long (behind rows values) columns (subst (λ (n : ℕ). AllByRecursion (HasLength n) columns) (sym here) all.1) ∙ here

pub none-found : (rows : List Row) → places_of [] rows ≡ replicate (length rows) None
none-found [] = refl
none-found (r ∷ rows) = ap (λ (ns : List (Option ℕ)). None ∷ ns) (none-found rows)

-- ---- columns taken in
module _ (width count : ℕ) (is_met : Bool) (first first_new : List Value) (old ready : List Stage) (values : List Value) (table : IsKeyTable width first old) (wide : count + 1 ≡ width) (readies : Readies count old ready) where
  -- a part of the first column alone
  pub part-table : TakesFront same_value first values first_new → IsKeyTable width first_new ready
  part-table front =
      let now = ready-table width count first old ready table wide readies in
      record {
        once = first-once first first_new values ready now.once now.are front;
        are = first-stays first first_new values ready now.once now.are front;
        ready = inl (ap (λ (n : ℕ). n + 1) (ready-long width count first old ready table wide readies) ∙ wide);
      }

  module _ (numbers : List ℕ) (made : first_new ≡ with_new same_value first values) (told : AreNumbersOf Null first_new values numbers) (new : List Stage) where
    start : StartsFrom (singles first) (singles first_new) (singles values) ready numbers
    start = first-starts first first_new values ready table.once (ready-are width count first old ready table wide readies) numbers made told

    -- all of it, with the stages as they are left
    pub whole-table : StaysStages ready numbers new → length new ≡ length ready → IsKeyTable width first_new new
    whole-table stays long = record {
      once = more-once (singles first) (singles first_new) (singles values) ready numbers start;
      are = stays (singles first) (singles first_new) (singles values) start;
      ready = inl (ap (λ (n : ℕ). n + 1) (long ∙ ready-long width count first old ready table wide readies) ∙ wide);
    }

    module _ (others : List (List Value)) (last : List ℕ) (goes : GoesOn ready others numbers new last) where
      adds : Adds (longest (singles first) ready) (longest (singles first_new) new) (rows_with (singles values) others) last
      adds = goes (singles first) (singles first_new) (singles values) start

      pub keys-added : keys_in width is_met first_new new ≡ firsts (keys_in width is_met first old ++ rows_with (singles values) others)
      keys-added =
          let rows = rows_with (singles values) others in
          keys-wide width is_met first_new new count wide ∙ adds.made
          ∙ ap (λ (ks : List Row). with_new same_row ks rows) (sym (ready-same width count first old ready table wide readies))
          ∙ new-firsts (longest (singles first) old) rows (keys-once first old table.once table.are)
          ∙ ap (λ (ks : List Row). firsts (ks ++ rows)) (sym (keys-wide width is_met first old count wide))

      pub numbers-added : AreNumbersOf [] (keys_in width is_met first_new new) (rows_with (singles values) others) last
      numbers-added = subst (λ (ks : List Row). AreNumbersOf [] ks (rows_with (singles values) others) last) (sym (keys-wide width is_met first_new new count wide)) adds.told

-- ---- columns looked up
module _ (width count : ℕ) (is_met : Bool) (first : List Value) (stages : List Stage) (values : List Value) (others : List (List Value)) (table : IsKeyTable width first stages) (wide : count + 1 ≡ width) where
  pub unready-found : (length stages ≡ count → ⊥) → AllByRecursion (HasLength (length values)) others
      → replicate (length values) None ≡ places_of (keys_in width is_met first stages) (rows_with (singles values) others)
  unready-found unready long =
      let empty : first ≡ [] = by-sum table.ready (λ full. absurd (unready (omega (arith, full, wide)))) (λ none. none) in
      let none = keys-wide width is_met first stages count wide ∙ no-keys first stages empty table.are in
      let singles-long = length-map values single in
      let rows = rows_with (singles values) others in
      let len : length rows ≡ length values =
      rows-long (singles values) others (subst (λ (n : ℕ). AllByRecursion (HasLength n) others) (sym singles-long) long) ∙ singles-long in
      ap (λ (n : ℕ). replicate n None) (sym len) ∙ sym (none-found rows) ∙ ap (λ (ks : List Row). places_of ks rows) (sym none)

  pub ready-found : (numbers last : List (Option ℕ)) → numbers ≡ map (place_in first) values → FindsOn stages others numbers last
      → last ≡ places_of (keys_in width is_met first stages) (rows_with (singles values) others)
  ready-found numbers last found finds =
      finds (singles first) (singles values) table.once table.are (found ∙ singles-found first values)
      ∙ ap (λ (ks : List Row). places_of ks (rows_with (singles values) others)) (sym (keys-wide width is_met first stages count wide))

-- ---- the keys by their numbers
module _ (width : ℕ) (is_met : Bool) (first : List Value) (stages : List Stage) (table : IsKeyTable width first stages) where
  -- keys with columns are there only where the stages are ready
  pub columns-long : (key at : ℕ) → key < length (keys_in width is_met first stages) → at < width → at ≤ length stages
  columns-long key at lt below = by-sum table.ready
      (λ full. omega (arith, full, below))
      (λ none.
      let e = some-wide ∙ no-keys first stages none table.are in
      absurd (let l = ap (λ (ks : List Row). length ks) e in omega (arith, l, lt)))
    where
      some-wide : keys_in width is_met first stages ≡ longest (singles first) stages
      some-wide = by_test (nat_eq width 0)
          (λ s. absurd (let e = eqb-true width 0 s in omega (arith, e, below)))
          (λ s. rw s refl)

  all-wide : AllByRecursion (HasValues width) (keys_in width is_met first stages)
  all-wide = by_test (nat_eq width 0)
      (λ s. rw s (empty-wide is_met (eqb-true width 0 s)))
      (λ s. rw s (by-sum table.ready
      (λ full. subst (λ (n : ℕ). AllByRecursion (HasValues n) (longest (singles first) stages)) (omega (arith, full)) (longest-wide 1 (singles first) stages (singles-wide first) table.are))
      (λ none. subst (AllByRecursion (HasValues width)) (sym (no-keys first stages none table.are)) tt)))
    where
      empty-wide : (b : Bool) → width ≡ 0 → AllByRecursion (HasValues width) (cond b ([] ∷ []) [])
      empty-wide true none = (sym none, tt)
      empty-wide false none = tt

  all-once : IsDistinct same_row (keys_in width is_met first stages)
  all-once = by_test (nat_eq width 0)
      (λ s. rw s (empty-once is_met))
      (λ s. rw s (keys-once first stages table.once table.are))

  pub are-keys : AreKeys width (keys_in width is_met first stages)
  are-keys = record { wide = all-wide; once = all-once }

  pub key-long : (key : ℕ) → key < length (keys_in width is_met first stages) → length (key_at (keys_in width is_met first stages) key) ≡ width
  key-long key lt = all-at (HasValues width) (keys_in width is_met first stages) key [] lt all-wide
