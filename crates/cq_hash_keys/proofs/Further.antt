-- Stages one behind the other, as columns are taken in.
use Rattle.std.proofs.Common.{◌≡◌, ℕ, List, [], ◌∷◌, ◌++◌, map, take, length, get_or, refl, sym, ◌∙◌, ap, ap₂, subst, arith}
use Rattle.std.specs.List.{AllByRecursion, IsDistinct, zip}
use Rattle.std.proofs.lemmas.List.{length-map}
use Rattle.cq_values.specs.declared.value.Value.{Value}
use Rattle.cq_values.specs.Keys.{same_row-refl, same_row-same}
use Rattle.cq_values.specs.Order.{same_row}
use Rattle.cq_values.specs.Value.{Row, column}
use Rattle.cq_hash_keys.specs.declared.stage.Stage.{Stage}
use Rattle.cq_hash_keys_values.specs.Met.{with_new}
use Rattle.cq_hash_keys.specs.Stages.{AddsColumn, AddsPart, AreStages, GoesOn, IsStage, IsWithinBoth, StartsFrom, StaysStages, behind, joined, longer}
use Rattle.cq_hash_keys_values.proofs.Growing.{met-more, new-once}
use Rattle.cq_hash_keys.proofs.Zips.{length-zip}
use Rattle.cq_hash_keys.proofs.Longer.{all-front, joined-rows, longer-more, named-keys, same-length, stage-more, zip-within}

-- keys that more were added to
module _ (keys more rows : List Row) (stages : List Stage) (numbers : List ℕ) (start : StartsFrom keys more rows stages numbers) where
  pub more-once : IsDistinct same_row more
  more-once = subst (IsDistinct same_row) (sym start.adds.made) (new-once same_row [] same_row-same same_row-refl keys rows start.once)

  pub more-behind : (extra : List Row) × (more ≡ keys ++ extra)
  more-behind = let m = met-more same_row keys rows in (m.0, start.adds.made ∙ m.1)

-- stages for keys are stages where more keys stand behind
pub rest-stays : (keys extra : List Row) (stages : List Stage) → IsDistinct same_row (keys ++ extra) → AreStages keys stages → AreStages (keys ++ extra) stages
rest-stays keys extra [] once are = tt
rest-stays keys extra (stage ∷ stages) once are = (
  stage-more keys (keys ++ extra) stage stage [] [] once extra refl are.0 refl refl tt,
  subst (λ (ks : List Row). AreStages ks stages) (sym (longer-more keys (keys ++ extra) stage stage [] [] once extra refl are.0 refl refl tt)) are.1,
)

module _ (keys more rows : List Row) (old new : Stage) (rest : List Stage) (values : List Value) (firsts : List ℕ) (start : StartsFrom keys more rows (old ∷ rest) firsts) where
  once : IsDistinct same_row more
  once = more-once keys more rows (old ∷ rest) firsts start

  abbrev extra : List Row
  extra = (more-behind keys more rows (old ∷ rest) firsts start).0

  is_more : more ≡ keys ++ extra
  is_more = (more-behind keys more rows (old ∷ rest) firsts start).1

  -- ---- a part of a column
  module _ (part : AddsPart old values firsts new) where
    abbrev pairs : List (ℕ × ℕ)
    pairs = take part.pairs_more.0 (zip firsts part.seconds)

    within : AllByRecursion (IsWithinBoth (length more) (length new.values)) pairs
    within =
        all-front (IsWithinBoth (length more) (length new.values)) part.pairs_more.0 (zip firsts part.seconds)
        (zip-within more new.values firsts part.seconds start.adds.told.within part.within)

    pub part-stage : IsStage more new
    part-stage = stage-more keys more old new (take part.values_more.0 values) pairs once extra is_more start.are.0 part.values_more.1 part.pairs_more.1 within

    part-longer : longer more new ≡ with_new same_row (longer keys old) (map (joined more new.values) pairs)
    part-longer = longer-more keys more old new (take part.values_more.0 values) pairs once extra is_more start.are.0 part.values_more.1 part.pairs_more.1 within

    -- leaves stages
    pub part-stays : AreStages more (new ∷ rest)
    part-stays =
        let m = met-more same_row (longer keys old) (map (joined more new.values) pairs) in
        let is : longer more new ≡ longer keys old ++ m.0 = part-longer ∙ m.1 in
        let all = subst (IsDistinct same_row) is part-stage.once in
        (part-stage, subst (λ (ks : List Row). AreStages ks rest) (sym is) (rest-stays (longer keys old) m.0 rest all start.are.1))

  -- ---- a whole column
  module _ (numbers : List ℕ) (adds : AddsColumn old values firsts new numbers) where
    all-within : AllByRecursion (IsWithinBoth (length more) (length new.values)) (zip firsts adds.seconds)
    all-within = zip-within more new.values firsts adds.seconds start.adds.told.within adds.values_named.within

    rows-are : map (joined more new.values) (zip firsts adds.seconds) ≡ behind rows values
    rows-are = joined-rows more new.values firsts adds.seconds ∙ ap₂ behind start.adds.told.named adds.values_named.named

    -- the rows with the column are added to what the next stage goes on from
    pub next-start : StartsFrom (longer keys old) (longer more new) (behind rows values) rest numbers
    next-start = record {
      once = start.are.0.once;
      are = start.are.1;
      adds = record {
        made =
            longer-more keys more old new values (zip firsts adds.seconds) once extra is_more start.are.0 adds.values_more adds.pairs_more all-within
            ∙ ap (with_new same_row (longer keys old)) rows-are;
        told = record {
          named =
              named-keys more new.values new.pairs numbers adds.pairs_named.within
              ∙ ap (map (joined more new.values)) adds.pairs_named.named ∙ rows-are;
          within = same-length (joined more new.values) new.pairs numbers adds.pairs_named.within;
        };
      };
    }

-- ---- stages one behind the other
-- with no stage nothing is added to the rows
pub goes-none : (stages : List Stage) (columns : List (List Value)) (numbers : List ℕ) → length stages ≡ 0 → length columns ≡ 0 → GoesOn stages columns numbers stages numbers
goes-none [] [] numbers a b = λ keys more rows start. start.adds
goes-none [] (c ∷ columns) numbers a b = absurd (omega (arith, b))
goes-none (s ∷ stages) columns numbers a b = absurd (omega (arith, a))

pub stays-none : (stages : List Stage) (numbers : List ℕ) → length stages ≡ 0 → StaysStages stages numbers stages
stays-none [] numbers a = λ keys more rows start. tt
stays-none (s ∷ stages) numbers a = absurd (omega (arith, a))

module _ (old new : Stage) (rest rest_new : List Stage) (values : List Value) (columns : List (List Value)) (firsts numbers last : List ℕ) where
  -- one stage, and then the others
  pub goes-more : AddsColumn old values firsts new numbers → GoesOn rest columns numbers rest_new last → GoesOn (old ∷ rest) (values ∷ columns) firsts (new ∷ rest_new) last
  goes-more adds others = λ keys more rows start.
      others (longer keys old) (longer more new) (behind rows values) (next-start keys more rows old new rest values firsts start numbers adds)

  pub stays-more : AddsColumn old values firsts new numbers → AddsPart old values firsts new → StaysStages rest numbers rest_new → StaysStages (old ∷ rest) firsts (new ∷ rest_new)
  stays-more adds part others = λ keys more rows start. (
    part-stage keys more rows old new rest values firsts start part,
    others (longer keys old) (longer more new) (behind rows values) (next-start keys more rows old new rest values firsts start numbers adds),
  )

pub stays-part : (old new : Stage) (rest : List Stage) (values : List Value) (firsts : List ℕ) → AddsPart old values firsts new → StaysStages (old ∷ rest) firsts (new ∷ rest)
stays-part old new rest values firsts part = λ keys more rows start. part-stays keys more rows old new rest values firsts start part

-- as many numbers are told as there are values
pub as-many : (old new : Stage) (values : List Value) (firsts numbers : List ℕ) → length firsts ≡ length values → AddsColumn old values firsts new numbers → length numbers ≡ length firsts
as-many old new values firsts numbers same adds =
    let seconds : length adds.seconds ≡ length values = sym (length-map adds.seconds (column new.values)) ∙ ap (λ (vs : List Value). length vs) adds.values_named.named in
    sym (length-map numbers (λ n. get_or new.pairs n (0, 0))) ∙ ap (λ (ps : List (ℕ × ℕ)). length ps) adds.pairs_named.named ∙ length-zip firsts adds.seconds (same ∙ sym seconds)
