-- Parts of runs: each place by the answer of its text.
use Rattle.std.proofs.Common.{◌≡◌, ℕ, ◌+◌, ◌<◌, ◌≤◌, Bool, true, false, List, [], ◌∷◌, map, length, get_or, refl, sym, ap, ap₂, ◌∙◌, arith}
use Rattle.std.specs.List.{range_with_len}
use Rattle.std.specs.Str.{chars}
use Rattle.std.proofs.lemmas.List.{get_or-map, length-map}
use Rattle.std.proofs.lemmas.List.FromFn.{get_or-map-range_with_len, length-map-range_with_len}
use lib.Lanes.{zip2}
use lib.Seq.{ext_get_or}
use Rattle.cq_vectors_stored.proofs.LentLemmas.{length-part_of, part_of-at}
use Rattle.cq_values.specs.declared.value.Value.{Value}
use Rattle.cq_model.specs.Condition.{liked}
use Rattle.cq_model.specs.Like.{like}
use Rattle.cq_vectors_stored.specs.Columns.{text_unless}
use Rattle.cq_vectors_stored.specs.LentColumns.{part_of}
use Rattle.cq_vectors_masks.specs.TruthMask.{known}

module _ {A : Type 0} {B : Type 0} (value : A → Bool → Value) (h : A → Bool) where
  -- answers that are right for each part give the truths of the values
  each_place : (f : Value → B) (known_as : Bool → Bool → B) → ((x : A) (flag : Bool) → known_as (h x) flag ≡ f (value x flag)) → (xs : List A) (flags : List Bool) → length flags ≡ length xs
      → zip2 known_as (map h xs) flags ≡ map f (zip2 value xs flags)
  each_place f known_as right [] [] long = refl
  each_place f known_as right [] (b ∷ flags) long = absurd (omega arith)
  each_place f known_as right (x ∷ xs) [] long = absurd (omega arith)
  each_place f known_as right (x ∷ xs) (b ∷ flags) long = ap₂ (λ t l. t ∷ l) (right x b) (each_place f known_as right xs flags (omega arith))

liked_text : (pattern t : List ℕ) (flag : Bool) → known (like (chars pattern) (chars t)) flag ≡ liked (text_unless t flag) pattern
liked_text pattern t true = refl
liked_text pattern t false = refl

module _ (texts : List (List ℕ)) (start : ℕ) (flags : List Bool) (there : start + length flags ≤ length texts) (pattern : List ℕ) where
  abbrev fits : List ℕ → Bool
  fits t = like (chars pattern) (chars t)

  -- the answers of the places are those of the texts of the part
  of_part : map (λ i. fits (get_or texts (start + i) [])) (range_with_len 0 (length flags)) ≡ map fits (part_of texts start (length flags))
  of_part =
      let part = part_of texts start (length flags) in
      let answer = λ (i : ℕ). fits (get_or texts (start + i) []) in
      let long : length part ≡ length flags = length-part_of texts start (length flags) there in
      let many : length (map answer (range_with_len 0 (length flags))) ≡ length flags = length-map-range_with_len answer 0 (length flags) in
      ext_get_or false _ _ (many ∙ sym long ∙ sym (length-map part fits)) (λ i lt.
      let within : i < length flags = omega (arith, many) in
      get_or-map-range_with_len answer 0 (length flags) i i false within (omega arith)
      ∙ ap fits (sym (part_of-at texts start (length flags) i there within))
      ∙ sym (get_or-map fits part i [] false (omega (arith, within, long))))

  -- the answers of the texts of a part, not known where NULL stands, are the truths of LIKE
  pub liked_part : zip2 known (map (λ i. fits (get_or texts (start + i) [])) (range_with_len 0 (length flags))) flags ≡ map (λ v. liked v pattern) (zip2 text_unless (part_of texts start (length flags)) flags)
  liked_part =
      ap (λ (l : List Bool). zip2 known l flags) of_part
      ∙ each_place text_unless fits (λ v. liked v pattern) known (liked_text pattern) (part_of texts start (length flags)) flags (sym (length-part_of texts start (length flags) there))

-- the answers for the texts of a run from a text on are those from its place on, where the first text has a place of its own
pub places_of_run : (test : List ℕ → Bool) (texts : List (List ℕ)) (start from n : ℕ)
    → map (λ i. test (get_or texts i [])) (range_with_len (start + from) n) ≡ map (λ i. test (get_or texts (start + i) [])) (range_with_len from n)
places_of_run test texts start from n =
    let whole = λ (i : ℕ). test (get_or texts i []) in
    let behind = λ (i : ℕ). test (get_or texts (start + i) []) in
    ext_get_or false _ _ (length-map-range_with_len whole (start + from) n ∙ sym (length-map-range_with_len behind from n)) (λ i lt.
    let within : i < n = omega (arith, lt, length-map-range_with_len whole (start + from) n) in
    get_or-map-range_with_len whole (start + from) n i (start + (from + i)) false within (omega arith)
    ∙ sym (get_or-map-range_with_len behind from n i (from + i) false within refl))
