-- Truths of entries, in the places that name them.
use Rattle.std.proofs.Common.{◌≡◌, ◌∙◌, ℕ, suc, ◌<◌, Bool, true, false, Option, List, [], ◌∷◌, map, length, get_or, refl, sym, ap, ap₂, arith}
use Rattle.std.specs.List.{All, range_with_len}
use lib.Lanes.{zip2}
use Rattle.std.proofs.lemmas.List.{get_or-map}
use Rattle.cq_values.specs.Truth.{is_true, truth_of}
use Rattle.cq_values.specs.declared.truth.Truth.{Truth}
use Rattle.cq_values.specs.declared.truth.Truth.TheVariants.{True, False, Unknown}
use Rattle.cq_values.specs.declared.value.Value.{Value}
use Rattle.cq_values.specs.declared.value.Value.TheVariants.{Null, Text}
use Rattle.cq_vectors_masks.specs.Plane.{either}
use Rattle.cq_vectors_masks.specs.TruthMask.{known}
use Rattle.cq_vectors_stored.specs.LentColumns.{entry_unless}
use Rattle.cq_prims_lanes.proofs.Places.{map-all_places}
use Rattle.cq_prims_lanes.specs.UpTo.{known_of}
use Rattle.cq_prims_texts.specs.Named.{AreFalseBut, HasNoUnknown, is_one, is_unknown, named_unless, truth_named, truths_of_texts, unless_set}

-- a truth is what is known of it
known_or : (t : Truth) (flag : Bool) → known (is_true t) (either (is_unknown t) flag) ≡ unless_set t flag
known_or True true = refl
known_or True false = refl
known_or False true = refl
known_or False false = refl
known_or Unknown true = refl
known_or Unknown false = refl

known_alone : (t : Truth) (flag : Bool) → is_unknown t ≡ false → known (is_true t) flag ≡ unless_set t flag
known_alone True true e = refl
known_alone True false e = refl
known_alone False true e = refl
known_alone False false e = refl
known_alone Unknown flag e = absurd (cc e)

known_told : (b flag : Bool) → unless_set (truth_of b) flag ≡ known b flag
known_told true true = refl
known_told true false = refl
known_told false true = refl
known_told false false = refl

-- what two functions give of each number that is known is the same for all
each_known : {Y : Type 0} (count : ℕ) (f g : ℕ → Bool → Y) → ((n : ℕ) (flag : Bool) → n < count → f n flag ≡ g n flag) → (numbers : List ℕ) (flags : List Bool) → All (λ n. n < count) numbers → zip2 f numbers flags ≡ zip2 g numbers flags
each_known count f g same [] flags within = refl
each_known count f g same (n ∷ ns) [] within = refl
each_known count f g same (n ∷ ns) (flag ∷ flags) within =
    ap₂ (λ t l. t ∷ l) (same n flag (within 0 0 (omega arith))) (each_known count f g same ns flags (λ k d lt. within (suc k) d (omega (arith, lt))))

-- a function of the numbers and of what it is given of them with the flags
zip2-map_left : {A Y : Type 0} (f : A → Bool → Y) (h : ℕ → A) (numbers : List ℕ) (flags : List Bool) → zip2 f (map h numbers) flags ≡ zip2 (λ n flag. f (h n) flag) numbers flags
zip2-map_left f h [] flags = refl
zip2-map_left f h (n ∷ ns) [] = refl
zip2-map_left f h (n ∷ ns) (flag ∷ flags) = ap (λ l. f (h n) flag ∷ l) (zip2-map_left f h ns flags)

zip2-both : (h u : ℕ → Bool) (numbers : List ℕ) (flags : List Bool) → zip2 known (map h numbers) (zip2 either (map u numbers) flags) ≡ zip2 (λ n flag. known (h n) (either (u n) flag)) numbers flags
zip2-both h u [] flags = refl
zip2-both h u (n ∷ ns) [] = refl
zip2-both h u (n ∷ ns) (flag ∷ flags) = ap (λ l. known (h n) (either (u n) flag) ∷ l) (zip2-both h u ns flags)

module _ (entries : List Truth) (numbers : List ℕ) (flags : List Bool) (within : All (λ n. n < length entries) numbers) where
  abbrev named_true : ℕ → Bool
  named_true n = is_true (truth_named entries n)

  abbrev named_unknown : ℕ → Bool
  named_unknown n = is_unknown (truth_named entries n)

  -- where no entry is Unknown, what is known of each place is the truth that it names
  pub named_known : HasNoUnknown entries → length flags ≡ length numbers
      → zip2 known (map (λ i. named_true (get_or numbers i 0)) (range_with_len 0 (length flags))) flags ≡ zip2 (named_unless entries) numbers flags
  named_known none long =
      ap (λ (l : List Bool). zip2 known l flags) (map-all_places named_true 0 numbers (length flags) (sym long))
      ∙ zip2-map_left known named_true numbers flags
      ∙ each_known (length entries) (λ n flag. known (named_true n) flag) (named_unless entries) (λ n flag lt. known_alone (truth_named entries n) flag (none n lt)) numbers flags within

  -- and so it is where Unknown is not known either
  pub named_or : (not_known : List Bool) → length flags ≡ length numbers → not_known ≡ zip2 either (map (λ i. named_unknown (get_or numbers i 0)) (range_with_len 0 (length flags))) flags → length not_known ≡ length flags
      → zip2 known (map (λ i. named_true (get_or numbers i 0)) (range_with_len 0 (length not_known))) not_known ≡ zip2 (named_unless entries) numbers flags
  named_or not_known long is same =
      let unknowns = ap (λ (l : List Bool). zip2 either l flags) (map-all_places named_unknown 0 numbers (length flags) (sym long)) in
      ap (λ (l : List Bool). zip2 known l not_known) (map-all_places named_true 0 numbers (length not_known) (sym (same ∙ long)))
      ∙ ap (zip2 known (map named_true numbers)) (is ∙ unknowns)
      ∙ zip2-both named_true named_unknown numbers flags
      ∙ each_known (length entries) (λ n flag. known (named_true n) (either (named_unknown n) flag)) (named_unless entries) (λ n flag lt. known_or (truth_named entries n) flag) numbers flags within

  -- where all are False but one, a place is True whose number is that one's
  pub named_one : (one : Option ℕ) → AreFalseBut one (length entries) entries → known_of (is_one one) numbers flags ≡ zip2 (named_unless entries) numbers flags
  named_one one told =
      zip2-map_left known (is_one one) numbers flags
      ∙ each_known (length entries) (λ n flag. known (is_one one n) flag) (named_unless entries)
      (λ n flag lt. sym (known_told (is_one one n) flag) ∙ ap (λ t. unless_set t flag) (sym (told n lt))) numbers flags within

-- the truths of the entries that codes name are those of the texts there
pub named_texts : (truth : Value → Truth) → truth Null ≡ Unknown → (entries : List (List ℕ)) (codes : List ℕ) (flags : List Bool) → All (λ code. code < length entries) codes
    → zip2 (named_unless (truths_of_texts truth entries)) codes flags ≡ map truth (zip2 (entry_unless entries) codes flags)
named_texts truth unknown entries codes flags within =
    each_known (length entries) (named_unless (truths_of_texts truth entries)) (λ code flag. truth (entry_unless entries code flag)) at codes flags within ∙ whole codes flags
  where
    at : (code : ℕ) (flag : Bool) → code < length entries → named_unless (truths_of_texts truth entries) code flag ≡ truth (entry_unless entries code flag)
    at code true lt = sym unknown
    at code false lt = get_or-map (λ text. truth (Text text)) entries code [] Unknown lt

    whole : (cs : List ℕ) (fs : List Bool) → zip2 (λ code flag. truth (entry_unless entries code flag)) cs fs ≡ map truth (zip2 (entry_unless entries) cs fs)
    whole [] fs = refl
    whole (c ∷ cs) [] = refl
    whole (c ∷ cs) (f ∷ fs) = ap (λ l. truth (entry_unless entries c f) ∷ l) (whole cs fs)
