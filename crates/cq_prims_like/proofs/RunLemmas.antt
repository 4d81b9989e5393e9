-- Texts that stand one behind the other in a run, and a run of bytes that is sought in 64 of them.
use Rattle.std.proofs.Common.{◌≡◌, ℕ, ◌<◌, ◌≤◌, ◌+◌, ◌*◌, ◌^◌, Bool, false, Option, List, [], ◌∷◌, map, length, take, drop, get_or, refl, sym, ap, subst, ◌∙◌, arith, length-append}
use Rattle.std.specs.Prelude.{None, Some, IfSome}
use Rattle.std.specs.List.{All, concat, range_with_len}
use Rattle.std.specs.Str.{IsUtf8, chars}
use Rattle.std.specs.Int.RustNames.{bit_or}
use Rattle.std.specs.Int.Bits.{or_zero_r}
use lib.Lanes.{mask_l}
use Rattle.std.proofs.Math.Seq.{take-add}
use Rattle.std.proofs.lemmas.List.{take-take}
use Rattle.std.proofs.lemmas.List.Folds.{concat-append}
use Rattle.memchr.specs.Find.{FindsNeedle}
use Rattle.cq_model.specs.Like.{like}
use Rattle.cq_vectors_masks.proofs.BlockLemmas.{answer_more}
use Rattle.cq_vectors_stored.specs.LentColumns.{part_of}
use Rattle.cq_vectors_stored.proofs.LentLemmas.{length-part_of, part_of-at}
use Rattle.cq_prims_like.specs.declared.pattern.PatternForm.{PatternForm}
use Rattle.cq_prims_like.specs.Patterns.{FindsWithin, IsFormOf, PatternByRun, run_of}
use Rattle.cq_prims_like.proofs.FormLemmas.{run_nowhere}
use Rattle.cq_prims_like.proofs.PlaceLemmas.{end_within, next_start, nowhere_within, place_found, whole}

-- the pattern is a text of this form, and the run is the one that is sought
abbrev pub IsByRun : PatternForm → PatternByRun → Type 0
IsByRun form s = IsUtf8 s.pattern × IsFormOf form s.pattern × (run_of form ≡ Some s.run)

-- whether the pattern fits the text of the place
abbrev pub fits_text : List ℕ → List (List ℕ) → ℕ → Bool
fits_text pattern texts i = like (chars pattern) (chars (get_or texts i []))

-- the answers for n texts from a place on, the first in the lowest bit
abbrev pub answers_so_far : List ℕ → List (List ℕ) → ℕ → ℕ → ℕ
answers_so_far pattern texts from n = mask_l (map (fits_text pattern texts) (range_with_len from n))

-- a text that does not fit adds no bit
no_answer_more : (pattern : List ℕ) (texts : List (List ℕ)) (from i w : ℕ) → w ≡ answers_so_far pattern texts from i → fits_text pattern texts (from + i) ≡ false
    → w ≡ answers_so_far pattern texts from (i + 1)
no_answer_more pattern texts from i w is none =
    let same : bit_or w (mask_l (false ∷ []) * 2 ^ i) ≡ w = ap (bit_or w) {x = mask_l (false ∷ []) * 2 ^ i} {y = 0} (omega arith) ∙ or_zero_r w in
    sym same ∙ ap (λ (b : Bool). bit_or w (mask_l (b ∷ []) * 2 ^ i)) (sym none) ∙ answer_more (fits_text pattern texts) from i w is

-- where the texts of a part begin and end
part_ends : (texts : List (List ℕ)) (start len i : ℕ) → i ≤ len → length (concat (take (start + i) texts)) ≡ length (concat (take start texts)) + length (concat (take i (part_of texts start len)))
part_ends texts start len i within =
    ap (λ (ts : List (List ℕ)). length (concat ts)) (take-add start i texts)
    ∙ ap length (concat-append (take start texts) (take i (drop start texts)))
    ∙ length-append (concat (take start texts)) (concat (take i (drop start texts)))
    ∙ ap (λ (ts : List (List ℕ)). length (concat (take start texts)) + length (concat ts)) (sym (take-take i len (drop start texts) within))

module _ (texts : List (List ℕ)) (start i : ℕ) (there : start + 64 ≤ length texts) (lt : i < 64) where
  abbrev part : List (List ℕ)
  part = part_of texts start 64

  below : i < length part
  below = omega (arith, lt, length-part_of texts start 64 there)

  here : get_or part i [] ≡ get_or texts (start + i) []
  here = part_of-at texts start 64 i there lt

  pub begins_at : (base begin : ℕ) → base ≡ length (concat (take start texts)) → begin ≡ length (concat (take (start + i) texts)) → begin ≡ base + length (concat (take i part))
  begins_at base begin base_is begin_is = omega (arith, base_is, begin_is, part_ends texts start 64 i (omega (arith, lt)))

  pub ends_at : (base end : ℕ) → base ≡ length (concat (take start texts)) → end ≡ length (concat (take (start + i + 1) texts)) → end ≡ base + length (concat (take (i + 1) part))
  ends_at base end base_is end_is =
      omega (arith, base_is, end_is, part_ends texts start 64 (i + 1) (omega (arith, lt)), ap (λ (n : ℕ). length (concat (take n texts))) {x = start + i + 1} {y = start + (i + 1)} (omega arith))

  module _ (bytes : List ℕ) (laid : bytes ≡ concat part) where
    abbrev text : List ℕ
    text = get_or part i []

    abbrev front : List ℕ
    front = concat (take i part)

    pub ends_behind : length front + length text ≡ length (concat (take (i + 1) part))
    ends_behind = next_start part i below text bytes (length front) refl laid refl

    pub ends_inside : length (concat (take (i + 1) part)) ≤ length bytes
    ends_inside = omega (arith, ends_behind, end_within part i below text bytes (length front) refl laid refl)

    pub begins_inside : length front ≤ length bytes
    begins_inside = omega (arith, ends_behind, ends_inside)

    -- the first place in the text, where the next one in the bytes is known
    pub found_at : (run : List ℕ) (begin end : ℕ) (next place : Option ℕ) → begin ≡ length front → end ≡ length (concat (take (i + 1) part))
        → FindsWithin run begin end next place → FindsNeedle bytes run begin next → FindsNeedle (get_or texts (start + i) []) run 0 place
    found_at run begin end next place begin_is end_is within found =
        let to : end ≡ begin + length text = omega (arith, begin_is, end_is, ends_behind) in
        subst (λ (t : List ℕ). FindsNeedle t run 0 place) here
        (place_found part i below text bytes begin refl laid begin_is run next place (subst (λ (n : ℕ). FindsWithin run begin n next place) to within) found)

    -- where the next place in the bytes leaves the run no room in the text, the text has none
    nowhere_at : (run : List ℕ) (from end : ℕ) (next : Option ℕ) → from ≤ length front → end ≡ length (concat (take (i + 1) part))
        → FindsNeedle bytes run from next → IfSome next (λ place. end < place + length run) → FindsNeedle (get_or texts (start + i) []) run 0 None
    nowhere_at run from end next later end_is found late =
        let to : end ≡ length front + length text = omega (arith, end_is, ends_behind) in
        subst (λ (t : List ℕ). FindsNeedle t run 0 None) here
        (nowhere_within run front text (concat (drop (i + 1) part)) (length front) refl from next later
        (subst (λ (b : List ℕ). FindsNeedle b run from next) (whole part i below text bytes (length front) refl laid refl) found)
        (subst (λ (n : ℕ). IfSome next (λ place. n < place + length run)) to late))

    -- and it adds no bit to the answers
    pub no_answer_at : (form : PatternForm) (s : PatternByRun) → IsByRun form s → All IsUtf8 texts → (from end w : ℕ) (next : Option ℕ) → from ≤ length front → end ≡ length (concat (take (i + 1) part))
        → FindsNeedle bytes s.run from next → IfSome next (λ place. end < place + length s.run) → w ≡ answers_so_far s.pattern texts start i → w ≡ answers_so_far s.pattern texts start (i + 1)
    no_answer_at form s by_run utf8 from end w next later end_is found late is =
        let valid = utf8 (start + i) [] (omega (arith, there, lt)) in
        no_answer_more s.pattern texts start i w is
        (run_nowhere s.pattern (get_or texts (start + i) []) s.run by_run.0 valid (nowhere_at s.run from end next later end_is found late) form by_run.1 by_run.2)
