-- What patterns fit that have other signs around a run of ordinary ones.
use Rattle.std.proofs.Common.{◌≡◌, ℕ, ◌<◌, ◌≤◌, ◌+◌, ◌-◌, Bool, true, false, not, eqb, ◌&&◌, List, [], ◌∷◌, ◌++◌, length, take, drop, get_or, refl, sym, ap, ap₂, subst, ◌∙◌, arith, append-nil, length-append, append_assoc, eqb-true, eq-eqb, ◌||◌}
use Rattle.std.specs.Prelude.{Option, Some, None, MatchOption}
use Rattle.std.specs.Str.{chars, IsUtf8, IsCharBoundary}
use Rattle.std.proofs.lemmas.Bool.Decides.{same_from_decides}
use Rattle.std.proofs.lemmas.List.{take-append-drop, length-take-le, append_cancel_left}
use Rattle.std.proofs.lemmas.Str.{chars-nil, encodes-chars, encodes-append, encodes_same, chars-append, IsUtf8-take, IsUtf8-drop, IsCharBoundary-from_drop, IsCharBoundary-after_ascii}
use Rattle.std.proofs.Math.Seq.{take-append_seam, drop-append_seam}
use lib.Utf8.{encodes, encode}
use Rattle.memchr.specs.Find.{FindsNeedle, OccursAt, Nowhere}
use Rattle.memchr.proofs.lemmas.MatchLemmas.{OccursAt-split, OccursAt-from_part}
use Rattle.cq_model.specs.Like.{percent, underscore, Fits, like}
use Rattle.cq_model_eval.proofs.Likes.{like_decides}
use Rattle.cq_prims_like.specs.declared.around.Around.{Around as RunAndSigns}
use Rattle.cq_prims_like.specs.Patterns.{signs_of, IsAround, IsAroundOf, FitsAt, fits_around, stands_for, are_single}
use Rattle.cq_prims_like.proofs.Fitting.{and_left, and_right, front_taken, front_given, seam_begins, any_fits, chars-percent}
use Rattle.cq_prims_like.proofs.PieceLemmas.{rest_valid}
use Rattle.std.proofs.lemmas.Bool.{not-true}
use Rattle.cq_model_bags.proofs.Totals.{by_test}

-- a text that fits signs and more signs is a text that fits the first ones, and one that fits the others
fits_split : (signs more text : List ℕ) → Fits (signs ++ more) text → (front : List ℕ) × (rest : List ℕ) × (text ≡ front ++ rest) × Fits signs front × Fits more rest
fits_split [] more text h = ([], text, refl, refl, h)
fits_split (p ∷ signs) more text h =
    let found = fits_split signs more h.1 h.4 in
    (h.0 ++ found.0, found.1, h.2 ∙ ap (λ l. h.0 ++ l) found.2 ∙ sym (append_assoc h.0 found.0 found.1), (h.0, found.0, refl, h.3, found.3), found.4)

fits_joined : (signs more front rest : List ℕ) → Fits signs front → Fits more rest → Fits (signs ++ more) (front ++ rest)
fits_joined [] more front rest h k = subst (Fits more) (sym (ap (λ (l : List ℕ). l ++ rest) h)) k
fits_joined (p ∷ signs) more front rest h k =
    (h.0, h.1 ++ rest, ap (λ l. l ++ rest) h.2 ∙ append_assoc h.0 h.1 rest, h.3, fits_joined signs more h.1 rest h.4 k)

-- ---- the last sign of some that stand for one character each
-- two lists that end by one element each are the same before it
same_ends : (front rest : List ℕ) (a b : ℕ) → front ++ a ∷ [] ≡ rest ++ b ∷ [] → (front ≡ rest) × (a ≡ b)
same_ends [] [] a b e = (refl, cc e)
same_ends [] (y ∷ ys) a b e = absurd (omega (arith, ap {B = ℕ} length e, length-append ys (b ∷ [])))
same_ends (x ∷ xs) [] a b e = absurd (omega (arith, ap {B = ℕ} length e, length-append xs (a ∷ [])))
same_ends (x ∷ xs) (y ∷ ys) a b e =
    let more = same_ends xs ys a b (ap (drop 1) e) in
    (ap₂ (λ (n : ℕ) (l : List ℕ). n ∷ l) (ap (λ l. get_or l 0 0) e) more.0, more.1)

one_of_one : (l : List ℕ) → length l ≡ 1 → (x : ℕ) × (l ≡ x ∷ [])
one_of_one [] e = absurd (omega arith)
one_of_one (x ∷ []) e = (x, refl)
one_of_one (x ∷ y ∷ l) e = absurd (omega arith)

one_letter : (sign : ℕ) → not (eqb sign percent) ≡ true → (letters : List ℕ) → Fits (sign ∷ []) letters → (letter : ℕ) × (letters ≡ letter ∷ []) × (stands_for sign letter ≡ true)
one_letter sign single letters h =
    let many : eqb sign percent ≡ false = not-true (eqb sign percent) single in
    let whole : letters ≡ h.0 = h.2 ∙ ap (λ l. h.0 ++ l) h.4 ∙ append-nil h.0 in
    by_test (eqb sign underscore)
    (λ one. let found = one_of_one h.0 (rw (many, one) at h.3) in (found.0, whole ∙ found.1, ap (λ b. b || eqb found.0 sign) one))
    (λ one. (sign, whole ∙ (rw (many, one) at h.3), ap₂ (λ (a b : Bool). a || b) one (eq-eqb sign sign refl)))

letter_fits : (sign letter : ℕ) → not (eqb sign percent) ≡ true → stands_for sign letter ≡ true → Fits (sign ∷ []) (letter ∷ [])
letter_fits sign letter single met =
    let many : eqb sign percent ≡ false = not-true (eqb sign percent) single in
    by_test (eqb sign underscore)
    (λ one. (letter ∷ [], [], refl, rw (many, one) (omega arith), refl))
    (λ one. (letter ∷ [], [], refl, rw (many, one) (ap (λ (n : ℕ). n ∷ []) (eqb-true letter sign (sym (ap (λ b. b || eqb letter sign) one) ∙ met))), refl))

single_split : (more : List ℕ) (sign : ℕ) → are_single (more ++ sign ∷ []) ≡ true → (are_single more ≡ true) × (not (eqb sign percent) ≡ true)
single_split [] sign e = (refl, and_left (not (eqb sign percent)) true e)
single_split (p ∷ more) sign e =
    let rest = single_split more sign (and_right (not (eqb p percent)) _ e) in
    (ap₂ (λ (a b : Bool). a && b) (and_left (not (eqb p percent)) _ e) rest.0, rest.1)

module _ (signs more : List ℕ) (sign : ℕ) (is : signs ≡ more ++ sign ∷ []) (single : are_single signs ≡ true) where
  parts_single : (are_single more ≡ true) × (not (eqb sign percent) ≡ true)
  parts_single = single_split more sign (ap are_single (sym is) ∙ single)

  pub single_left : are_single more ≡ true
  single_left = parts_single.0

  ends_met : (text : List ℕ) → Fits (percent ∷ signs) text → (front : List ℕ) × (letter : ℕ) × (text ≡ front ++ letter ∷ []) × Fits (percent ∷ more) front × (stands_for sign letter ≡ true)
  ends_met text h =
      let parts = fits_split (percent ∷ more) (sign ∷ []) text (subst (λ s. Fits (percent ∷ s) text) is h) in
      let one = one_letter sign parts_single.1 parts.1 parts.4 in
      (parts.0, one.0, parts.2 ∙ ap (λ l. parts.0 ++ l) one.1, parts.3, one.2)

  pub like_missing : (text : List ℕ) → text ≡ [] → like (percent ∷ signs) text ≡ false
  like_missing text none = by_test (like (percent ∷ signs) text)
      (λ h. let found = ends_met text ((like_decides (percent ∷ signs) text).0 h) in
      absurd (omega (arith, ap {B = ℕ} length (sym none ∙ found.2), length-append found.0 (found.1 ∷ []))))
      (λ h. h)

  module _ (text before : List ℕ) (letter : ℕ) (ends : text ≡ before ++ letter ∷ []) where
    met : Fits (percent ∷ signs) text → Fits (percent ∷ more) before × (stands_for sign letter ≡ true)
    met h =
        let found = ends_met text h in
        let same = same_ends before found.0 letter found.1 (sym ends ∙ found.2) in
        (subst (Fits (percent ∷ more)) (sym same.0) found.3, ap (stands_for sign) same.1 ∙ found.4)

    given : stands_for sign letter ≡ true → Fits (percent ∷ more) before → Fits (percent ∷ signs) text
    given does h =
        subst (λ s. Fits (percent ∷ s) text) (sym is) (subst (Fits (percent ∷ (more ++ sign ∷ []))) (sym ends)
        (fits_joined (percent ∷ more) (sign ∷ []) before (letter ∷ []) h (letter_fits sign letter parts_single.1 does)))

    pub like_met : stands_for sign letter ≡ true → like (percent ∷ more) before ≡ like (percent ∷ signs) text
    like_met does =
        let long = like_decides (percent ∷ signs) text in
        same_from_decides (like (percent ∷ more) before) (like (percent ∷ signs) text) (like_decides (percent ∷ more) before)
        (λ h. (met (long.0 h)).0, λ h. long.1 (given does h))

    pub like_not_met : stands_for sign letter ≡ false → like (percent ∷ signs) text ≡ false
    like_not_met fails = by_test (like (percent ∷ signs) text)
        (λ h. let does = (met ((like_decides (percent ∷ signs) text).0 h)).1 in absurd (cc))
        (λ h. h)

pub like_any : (signs text : List ℕ) → signs ≡ [] → like (percent ∷ signs) text ≡ true
like_any signs text none = ap (λ (s : List ℕ). like (percent ∷ s) text) none ∙ (like_decides (percent ∷ []) text).1 (any_fits text)

-- ---- the last character of a text
pub no_chars : (text : List ℕ) → length text ≡ 0 → chars text ≡ []
no_chars [] e = chars-nil
no_chars (b ∷ bs) e = absurd (omega arith)

pub chars_last : (letter : ℕ) (front text : List ℕ) → IsUtf8 front → IsUtf8 text → text ≡ front ++ encode letter → chars text ≡ chars front ++ letter ∷ []
chars_last letter front text u valid e =
    encodes_same (chars text) (chars front ++ letter ∷ [])
    (encodes-chars text valid ∙ e ∙ ap₂ (λ (l r : List ℕ). l ++ r) (sym (encodes-chars front u)) (sym (append-nil (encode letter))) ∙ sym (encodes-append (chars front) (letter ∷ [])))

-- ---- a run in a text
seam_at : (bs : List ℕ) → 0 < length bs → IsUtf8 bs → (front rest text : List ℕ) → text ≡ front ++ (bs ++ rest) → IsCharBoundary text (length front)
seam_at [] long u front rest text e = absurd (omega arith)
seam_at (b ∷ bs) long u front rest text e = seam_begins b bs u front rest text e

-- a run that stands in a text begins and ends where characters do
pub record CutsAt (run text : List ℕ) (place : ℕ) : Type 0 where
  pub begins : IsCharBoundary text place
  pub ends : IsCharBoundary text (place + length run)
  pub signs : chars text ≡ chars (take place text) ++ (chars run ++ chars (drop (place + length run) text))

module _ (run text : List ℕ) (some : 0 < length run) (u : IsUtf8 run) (valid : IsUtf8 text) where
  pub run_cuts : (place : ℕ) → OccursAt text run place → CutsAt run text place
  run_cuts place there =
      let behind = drop (place + length run) text in
      let split : text ≡ take place text ++ (run ++ behind) = sym (take-append-drop place text) ∙ ap (λ l. take place text ++ l) (OccursAt-split text run place there) in
      let room = there.fits in
      let far : length (take place text) ≡ place = length-take-le place text (omega (arith, room)) in
      let at : IsCharBoundary text place = subst (IsCharBoundary text) far (seam_at run some u (take place text) behind text split) in
      let front = IsUtf8-take text place valid at in
      let both : IsUtf8 (run ++ behind) = subst IsUtf8 (OccursAt-split text run place there) (IsUtf8-drop text place valid at) in
      record {
        begins = at;
        ends = IsCharBoundary-from_drop text (place + length run) room (rest_valid run behind u both);
        signs = ap chars split ∙ chars-append (take place text) (run ++ behind) front ∙ ap (λ l. chars (take place text) ++ l) (chars-append run behind u);
      }

-- how many places there are from this one on
abbrev pub places_left : Option ℕ → ℕ → ℕ
places_left None len = 0
places_left (Some place) len = len + 1 - place

-- ---- a text and a pattern of signs around a run
module _ (around : RunAndSigns) (known : IsAround around) (text : List ℕ) (valid : IsUtf8 text) where
  abbrev pub run : List ℕ
  run = around.run

  pub fits_there : (place : ℕ) → FitsAt around text place → like (percent ∷ signs_of around) (chars text) ≡ true
  fits_there place at =
      let cut = run_cuts run text known.some known.text valid place at.0 in
      let before = chars (take place text) in
      let behind = chars (drop (place + length run) text) in
      let front = (like_decides (percent ∷ chars around.front.now) before).0 (and_left (like (percent ∷ chars around.front.now) before) _ at.1) in
      let rest = (like_decides (chars around.rest.now) behind).0 (and_right (like (percent ∷ chars around.front.now) before) _ at.1) in
      let all = fits_joined (percent ∷ chars around.front.now) (chars run ++ chars around.rest.now) before (chars run ++ behind) front (front_given (chars run) (chars around.rest.now) behind known.ordinary rest) in
      (like_decides (percent ∷ signs_of around) (chars text)).1 (subst (Fits (percent ∷ signs_of around)) (sym cut.signs) all)

  pub place_of_fit : like (percent ∷ signs_of around) (chars text) ≡ true → (place : ℕ) × FitsAt around text place
  place_of_fit does =
      let parts = fits_split (percent ∷ chars around.front.now) (chars run ++ chars around.rest.now) (chars text) ((like_decides (percent ∷ signs_of around) (chars text)).0 does) in
      let found = front_taken (chars run) (chars around.rest.now) parts.1 known.ordinary parts.4 in
      let before = encodes parts.0 in
      let place = length before in
      let bytes : text ≡ before ++ (run ++ encodes found.0) =
      sym (encodes-chars text valid) ∙ ap encodes (parts.2 ∙ ap (λ l. parts.0 ++ l) found.1) ∙ encodes-append parts.0 (chars run ++ found.0)
      ∙ ap (λ l. before ++ l) (encodes-append (chars run) found.0 ∙ ap (λ l. l ++ encodes found.0) (encodes-chars run known.text)) in
      let long = ap {B = ℕ} length bytes in
      let room : place + length run ≤ length text = omega (arith, long, length-append before (run ++ encodes found.0), length-append run (encodes found.0)) in
      let part : take (length run) (drop place text) ≡ run =
      ap (λ l. take (length run) (drop place l)) bytes ∙ ap (take (length run)) (drop-append_seam before (run ++ encodes found.0)) ∙ take-append_seam run (encodes found.0) in
      let there = OccursAt-from_part text run place room part in
      let cut = run_cuts run text known.some known.text valid place there in
      let first : take place text ≡ before = ap (take place) bytes ∙ take-append_seam before (run ++ encodes found.0) in
      let last : drop (place + length run) text ≡ encodes found.0 =
      append_cancel_left run (drop (place + length run) text) (encodes found.0) (sym (OccursAt-split text run place there) ∙ ap (drop place) bytes ∙ drop-append_seam before (run ++ encodes found.0)) in
      let front : chars (take place text) ≡ parts.0 = encodes_same (chars (take place text)) parts.0 (encodes-chars (take place text) (IsUtf8-take text place valid cut.begins) ∙ first) in
      let rest : chars (drop (place + length run) text) ≡ found.0 =
      encodes_same (chars (drop (place + length run) text)) found.0 (encodes-chars (drop (place + length run) text) (IsUtf8-drop text (place + length run) valid cut.ends) ∙ last) in
      let front_fits = (like_decides (percent ∷ chars around.front.now) (chars (take place text))).1 (subst (Fits (percent ∷ chars around.front.now)) (sym front) parts.3) in
      let rest_fits = (like_decides (chars around.rest.now) (chars (drop (place + length run) text))).1 (subst (Fits (chars around.rest.now)) (sym rest) found.2) in
      (place, (there, ap₂ (λ (a b : Bool). a && b) front_fits rest_fits))

  -- where it fits at no place, the pattern does not fit
  pub fits_nowhere : Nowhere (FitsAt around text) 0 (length text + 1) → like (percent ∷ signs_of around) (chars text) ≡ false
  fits_nowhere none = by_test (like (percent ∷ signs_of around) (chars text))
      (λ does. let at = place_of_fit does in let room = at.1.0.fits in absurd (none at.0 (omega arith) (omega (arith, room)) at.1))
      (λ fails. fails)

  -- ---- the places one after the other
  -- it fits at no place before the next one of the run
  abbrev pub Left : Option ℕ → Type 0
  Left next = MatchOption next (Nowhere (FitsAt around text) 0 (length text + 1)) (λ place. OccursAt text around.run place × Nowhere (FitsAt around text) 0 place)

  pub left_from : (from : ℕ) (next : Option ℕ) → Nowhere (FitsAt around text) 0 from → FindsNeedle text around.run from next → Left next
  left_from from None done found =
      λ place low below at. let before : place < from → ⊥ = λ lt. done place low lt at in found place (omega (arith, before)) below at.0
  left_from from (Some k) done found = (
    found.1,
    λ place low below at. let before : place < from → ⊥ = λ lt. done place low lt at in found.0.before place (omega (arith, before)) below at.0,
  )

  pub done_more : (place : ℕ) → Nowhere (FitsAt around text) 0 place → fits_around around text place ≡ false → Nowhere (FitsAt around text) 0 (place + 1)
  done_more place done fails p low below at =
      let before : p < place → ⊥ = λ lt. done p low lt at in
      let same : p ≡ place = omega (arith, before, below) in
      let does : fits_around around text place ≡ true = ap (fits_around around text) (sym same) ∙ at.1 in
      absurd (cc)

-- ---- how the parts are found
pub is_around_of : (pattern tail : List ℕ) (around : RunAndSigns) → IsUtf8 pattern → IsAround around → pattern ≡ percent ∷ tail
    → tail ≡ around.front.now ++ (around.run ++ around.rest.now) → IsAroundOf around pattern
is_around_of pattern tail around valid known starts split =
    let run = around.run in
    let front = around.front.now in
    let first : get_or pattern 0 0 ≡ percent = ap (λ l. get_or l 0 0) starts in
    let long : 0 < length pattern = omega (arith, ap {B = ℕ} length starts) in
    let behind : IsUtf8 tail = subst IsUtf8 (ap (drop 1) starts) (IsUtf8-drop pattern 1 valid (IsCharBoundary-after_ascii pattern 0 valid long (omega (arith, first)))) in
    let before : IsUtf8 front =
    subst IsUtf8 (ap (take (length front)) split ∙ take-append_seam front (run ++ around.rest.now)) (IsUtf8-take tail (length front) behind (seam_at run known.some known.text front around.rest.now tail split)) in
    let signs : chars tail ≡ signs_of around = ap chars split ∙ chars-append front (run ++ around.rest.now) before ∙ ap (λ l. chars front ++ l) (chars-append run around.rest.now known.text) in
    (ap chars starts ∙ chars-percent tail ∙ ap (λ l. percent ∷ l) signs, known)
