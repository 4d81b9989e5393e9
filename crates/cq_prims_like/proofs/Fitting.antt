-- What patterns fit whose signs mostly stand for themselves: on characters, and so on bytes.
use Rattle.std.proofs.Common.{◌≡◌, ℕ, ◌<◌, ◌≤◌, ◌+◌, ◌-◌, Bool, true, false, not, ◌&&◌, eqb, List, [], ◌∷◌, ◌++◌, length, take, drop, get_or, zero, suc, length-append, refl, sym, ap, ap₂, subst, ◌∙◌, arith, append-nil, append_assoc}
use Rattle.std.specs.List.{starts_with, ends_with}
use Rattle.std.specs.Prelude.{Option, Some, None, is_some}
use Rattle.std.specs.Str.{bytes_eq}
use Rattle.std.proofs.lemmas.Bool.Decides.{Decides-eqb, same_from_decides}
use Rattle.std.proofs.lemmas.Slice.Eq.{bytes_eq-Decides, starts_is, ends_is}
use Rattle.std.proofs.lemmas.List.{take-append-drop}
use Rattle.memchr.specs.Find.{FindsNeedle}
use Rattle.memchr.proofs.lemmas.MatchLemmas.{OccursAt-split, OccursAt-from_part}
use Rattle.std.specs.Bool.{Decides}
use Rattle.std.specs.Str.{chars, IsUtf8, IsCharBoundary}
use Rattle.std.proofs.lemmas.Str.{chars-nil, IsUtf8-from_ascii, encodes-chars, encodes-append, chars-append, IsUtf8-take, IsUtf8-drop, IsCharBoundary-at_seam, IsCharBoundary-start, IsCharBoundary-after_ascii}
use lib.Utf8.{encodes}
use Rattle.std.proofs.Math.Seq.{take-append_seam, drop-append_seam, get_or-append_seam}
use Rattle.cq_model.specs.Like.{percent, underscore, StandsFor, Fits, like}
use Rattle.cq_model_eval.proofs.Likes.{like_decides}
use Rattle.cq_prims_like.specs.Patterns.{IsRunOf, stands_for_itself, is_ordinary}
use Rattle.std.proofs.lemmas.Bool.{not-true}

pub and_left : (a b : Bool) → (a && b) ≡ true → a ≡ true
and_left true b e = refl
and_left false b e = absurd (cc)

pub and_right : (a b : Bool) → (a && b) ≡ true → b ≡ true
and_right true b e = e
and_right false b e = absurd (cc)

-- an ordinary sign stands for itself alone
itself : (p : ℕ) (front : List ℕ) → stands_for_itself p ≡ true → StandsFor p front → front ≡ p ∷ []
itself p front o s =
    let many : eqb p percent ≡ false = not-true (eqb p percent) (and_left (not (eqb p percent)) _ o) in
    let one : eqb p underscore ≡ false = not-true (eqb p underscore) (and_right (not (eqb p percent)) _ o) in
    rw (many, one) at s

stands : (p : ℕ) → stands_for_itself p ≡ true → StandsFor p (p ∷ [])
stands p o =
    let many : eqb p percent ≡ false = not-true (eqb p percent) (and_left (not (eqb p percent)) _ o) in
    let one : eqb p underscore ≡ false = not-true (eqb p underscore) (and_right (not (eqb p percent)) _ o) in
    rw (many, one) refl

-- ordinary signs take themselves off the front of a text, and what is left of the pattern fits the rest
pub front_taken : (signs more text : List ℕ) → is_ordinary signs ≡ true → Fits (signs ++ more) text → (rest : List ℕ) × (text ≡ signs ++ rest) × Fits more rest
front_taken [] more text o h = (text, refl, h)
front_taken (p ∷ signs) more text o h =
    let found = front_taken signs more h.1 (and_right (stands_for_itself p) _ o) h.4 in
    (found.0, h.2 ∙ ap₂ (λ (f r : List ℕ). f ++ r) (itself p h.0 (and_left (stands_for_itself p) _ o) h.3) found.1, found.2)

pub front_given : (signs more rest : List ℕ) → is_ordinary signs ≡ true → Fits more rest → Fits (signs ++ more) (signs ++ rest)
front_given [] more rest o h = h
front_given (p ∷ signs) more rest o h = (p ∷ [], signs ++ rest, refl, stands p (and_left (stands_for_itself p) _ o), front_given signs more rest (and_right (stands_for_itself p) _ o) h)

-- a text that fits a pattern fits each end of it by an end
cut_fits : (signs more text : List ℕ) → Fits (signs ++ more) text → (front : List ℕ) × (rest : List ℕ) × (text ≡ front ++ rest) × Fits more rest
cut_fits [] more text h = ([], text, refl, h)
cut_fits (p ∷ signs) more text h =
    let found = cut_fits signs more h.1 h.4 in
    (h.0 ++ found.0, found.1, h.2 ∙ ap (λ l. h.0 ++ l) found.2 ∙ sym (append_assoc h.0 found.0 found.1), found.3)

-- '%' alone fits any text
pub any_fits : (text : List ℕ) → Fits (percent ∷ []) text
any_fits text = (text, [], sym (append-nil text), tt, refl)

-- where a text that is not empty stands in another, a character begins
pub seam_begins : (b : ℕ) (bs : List ℕ) → IsUtf8 (b ∷ bs) → (front rest text : List ℕ) → text ≡ front ++ ((b ∷ bs) ++ rest) → IsCharBoundary text (length front)
seam_begins b bs u front rest text e =
    let start = IsCharBoundary-start (b ∷ bs) u in
    let first : get_or text (length front) 0 ≡ b = ap (λ l. get_or l (length front) 0) e ∙ get_or-append_seam front b (bs ++ rest) 0 in
    let room : length front ≤ length text = omega (arith, ap {B = ℕ} length e, length-append front (b ∷ (bs ++ rest))) in
    (room, λ lt high. omega (arith, first, start.1 (omega arith) (omega (arith, first, high))))

-- where a text stands in another, there is a place for it where a character begins
seam_before : (bs : List ℕ) → IsUtf8 bs → (front rest text : List ℕ) → IsUtf8 text → text ≡ front ++ (bs ++ rest)
    → (before : List ℕ) × (behind : List ℕ) × (text ≡ before ++ (bs ++ behind)) × IsCharBoundary text (length before)
seam_before [] u front rest text valid e = ([], text, refl, IsCharBoundary-start text valid)
seam_before (b ∷ bs) u front rest text valid e = (front, rest, e, seam_begins b bs u front rest text e)

-- ---- on bytes
module _ (text : List ℕ) (valid : IsUtf8 text) where
  spelled : text ≡ encodes (chars text)
  spelled = sym (encodes-chars text valid)

  -- characters in a row are bytes in a row
  bytes_of_two : (bs cs : List ℕ) → IsUtf8 bs → chars text ≡ chars bs ++ cs → text ≡ bs ++ encodes cs
  bytes_of_two bs cs u e = spelled ∙ ap encodes e ∙ encodes-append (chars bs) cs ∙ ap (λ l. l ++ encodes cs) (encodes-chars bs u)

  module _ (bs : List ℕ) (u : IsUtf8 bs) (o : is_ordinary (chars bs) ≡ true) where
    pub whole_decides : Decides (like (chars bs) (chars text)) (text ≡ bs)
    whole_decides = (
      λ h. let fits = front_taken (chars bs) [] (chars text) o (subst (λ p. Fits p (chars text)) (sym (append-nil (chars bs))) ((like_decides (chars bs) (chars text)).0 h)) in
          bytes_of_two bs fits.0 u fits.1 ∙ ap (λ l. bs ++ encodes l) fits.2 ∙ append-nil bs,
      λ e. (like_decides (chars bs) (chars text)).1 (subst (λ t. Fits (chars bs) t) (ap chars (sym e)) (subst (λ p. Fits p p) (append-nil (chars bs)) (front_given (chars bs) [] [] o refl))),
    )

    pub prefix_decides : Decides (like (chars bs ++ percent ∷ []) (chars text)) ((rest : List ℕ) × (text ≡ bs ++ rest))
    prefix_decides = (
      λ h. let fits = front_taken (chars bs) (percent ∷ []) (chars text) o ((like_decides (chars bs ++ percent ∷ []) (chars text)).0 h) in
          (encodes fits.0, bytes_of_two bs fits.0 u fits.1),
      λ e. (like_decides (chars bs ++ percent ∷ []) (chars text)).1
          (subst (λ t. Fits (chars bs ++ percent ∷ []) t) (sym (ap chars e.1 ∙ chars-append bs e.0 u)) (front_given (chars bs) (percent ∷ []) (chars e.0) o (any_fits (chars e.0)))),
    )

    -- the signs fit what they are, and nothing else
    itself_fits : Fits (chars bs) (chars bs)
    itself_fits = subst (λ p. Fits p p) (append-nil (chars bs)) (front_given (chars bs) [] [] o refl)

    taken_whole : (cs : List ℕ) → Fits (chars bs) cs → cs ≡ chars bs
    taken_whole cs h =
        let fits = front_taken (chars bs) [] cs o (subst (λ p. Fits p cs) (sym (append-nil (chars bs))) h) in
        fits.1 ∙ ap (λ l. chars bs ++ l) fits.2 ∙ append-nil (chars bs)

    pub suffix_decides : Decides (like (percent ∷ chars bs) (chars text)) ((front : List ℕ) × (text ≡ front ++ bs))
    suffix_decides = (
      λ h. let fits = (like_decides (percent ∷ chars bs) (chars text)).0 h in
          (encodes fits.0, spelled ∙ ap encodes (fits.2 ∙ ap (λ l. fits.0 ++ l) (taken_whole fits.1 fits.4)) ∙ encodes-append fits.0 (chars bs) ∙ ap (λ l. encodes fits.0 ++ l) (encodes-chars bs u)),
      λ e. let at = IsCharBoundary-at_seam text e.0 bs e.1 u in
          let front : IsUtf8 e.0 = subst IsUtf8 (ap (take (length e.0)) e.1 ∙ take-append_seam e.0 bs) (IsUtf8-take text (length e.0) valid at) in
          (like_decides (percent ∷ chars bs) (chars text)).1 (chars e.0, chars bs, ap chars e.1 ∙ chars-append e.0 bs front, tt, itself_fits),
    )

    pub infix_decides : Decides (like (percent ∷ (chars bs ++ percent ∷ [])) (chars text)) ((front : List ℕ) × (rest : List ℕ) × (text ≡ front ++ (bs ++ rest)))
    infix_decides = (
      λ h. let fits = (like_decides (percent ∷ (chars bs ++ percent ∷ [])) (chars text)).0 h in
          let found = front_taken (chars bs) (percent ∷ []) fits.1 o fits.4 in (
            encodes fits.0,
            encodes found.0,
            spelled ∙ ap encodes (fits.2 ∙ ap (λ l. fits.0 ++ l) found.1) ∙ encodes-append fits.0 (chars bs ++ found.0)
                ∙ ap (λ l. encodes fits.0 ++ l) (encodes-append (chars bs) found.0 ∙ ap (λ l. l ++ encodes found.0) (encodes-chars bs u)),
          ),
      λ e. let at = seam_before bs u e.0 e.1 text valid e.2 in
          let front : IsUtf8 at.0 = subst IsUtf8 (ap (take (length at.0)) at.2 ∙ take-append_seam at.0 (bs ++ at.1)) (IsUtf8-take text (length at.0) valid at.3) in
          (like_decides (percent ∷ (chars bs ++ percent ∷ [])) (chars text)).1 (
            chars at.0,
            chars bs ++ chars at.1,
            ap chars at.2 ∙ chars-append at.0 (bs ++ at.1) front ∙ ap (λ l. chars at.0 ++ l) (chars-append bs at.1 u),
            tt,
            front_given (chars bs) (percent ∷ []) (chars at.1) o (any_fits (chars at.1)),
          ),
    )

    -- a text that fits a pattern has each run of its ordinary signs
    pub run_is_there : (pattern front rest : List ℕ) → IsUtf8 pattern → pattern ≡ front ++ (bs ++ rest) → like (chars pattern) (chars text) ≡ true
        → (before : List ℕ) × (behind : List ℕ) × (text ≡ before ++ (bs ++ behind))
    run_is_there pattern front rest p e h =
        let at = seam_before bs u front rest pattern p e in
        let first : IsUtf8 at.0 = subst IsUtf8 (ap (take (length at.0)) at.2 ∙ take-append_seam at.0 (bs ++ at.1)) (IsUtf8-take pattern (length at.0) p at.3) in
        let signs : chars pattern ≡ chars at.0 ++ (chars bs ++ chars at.1) = ap chars at.2 ∙ chars-append at.0 (bs ++ at.1) first ∙ ap (λ l. chars at.0 ++ l) (chars-append bs at.1 u) in
        let cut = cut_fits (chars at.0) (chars bs ++ chars at.1) (chars text) (subst (λ s. Fits s (chars text)) signs ((like_decides (chars pattern) (chars text)).0 h)) in
        let found = front_taken (chars bs) (chars at.1) cut.1 o cut.3 in (
          encodes cut.0,
          encodes found.0,
          spelled ∙ ap encodes (cut.2 ∙ ap (λ l. cut.0 ++ l) found.1) ∙ encodes-append cut.0 (chars bs ++ found.0)
              ∙ ap (λ l. encodes cut.0 ++ l) (encodes-append (chars bs) found.0 ∙ ap (λ l. l ++ encodes found.0) (encodes-chars bs u)),
        )

-- the characters of a pattern with '%' at an end
pub chars-percent : (bs : List ℕ) → chars (percent ∷ bs) ≡ percent ∷ chars bs
unfolding chars
chars-percent [] = refl
chars-percent (b ∷ bs) = refl

pub chars-percent_last : (bs : List ℕ) → IsUtf8 bs → chars (bs ++ percent ∷ []) ≡ chars bs ++ percent ∷ []
chars-percent_last bs u = chars-append bs (percent ∷ []) u ∙ ap (λ l. chars bs ++ l) (chars-percent [] ∙ ap (λ l. percent ∷ l) chars-nil)

-- what stands between two '%' is a text
pub inner_valid : (bs : List ℕ) → IsUtf8 (percent ∷ (bs ++ percent ∷ [])) → IsUtf8 bs
inner_valid bs u =
    let after : IsUtf8 (bs ++ percent ∷ []) = IsUtf8-drop (percent ∷ (bs ++ percent ∷ [])) 1 u (IsCharBoundary-after_ascii (percent ∷ (bs ++ percent ∷ [])) 0 u (omega arith) (omega arith)) in
    let at = IsCharBoundary-at_seam (bs ++ percent ∷ []) bs (percent ∷ []) refl (IsUtf8-from_ascii (percent ∷ []) percent_is_ascii) in
    subst IsUtf8 (take-append_seam bs (percent ∷ [])) (IsUtf8-take (bs ++ percent ∷ []) (length bs) after at)
  where
    percent_is_ascii : (i : ℕ) → get_or (percent ∷ []) i 0 < 128
    percent_is_ascii zero = omega arith
    percent_is_ascii (suc i) = omega arith

-- ---- what a search answers
pub found_decides : (hay needle : List ℕ) (r : Option ℕ) → FindsNeedle hay needle 0 r → Decides (is_some r) ((front : List ℕ) × (rest : List ℕ) × (hay ≡ front ++ (needle ++ rest)))
found_decides hay needle None none = (
  λ h. absurd (cc),
  λ e. let long = length-append e.0 (needle ++ e.1) in
      let more = length-append needle e.1 in
      let all : length hay ≡ length (e.0 ++ (needle ++ e.1)) = ap length e.2 in
      let part : take (length needle) (drop (length e.0) hay) ≡ needle =
      ap (λ l. take (length needle) (drop (length e.0) l)) e.2 ∙ ap (take (length needle)) (drop-append_seam e.0 (needle ++ e.1)) ∙ take-append_seam needle e.1 in
      absurd (none (length e.0) (omega arith) (omega (arith, all, long)) (OccursAt-from_part hay needle (length e.0) (omega (arith, all, long, more)) part)),
)
found_decides hay needle (Some k) found = (
  λ h. (take k hay, drop (k + length needle) hay, sym (take-append-drop k hay) ∙ ap (λ l. take k hay ++ l) (OccursAt-split hay needle k found.1)),
  λ e. refl,
)

begun_decides : (s p : List ℕ) (r : Bool) → r ≡ starts_with eqb s p → Decides r ((rest : List ℕ) × (s ≡ p ++ rest))
begun_decides s p r is = let starts = starts_is Decides-eqb s p r is in (λ h. (drop (length p) s, starts.0 h), λ e. starts.1 e.0 e.1)

ended_decides : (s p : List ℕ) (r : Bool) → r ≡ ends_with eqb s p → Decides r ((front : List ℕ) × (s ≡ front ++ p))
ended_decides s p r is = let ends = ends_is Decides-eqb s p r is in (λ h. (take (length s - length p) s, ends.0 h), λ e. ends.1 e.0 e.1)

-- ---- what each form answers
module _ (text : List ℕ) (valid : IsUtf8 text) (bs pattern : List ℕ) where
  pub whole_fits : IsUtf8 bs → (pattern ≡ bs) × (is_ordinary (chars bs) ≡ true) → bytes_eq text bs ≡ like (chars pattern) (chars text)
  whole_fits u form =
      same_from_decides (bytes_eq text bs) (like (chars bs) (chars text)) (bytes_eq-Decides text bs) (whole_decides text valid bs u form.1)
      ∙ ap (λ p. like (chars p) (chars text)) (sym form.0)

  pub prefix_fits : IsUtf8 bs → (pattern ≡ bs ++ percent ∷ []) × (is_ordinary (chars bs) ≡ true) → (r : Bool) → r ≡ starts_with eqb text bs → r ≡ like (chars pattern) (chars text)
  prefix_fits u form r is =
      same_from_decides r (like (chars bs ++ percent ∷ []) (chars text)) (begun_decides text bs r is) (prefix_decides text valid bs u form.1)
      ∙ ap (λ p. like p (chars text)) (sym (ap chars form.0 ∙ chars-percent_last bs u))

  pub suffix_fits : IsUtf8 bs → (pattern ≡ percent ∷ bs) × (is_ordinary (chars bs) ≡ true) → (r : Bool) → r ≡ ends_with eqb text bs → r ≡ like (chars pattern) (chars text)
  suffix_fits u form r is =
      same_from_decides r (like (percent ∷ chars bs) (chars text)) (ended_decides text bs r is) (suffix_decides text valid bs u form.1)
      ∙ ap (λ p. like p (chars text)) (sym (ap chars form.0 ∙ chars-percent bs))

  pub infix_fits : IsUtf8 pattern → (pattern ≡ percent ∷ (bs ++ percent ∷ [])) × (is_ordinary (chars bs) ≡ true) → (r : Option ℕ) → FindsNeedle text bs 0 r → is_some r ≡ like (chars pattern) (chars text)
  infix_fits p form r found =
      let u = inner_valid bs (subst IsUtf8 form.0 p) in
      same_from_decides (is_some r) (like (percent ∷ (chars bs ++ percent ∷ [])) (chars text)) (found_decides text bs r found) (infix_decides text valid bs u form.1)
      ∙ ap (λ q. like q (chars text)) (sym (ap chars form.0 ∙ chars-percent (bs ++ percent ∷ []) ∙ ap (λ l. percent ∷ l) (chars-percent_last bs u)))

  -- without its run a text does not fit
  pub run_missing : IsUtf8 pattern → IsRunOf bs pattern → (r : Option ℕ) → FindsNeedle text bs 0 r → is_some r ≡ false → like (chars pattern) (chars text) ≡ false
  run_missing p run r found none = no (like (chars pattern) (chars text)) refl
    where
      no : (b : Bool) → like (chars pattern) (chars text) ≡ b → b ≡ false
      no false is = refl
      no true is =
          let there = (found_decides text bs r found).1 (run_is_there text valid bs run.text run.ordinary pattern run.front run.rest p run.there is) in
          absurd (cc)
