-- What patterns fit whose pieces stand between '%'s.
use Rattle.std.proofs.Common.{◌≡◌, ℕ, suc, ◌<◌, ◌≤◌, ◌+◌, ◌-◌, Bool, get_or, add-one, drop-cons, length-drop, List, [], ◌∷◌, ◌++◌, length, take, drop, refl, sym, ap, subst, ◌∙◌, arith, length-append, append_assoc, All}
use Rattle.std.specs.Prelude.{Some, None}
use Rattle.std.specs.Bool.{Decides}
use Rattle.std.specs.Str.{chars, IsUtf8, IsCharBoundary}
use Rattle.std.proofs.lemmas.Bool.Decides.{same_from_decides}
use Rattle.std.proofs.lemmas.List.{take-append-drop, drop-append-le}
use Rattle.std.proofs.lemmas.List.Elements.{All-head, All-tail}
use Rattle.std.proofs.lemmas.Str.{chars-nil, encodes-chars, encodes-append, chars-append, IsUtf8-take, IsUtf8-drop, IsCharBoundary-start, IsCharBoundary-from_take, IsCharBoundary-before_ascii, IsCharBoundary-after_ascii}
use Rattle.std.proofs.Math.Seq.{take-length, take-append_seam, drop-append_seam, get_or-append_seam}
use lib.Utf8.{encodes}
use Rattle.memchr.specs.Find.{FindsNeedle}
use Rattle.memchr.proofs.lemmas.MatchLemmas.{OccursAt-split, OccursAt-from_part}
use Rattle.cq_model.specs.Like.{percent, Fits, like}
use Rattle.cq_model_eval.proofs.Likes.{like_decides}
use Rattle.cq_prims_like.specs.Patterns.{closed, IsPiece, ArePiecesOf, StandIn}
use Rattle.cq_prims_like.proofs.Fitting.{front_taken, front_given, any_fits, seam_begins, found_decides, chars-percent}

-- the text of the pieces with one more of them
pub closed_more : (pieces : List (List ℕ)) (piece more : List ℕ) → closed (pieces ++ piece ∷ []) ++ more ≡ closed pieces ++ (piece ++ percent ∷ more)
closed_more [] piece more = append_assoc piece (percent ∷ []) more
closed_more (p ∷ ps) piece more =
    append_assoc p (percent ∷ closed (ps ++ piece ∷ [])) more
    ∙ ap (λ l. p ++ percent ∷ l) (closed_more ps piece more)
    ∙ sym (append_assoc p (percent ∷ closed ps) (piece ++ percent ∷ more))

-- pieces that stand in a text stand in it with more in front
stand_behind : (pieces : List (List ℕ)) (more text : List ℕ) → StandIn pieces text → StandIn pieces (more ++ text)
stand_behind [] more text h = tt
stand_behind (p ∷ ps) more text h = (more ++ h.0, h.1, ap (λ l. more ++ l) h.2 ∙ sym (append_assoc more h.0 (p ++ h.1)), h.3)

-- ---- the first place of a piece
module _ (piece : List ℕ) (pieces : List (List ℕ)) (text : List ℕ) where
  pub none_stands : FindsNeedle text piece 0 None → StandIn (piece ∷ pieces) text → ⊥
  none_stands found h = let there = (found_decides text piece None found).1 (h.0, h.1, h.2) in absurd (cc)

  module _ (k : ℕ) (found : FindsNeedle text piece 0 (Some k)) where
    pub first_given : StandIn pieces (drop (k + length piece) text) → StandIn (piece ∷ pieces) text
    first_given h = (take k text, drop (k + length piece) text, sym (take-append-drop k text) ∙ ap (λ l. take k text ++ l) (OccursAt-split text piece k found.1), h)

    -- no place comes before the first
    pub not_before : (front rest : List ℕ) → text ≡ front ++ (piece ++ rest) → length front < k → ⊥
    not_before front rest e before =
        let all : length text ≡ length front + (length piece + length rest) = ap {B = ℕ} length e ∙ length-append front (piece ++ rest) ∙ ap (λ (n : ℕ). length front + n) (length-append piece rest) in
        let part : take (length piece) (drop (length front) text) ≡ piece =
        ap (λ l. take (length piece) (drop (length front) l)) e ∙ ap (take (length piece)) (drop-append_seam front (piece ++ rest)) ∙ take-append_seam piece rest in
        found.0.before (length front) (omega arith) before (OccursAt-from_part text piece (length front) (omega (arith, all)) part)

    pub first_taken : StandIn (piece ∷ pieces) text → StandIn pieces (drop (k + length piece) text)
    first_taken h =
        let late : k ≤ length h.0 = omega (arith, not_before h.0 h.1 h.2) in
        let room : k + length piece ≤ length (h.0 ++ piece) = omega (arith, length-append h.0 piece, late) in
        let split : text ≡ (h.0 ++ piece) ++ h.1 = h.2 ∙ sym (append_assoc h.0 piece h.1) in
        let left : drop (k + length piece) text ≡ drop (k + length piece) (h.0 ++ piece) ++ h.1 = ap (drop (k + length piece)) split ∙ drop-append-le (k + length piece) (h.0 ++ piece) h.1 room in
        subst (StandIn pieces) (sym left) (stand_behind pieces (drop (k + length piece) (h.0 ++ piece)) h.1 h.3)

-- ---- on characters
-- the signs of a pattern of pieces behind its first
abbrev signs_of : List (List ℕ) → List ℕ
signs_of [] = []
signs_of (p ∷ ps) = chars p ++ percent ∷ signs_of ps

chars-closed : (pieces : List (List ℕ)) → All IsPiece pieces → chars (closed pieces) ≡ signs_of pieces
chars-closed [] a = chars-nil
chars-closed (p ∷ ps) a =
    chars-append p (percent ∷ closed ps) (All-head IsPiece p ps a).0
    ∙ ap (λ l. chars p ++ l) (chars-percent (closed ps) ∙ ap (λ l. percent ∷ l) (chars-closed ps (All-tail IsPiece p ps a)))

fits_stand : (pieces : List (List ℕ)) → All IsPiece pieces → (cs : List ℕ) → Fits (percent ∷ signs_of pieces) cs → StandIn pieces (encodes cs)
fits_stand [] a cs h = tt
fits_stand (p ∷ ps) a cs h =
    let piece = All-head IsPiece p ps a in
    let found = front_taken (chars p) (percent ∷ signs_of ps) h.1 piece.1 h.4 in (
      encodes h.0,
      encodes found.0,
      ap encodes (h.2 ∙ ap (λ l. h.0 ++ l) found.1) ∙ encodes-append h.0 (chars p ++ found.0)
          ∙ ap (λ l. encodes h.0 ++ l) (encodes-append (chars p) found.0 ∙ ap (λ l. l ++ encodes found.0) (encodes-chars p piece.0)),
      fits_stand ps (All-tail IsPiece p ps a) found.0 found.2,
    )

-- the first piece has a place where a character begins
stands_at_char : (p : List ℕ) (ps : List (List ℕ)) (text : List ℕ) → IsUtf8 p → IsUtf8 text → StandIn (p ∷ ps) text
    → (before : List ℕ) × (behind : List ℕ) × (text ≡ before ++ (p ++ behind)) × IsCharBoundary text (length before) × StandIn ps behind
stands_at_char [] ps text u valid h = ([], text, refl, IsCharBoundary-start text valid, subst (StandIn ps) (sym h.2) (stand_behind ps h.0 h.1 h.3))
stands_at_char (b ∷ bs) ps text u valid h = (h.0, h.1, h.2, seam_begins b bs u h.0 h.1 text h.2, h.3)

-- what follows a text in a text
pub rest_valid : (bs rest : List ℕ) → IsUtf8 bs → IsUtf8 (bs ++ rest) → IsUtf8 rest
rest_valid bs rest u both =
    let at = IsCharBoundary-from_take (bs ++ rest) (length bs) both (omega (arith, length-append bs rest)) (subst IsUtf8 (sym (take-append_seam bs rest)) u) in
    subst IsUtf8 (drop-append_seam bs rest) (IsUtf8-drop (bs ++ rest) (length bs) both at)

stand_fits : (pieces : List (List ℕ)) → All IsPiece pieces → (text : List ℕ) → IsUtf8 text → StandIn pieces text → Fits (percent ∷ signs_of pieces) (chars text)
stand_fits [] a text valid h = any_fits (chars text)
stand_fits (p ∷ ps) a text valid h =
    let piece = All-head IsPiece p ps a in
    let at = stands_at_char p ps text piece.0 valid h in
    let front : IsUtf8 at.0 = subst IsUtf8 (ap (take (length at.0)) at.2 ∙ take-append_seam at.0 (p ++ at.1)) (IsUtf8-take text (length at.0) valid at.3) in
    let back : IsUtf8 (p ++ at.1) = subst IsUtf8 (ap (drop (length at.0)) at.2 ∙ drop-append_seam at.0 (p ++ at.1)) (IsUtf8-drop text (length at.0) valid at.3) in (
      chars at.0,
      chars p ++ chars at.1,
      ap chars at.2 ∙ chars-append at.0 (p ++ at.1) front ∙ ap (λ l. chars at.0 ++ l) (chars-append p at.1 piece.0),
      tt,
      front_given (chars p) (percent ∷ signs_of ps) (chars at.1) piece.1 (stand_fits ps (All-tail IsPiece p ps a) at.1 (rest_valid p at.1 piece.0 back) at.4),
    )

-- the pattern fits a text in which its pieces stand one behind the other
pub pieces_fit : (pieces : List (List ℕ)) (pattern text : List ℕ) → IsUtf8 text → ArePiecesOf pieces pattern
    → (r : Bool) → Decides r (StandIn pieces text) → r ≡ like (chars pattern) (chars text)
pieces_fit pieces pattern text valid form r stands =
    let signs = percent ∷ signs_of pieces in
    let fits : Decides (like signs (chars text)) (StandIn pieces text) = (
      λ h. subst (StandIn pieces) (encodes-chars text valid) (fits_stand pieces form.1 (chars text) ((like_decides signs (chars text)).0 h)),
      λ h. (like_decides signs (chars text)).1 (stand_fits pieces form.1 text valid h),
    ) in
    same_from_decides r (like signs (chars text)) stands fits
    ∙ ap (λ p. like p (chars text)) (sym (ap chars form.0 ∙ chars-percent (closed pieces) ∙ ap (λ l. percent ∷ l) (chars-closed pieces form.1)))

-- ---- steps of the loops
-- the place of a piece in the list of them
module _ (pieces : List (List ℕ)) (i : ℕ) (piece text : List ℕ) (below : i < length pieces) (is : piece ≡ get_or pieces i piece) where
  left : drop i pieces ≡ piece ∷ drop (i + 1) pieces
  left = rw add-one (drop-cons pieces i piece below ∙ ap (λ (p : List ℕ). p ∷ drop (suc i) pieces) (sym is))

  pub step_none : FindsNeedle text piece 0 None → StandIn (drop i pieces) text → ⊥
  step_none found h = none_stands piece (drop (i + 1) pieces) text found (subst (λ ps. StandIn ps text) left h)

  module _ (k n : ℕ) (found : FindsNeedle text piece 0 (Some k)) (far : n ≡ k + length piece) where
    pub step_given : StandIn (drop (i + 1) pieces) (drop n text) → StandIn (drop i pieces) text
    step_given h = subst (λ ps. StandIn ps text) (sym left) (first_given piece (drop (i + 1) pieces) text k found (subst (λ (m : ℕ). StandIn (drop (i + 1) pieces) (drop m text)) far h))

    pub step_taken : StandIn (drop i pieces) text → StandIn (drop (i + 1) pieces) (drop n text)
    step_taken h = subst (λ (m : ℕ). StandIn (drop (i + 1) pieces) (drop m text)) (sym far) (first_taken piece (drop (i + 1) pieces) text k found (subst (λ ps. StandIn ps text) left h))

pub whole_rest : (text : List ℕ) (n : ℕ) → take (length text - n) (drop n text) ≡ drop n text
whole_rest text n = ap (λ (m : ℕ). take m (drop n text)) (sym (length-drop n text)) ∙ take-length (drop n text)

-- a piece is taken off the front of what is left of the pattern
pub one_piece_more : (pieces : List (List ℕ)) (piece more rest pattern : List ℕ) → pattern ≡ percent ∷ (closed pieces ++ rest) → rest ≡ piece ++ percent ∷ more
    → pattern ≡ percent ∷ (closed (pieces ++ piece ∷ []) ++ more)
one_piece_more pieces piece more rest pattern so_far split = so_far ∙ ap (λ l. percent ∷ l) (ap (λ l. closed pieces ++ l) split ∙ sym (closed_more pieces piece more))

-- what stands before a '%' in a text, and what stands behind it
pub parts_valid : (piece more rest : List ℕ) → rest ≡ piece ++ percent ∷ more → IsUtf8 rest → IsUtf8 piece × IsUtf8 more
parts_valid piece more rest split valid =
    let sign : get_or rest (length piece) 0 ≡ percent = ap (λ l. get_or l (length piece) 0) split ∙ get_or-append_seam piece percent more 0 in
    let room : length piece < length rest = omega (arith, ap {B = ℕ} length split, length-append piece (percent ∷ more)) in
    let at = IsCharBoundary-before_ascii rest (length piece) room (omega (arith, sign)) in
    let after : IsUtf8 (percent ∷ more) = subst IsUtf8 (ap (drop (length piece)) split ∙ drop-append_seam piece (percent ∷ more)) (IsUtf8-drop rest (length piece) valid at) in (
      subst IsUtf8 (ap (take (length piece)) split ∙ take-append_seam piece (percent ∷ more)) (IsUtf8-take rest (length piece) valid at),
      IsUtf8-drop (percent ∷ more) 1 after (IsCharBoundary-after_ascii (percent ∷ more) 0 after (omega arith) (omega arith)),
    )
