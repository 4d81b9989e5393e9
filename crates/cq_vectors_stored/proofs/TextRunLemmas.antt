-- Texts that stand one behind the other.
use Rattle.std.proofs.Common.{◌≡◌, ℕ, zero, suc, ◌+◌, ◌-◌, ◌<◌, ◌≤◌, List, [], ◌∷◌, ◌++◌, length, get_or, take, drop, refl, sym, ap, ap₂, subst, ◌∙◌, arith, append_assoc}
use Rattle.std.specs.List.{All, concat}
use Rattle.std.specs.Str.{IsUtf8, IsCharBoundary}
use Rattle.std.proofs.Math.Seq.{take-add, take-append_seam, drop-append_seam}
use Rattle.std.proofs.lemmas.List.{get_or_default, length-append, append-nil, take-append-drop, take_more, drop_more}
use Rattle.std.proofs.lemmas.List.Elements.{All-append, All-drop}
use Rattle.std.proofs.lemmas.List.Folds.{concat-append}
use Rattle.std.proofs.lemmas.Str.{IsUtf8-nil, IsUtf8-append, IsCharBoundary-at_seam}
use Rattle.cq_vectors_stored.specs.TextRun.{IsLaid, HasRoom, cut, ends_of}

-- texts that are laid one behind the other and cut at their ends are those texts
pub cut-concat : (from : ℕ) (texts : List (List ℕ)) → cut (concat texts) from (ends_of from texts) ≡ texts
cut-concat from [] = refl
cut-concat from (t ∷ ts) =
    let long : from + length t - from ≡ length t = omega arith in
    let first = ap (λ (n : ℕ). take n (t ++ concat ts)) long ∙ take-append_seam t (concat ts) in
    let rest = ap (λ (n : ℕ). drop n (t ++ concat ts)) long ∙ drop-append_seam t (concat ts) in
    ap₂ (λ (x : List ℕ) (xs : List (List ℕ)). x ∷ xs) first (ap (λ (bs : List ℕ). cut bs (from + length t) (ends_of (from + length t) ts)) rest ∙ cut-concat (from + length t) ts)

-- the end of one text more
pub ends_of-more : (from : ℕ) (texts : List (List ℕ)) (t : List ℕ) → ends_of from (texts ++ t ∷ []) ≡ ends_of from texts ++ (from + (length (concat texts) + length t)) ∷ []
ends_of-more from [] t = ap (λ (n : ℕ). n ∷ []) {x = from + length t} {y = from + (length (concat []) + length t)} (omega arith)
ends_of-more from (x ∷ xs) t =
    let long : from + length x + (length (concat xs) + length t) ≡ from + (length (x ++ concat xs) + length t) = omega (arith, length-append x (concat xs)) in
    ap (λ (l : List ℕ). (from + length x) ∷ l) (ends_of-more (from + length x) xs t ∙ ap (λ (n : ℕ). ends_of (from + length x) xs ++ n ∷ []) long)

pub length-ends_of : (from : ℕ) (texts : List (List ℕ)) → length (ends_of from texts) ≡ length texts
length-ends_of from [] = refl
length-ends_of from (t ∷ ts) = ap suc (length-ends_of (from + length t) ts)

-- a text ends where those up to it do
pub ends_of-at : (from : ℕ) (texts : List (List ℕ)) (i : ℕ) → i < length texts → get_or (ends_of from texts) i 0 ≡ from + length (concat (take (suc i) texts))
ends_of-at from [] i lt = absurd (omega arith)
ends_of-at from (t ∷ ts) zero lt = ap (λ (l : List ℕ). from + length l) (sym (append-nil t))
ends_of-at from (t ∷ ts) (suc i) lt =
    ends_of-at (from + length t) ts i (omega arith) ∙ omega (arith, length-append t (concat (take (suc i) ts)))

-- the same where the first text begins at 0
first_ends-at : (texts : List (List ℕ)) (i : ℕ) → i < length texts → get_or (ends_of 0 texts) i 0 ≡ length (concat (take (suc i) texts))
first_ends-at texts i lt = omega (arith, ends_of-at 0 texts i lt)

first_ends-more : (texts : List (List ℕ)) (t : List ℕ) → ends_of 0 (texts ++ t ∷ []) ≡ ends_of 0 texts ++ (length (concat texts) + length t) ∷ []
first_ends-more texts t =
    ends_of-more 0 texts t
    ∙ ap (λ (n : ℕ). ends_of 0 texts ++ n ∷ []) {x = 0 + (length (concat texts) + length t)} {y = length (concat texts) + length t} (omega arith)

utf8-concat : (texts : List (List ℕ)) → All IsUtf8 texts → IsUtf8 (concat texts)
utf8-concat [] all = IsUtf8-nil
utf8-concat (t ∷ ts) all = IsUtf8-append t (concat ts) (all 0 [] (omega arith)) (utf8-concat ts (λ k d lt. all (suc k) d (omega arith)))

only : (text : List ℕ) → IsUtf8 text → All IsUtf8 (text ∷ [])
only text utf8 zero d lt = utf8
only text utf8 (suc k) d lt = absurd (omega arith)

-- laid one behind the other are the texts before one, that one, and those behind it
parts : (texts : List (List ℕ)) (i : ℕ) → i < length texts → concat texts ≡ concat (take i texts) ++ (get_or texts i [] ++ concat (drop (i + 1) texts))
parts texts i lt =
    ap concat (sym (take-append-drop i texts)) ∙ concat-append (take i texts) (drop i texts)
    ∙ ap (λ (ts : List (List ℕ)). concat (take i texts) ++ concat ts) (drop_more texts i [] lt)

-- what stands up to the end of one is what stands before it and itself
pub length-up_to : (texts : List (List ℕ)) (i : ℕ) → i < length texts → length (concat (take (suc i) texts)) ≡ length (concat (take i texts)) + length (get_or texts i [])
length-up_to texts i lt =
    let one = get_or texts i [] in
    ap (λ (n : ℕ). length (concat (take n texts))) {x = suc i} {y = i + 1} (omega arith)
    ∙ ap (λ (ts : List (List ℕ)). length (concat ts)) (take_more texts i [] lt) ∙ ap length (concat-append (take i texts) (one ∷ []))
    ∙ ap (λ (l : List ℕ). length (concat (take i texts) ++ l)) (append-nil one) ∙ length-append (concat (take i texts)) one

-- laid one behind the other, texts from one on stand behind those before it
concat_from : (texts : List (List ℕ)) (start len : ℕ) → concat (take (start + len) texts) ≡ concat (take start texts) ++ concat (take len (drop start texts))
concat_from texts start len = ap concat (take-add start len texts) ∙ concat-append (take start texts) (take len (drop start texts))

module _ {bytes ends : List ℕ} {texts : List (List ℕ)} (laid : IsLaid bytes ends texts) where
  pub ends_long : length ends ≡ length texts
  ends_long = ap length laid.ended ∙ length-ends_of 0 texts

  pub bytes_long : length bytes ≡ length (concat texts)
  bytes_long = ap length laid.joined

  module _ (start len : ℕ) where
    abbrev front : List ℕ
    front = concat (take start texts)

    abbrev part : List ℕ
    part = concat (take len (drop start texts))

    abbrev behind : List ℕ
    behind = concat (drop (start + len) texts)

    pub part_long : length (concat (take (start + len) texts)) ≡ length front + length part
    part_long = ap length (concat_from texts start len) ∙ length-append front part

    in_front : bytes ≡ front ++ (part ++ behind)
    in_front =
        laid.joined ∙ ap concat (sym (take-append-drop (start + len) texts)) ∙ concat-append (take (start + len) texts) (drop (start + len) texts)
        ∙ ap (λ (l : List ℕ). l ++ behind) (concat_from texts start len) ∙ append_assoc front part behind

    pub part_within : length front + length part ≤ length bytes
    part_within = omega (arith, ap {B = ℕ} length in_front, length-append front (part ++ behind), length-append part behind)

    -- the bytes between where one begins and where another ends are those of the texts from the one on
    pub part_between : (n : ℕ) → n ≡ length part → take n (drop (length front) bytes) ≡ part
    part_between n long =
        ap (λ (bs : List ℕ). take n (drop (length front) bs)) in_front ∙ ap (take n) (drop-append_seam front (part ++ behind))
        ∙ ap (λ (m : ℕ). take m (part ++ behind)) long ∙ take-append_seam part behind

  -- a text ends where those up to it do
  pub up_to_end : (i d : ℕ) → i < length texts → get_or ends i d ≡ length (concat (take (i + 1) texts))
  up_to_end i d lt =
      get_or_default ends i d 0 (omega (arith, ends_long)) ∙ ap (λ (es : List ℕ). get_or es i 0) laid.ended ∙ first_ends-at texts i lt
      ∙ ap (λ (n : ℕ). length (concat (take n texts))) {x = suc i} {y = i + 1} (omega arith)

  -- a text begins where those before it end
  pub start_at : (i d : ℕ) → 0 < i → i ≤ length texts → get_or ends (i - 1) d ≡ length (concat (take i texts))
  start_at i d some le = up_to_end (i - 1) d (omega arith) ∙ ap (λ (n : ℕ). length (concat (take n texts))) {x = i - 1 + 1} {y = i} (omega arith)

  module _ (i : ℕ) (lt : i < length texts) where
    pub end_at : (d : ℕ) → get_or ends i d ≡ length (concat (take i texts)) + length (get_or texts i [])
    end_at d = up_to_end i d lt ∙ ap (λ (n : ℕ). length (concat (take n texts))) {x = i + 1} {y = suc i} (omega arith) ∙ length-up_to texts i lt

    -- a text begins at a character
    pub starts_well : IsCharBoundary bytes (length (concat (take i texts)))
    starts_well =
        let behind = drop (i + 1) texts in
        IsCharBoundary-at_seam bytes (concat (take i texts)) (get_or texts i [] ++ concat behind) (laid.joined ∙ parts texts i lt)
        (IsUtf8-append (get_or texts i []) (concat behind) (laid.utf8 i [] lt) (utf8-concat behind (All-drop IsUtf8 (i + 1) texts laid.utf8)))

    -- a text ends at a character
    pub ends_well : IsCharBoundary bytes (length (concat (take i texts)) + length (get_or texts i []))
    ends_well =
        let behind = drop (suc i) texts in
        let whole = laid.joined ∙ ap concat (sym (take-append-drop (suc i) texts)) ∙ concat-append (take (suc i) texts) behind in
        subst (IsCharBoundary bytes) (length-up_to texts i lt)
        (IsCharBoundary-at_seam bytes (concat (take (suc i) texts)) (concat behind) whole (utf8-concat behind (All-drop IsUtf8 (suc i) texts laid.utf8)))

    -- what stands between them is the text
    pub text_between : (n : ℕ) → n ≡ length (get_or texts i []) → take n (drop (length (concat (take i texts))) bytes) ≡ get_or texts i []
    text_between n long =
        let one = get_or texts i [] in
        let front = concat (take i texts) in
        let rest = one ++ concat (drop (i + 1) texts) in
        ap (λ (bs : List ℕ). take n (drop (length front) bs)) (laid.joined ∙ parts texts i lt)
        ∙ ap (take n) (drop-append_seam front rest) ∙ ap (λ (m : ℕ). take m rest) long ∙ take-append_seam one (concat (drop (i + 1) texts))

  -- with room for one text more, the run with it
  pub laid_more : (text : List ℕ) → IsUtf8 text → HasRoom texts text → (more : List ℕ) → more ≡ bytes ++ text → (to : List ℕ) → to ≡ ends ++ length more ∷ []
      → IsLaid more to (texts ++ text ∷ [])
  laid_more text utf8 room more is to at =
      let joined : concat (texts ++ text ∷ []) ≡ concat texts ++ text = concat-append texts (text ∷ []) ∙ ap (λ (l : List ℕ). concat texts ++ l) (append-nil text) in
      let long : length more ≡ length (concat texts) + length text = ap length is ∙ length-append bytes text ∙ ap (λ (bs : List ℕ). length bs + length text) laid.joined in
      record {
        joined = is ∙ ap (λ (bs : List ℕ). bs ++ text) laid.joined ∙ sym joined;
        ended = at ∙ ap₂ (λ (es : List ℕ) (n : ℕ). es ++ n ∷ []) laid.ended long ∙ sym (first_ends-more texts text);
        utf8 = All-append IsUtf8 texts (text ∷ []) laid.utf8 (only text utf8);
        few = omega (arith, room.few, length-append texts (text ∷ []));
        short = omega (arith, room.short, long);
      }

-- texts that are seen are laid where those are that they stand for
pub laid_seen : {bytes ends : List ℕ} {texts seen : List (List ℕ)} → texts ≡ seen → IsLaid bytes ends texts → IsLaid bytes ends seen
laid_seen {bytes} {ends} same laid = subst (IsLaid bytes ends) same laid

-- what is laid so is what the bytes are cut into
pub laid_is_cut : {bytes ends : List ℕ} {texts : List (List ℕ)} → IsLaid bytes ends texts → cut bytes 0 ends ≡ texts
laid_is_cut {bytes} {ends} {texts} laid = ap₂ (λ (bs : List ℕ) (es : List ℕ). cut bs 0 es) laid.joined laid.ended ∙ cut-concat 0 texts
