-- Any stretches of a script give the pieces that the splitter finds.
use Rattle.std.proofs.Common.{◌≡◌, ℕ, suc, ◌≤◌, Bool, true, false, not, ◌&&◌, ◌==◌, cond, ◌⊎◌, inl, inr, IsTrue, List, [], ◌∷◌, ◌++◌, length, append_assoc, refl, ap, arith, ◌∙◌, sym, count_by}
use Rattle.std.specs.List.{list_all}
use Rattle.std.proofs.Math.Bool.{or-false}
use Rattle.std.proofs.lemmas.Bool.{eqb-true, cases_Bool, and_parts, not-true, cond-false}
use Rattle.std.proofs.lemmas.List.{append-nil}
use Rattle.std.proofs.lemmas.List.Sums.{sum_by-cons}
use Rattle.cq_sql_language.specs.Characters.{is_quote, is_dash, begins, is_end_of_line, doubled}
use Rattle.cq_sql_language.specs.Pieces.{PieceOf, Stretch, quoted, unclosed, comment, single, stretch_spelling, StretchStands, AreStretchesOf, is_blank_stretch, is_semicolon, with_stretch, empty_piece, pieces_at, HasPieces}
use Rattle.cq_sql_tokens.specs.declared.cutting.Context.{Context}
use Rattle.cq_sql_tokens.specs.declared.cutting.Context.TheVariants.{Outside, AfterDash, InText, InComment}
use Rattle.cq_sql_tokens.specs.Cutting.{context_after, ends_piece, stays_blank, is_blank_end, pieces_from, pieces_of, with_text}
use Rattle.cq_sql_tokens.proofs.Stretches.{stretches_of}

-- ---- a text in front of the pieces

-- two texts in front are one
with_text-append : (first second : Bool) (t u : List ℕ) (ps : List PieceOf) → with_text first t (with_text second u ps) ≡ with_text (first && second) (t ++ u) ps
with_text-append first second t u [] = refl
with_text-append true second t u (p ∷ ps) = rw append_assoc refl
with_text-append false second t u (p ∷ ps) = rw append_assoc refl

-- no text leaves the pieces as they are
with_text-none : (ps : List PieceOf) → with_text true [] ps ≡ ps
with_text-none [] = refl
with_text-none (p ∷ ps) = refl

-- a stretch is a text in front
with_stretch_is : (s : Stretch) (ps : List PieceOf) → with_stretch s ps ≡ with_text (is_blank_stretch s) (stretch_spelling s) ps
with_stretch_is s [] = refl
with_stretch_is s (p ∷ ps) = refl

-- ---- texts

-- bytes inside a quoted text come to the first piece before what follows them
in_text-after : (t bytes q back : List ℕ) → pieces_from InText (bytes ++ (doubled q ++ back)) ≡ with_text false bytes (pieces_from InText (doubled q ++ back))
    → ((u : List ℕ) → with_text false u (pieces_from InText (doubled q ++ back)) ≡ with_text false (u ++ doubled q) (pieces_from InText back))
    → with_text false t (pieces_from InText (bytes ++ (doubled q ++ back))) ≡ with_text false (t ++ (bytes ++ doubled q)) (pieces_from InText back)
in_text-after t bytes q back these more =
    ap (with_text false t) these ∙ with_text-append false false t bytes (pieces_from InText (doubled q ++ back)) ∙ more (t ++ bytes) ∙ ap (λ u. with_text false u (pieces_from InText back)) (append_assoc t bytes (doubled q))

-- a byte of the inside, by itself or as two quotes
in_text-byte : (t : List ℕ) (b : ℕ) (q back : List ℕ) → (is_quote b ≡ true) ⊎ (is_quote b ≡ false)
    → ((u : List ℕ) → with_text false u (pieces_from InText (doubled q ++ back)) ≡ with_text false (u ++ doubled q) (pieces_from InText back))
    → with_text false t (pieces_from InText (doubled (b ∷ q) ++ back)) ≡ with_text false (t ++ doubled (b ∷ q)) (pieces_from InText back)
in_text-byte t b q back (inl quote) more =
    rw quote (in_text-after t (39 ∷ 39 ∷ []) q back (with_text-append false false (39 ∷ []) (39 ∷ []) (pieces_from InText (doubled q ++ back))) more)
in_text-byte t b q back (inr plain) more = rw plain (in_text-after t (b ∷ []) q back (rw plain refl) more)

-- the inside of a quoted text comes to the first piece, which is not blank
in_text : (t q back : List ℕ) → with_text false t (pieces_from InText (doubled q ++ back)) ≡ with_text false (t ++ doubled q) (pieces_from InText back)
in_text t [] back = rw (append-nil t) refl
in_text t (b ∷ q) back = in_text-byte t b q back (cases_Bool (is_quote b)) (λ u. in_text u q back)

-- ---- comments

-- after a comment the script stands outside again
at_end_of_line : (rest : List ℕ) → IsTrue (is_end_of_line rest) → pieces_from InComment rest ≡ pieces_of rest
at_end_of_line [] ends = refl
at_end_of_line (b ∷ bs) ends = rw (eqb-true b 10 ends) refl

-- a comment goes on to the end of its line
in_comment : (c rest : List ℕ) → IsTrue (list_all (λ b. not (b == 10)) c) → IsTrue (is_end_of_line rest) → pieces_from InComment (c ++ rest) ≡ with_text true c (pieces_of rest)
in_comment [] rest plain ends = at_end_of_line rest ends ∙ sym (with_text-none (pieces_of rest))
in_comment (b ∷ c) rest plain ends =
    let parts = and_parts (not (b == 10)) (list_all (λ b. not (b == 10)) c) plain in
    let other : (b == 10) ≡ false = not-true (b == 10) parts.0 in
    rw (other, in_comment c rest parts.1 ends) (with_text-append true true (b ∷ []) c (pieces_of rest))

-- ---- single characters

-- a dash is no blank, whatever its piece goes on with
dash_before : (ends stays : Bool) (b : ℕ) (ps qs : List PieceOf) → with_text true (45 ∷ []) (cond ends (record { text = []; closed = true; blank = false } ∷ qs) (with_text false (b ∷ []) ps)) ≡ with_text false (45 ∷ []) (cond ends (record { text = []; closed = true; blank = true } ∷ qs) (with_text stays (b ∷ []) ps))
dash_before true stays b ps qs = refl
dash_before false stays b ps qs = with_text-append true false (45 ∷ []) (b ∷ []) ps ∙ sym (with_text-append false stays (45 ∷ []) (b ∷ []) ps)

-- a dash before anything but a dash is a character of its own
lone_dash : (rest : List ℕ) → IsTrue (not (begins is_dash rest)) → with_text true (45 ∷ []) (pieces_from AfterDash rest) ≡ with_text false (45 ∷ []) (pieces_of rest)
lone_dash [] lone = refl
lone_dash (b ∷ bs) lone =
    let other : is_dash b ≡ false = not-true (is_dash b) lone in
    rw other (dash_before (b == 59) _ b _ (pieces_of bs))

-- a character in front, by whether it is a dash
single_dash : (b : ℕ) (rest : List ℕ) → (is_dash b ≡ true) ⊎ (is_dash b ≡ false) → is_quote b ≡ false → IsTrue (not (is_dash b && begins is_dash rest)) → (b == 59) ≡ false → with_stretch (single b) (pieces_of rest) ≡ pieces_of (b ∷ rest)
single_dash b rest (inl dash) plain lone other =
    let alone : IsTrue (not (begins is_dash rest)) = rw dash at lone in
    rw (eqb-true b 45 dash) (with_stretch_is (single 45) (pieces_of rest) ∙ sym (lone_dash rest alone))
single_dash b rest (inr byte) plain lone other =
    with_stretch_is (single b) (pieces_of rest) ∙ rw (other, plain, byte, or-false) refl

-- a character in front ends a piece or comes to the first one
single_byte : (b : ℕ) (rest : List ℕ) → ((b == 59) ≡ true) ⊎ ((b == 59) ≡ false) → IsTrue (not (is_quote b)) → IsTrue (not (is_dash b && begins is_dash rest)) → cond (b == 59) (empty_piece true ∷ pieces_of rest) (with_stretch (single b) (pieces_of rest)) ≡ pieces_of (b ∷ rest)
single_byte b rest (inl semicolon) plain lone = rw (eqb-true b 59 semicolon) refl
single_byte b rest (inr other) plain lone =
    cond-false (b == 59) (empty_piece true ∷ pieces_of rest) (with_stretch (single b) (pieces_of rest)) other ∙ single_dash b rest (cases_Bool (is_dash b)) (not-true (is_quote b) plain) lone other

-- ---- stretches

-- a stretch in front of a script does to its pieces what it should
stretch_told : (s : Stretch) (rest : List ℕ) → StretchStands s rest → cond (is_semicolon s) (empty_piece true ∷ pieces_of rest) (with_stretch s (pieces_of rest)) ≡ pieces_of (stretch_spelling s ++ rest)
stretch_told (quoted q) rest stands =
    let inside = in_text (39 ∷ []) q (39 ∷ rest) ∙ with_text-append false false (39 ∷ doubled q) (39 ∷ []) (pieces_of rest) in
    with_stretch_is (quoted q) (pieces_of rest) ∙ sym (rw (append_assoc (doubled q) (39 ∷ []) rest) inside)
stretch_told (unclosed q) rest stands = rw stands (sym (in_text (39 ∷ []) q []))
stretch_told (comment c) rest stands =
    let dashes = with_text-append true true (45 ∷ []) (45 ∷ []) (with_text true c (pieces_of rest)) ∙ with_text-append true true (45 ∷ 45 ∷ []) c (pieces_of rest) in
    with_stretch_is (comment c) (pieces_of rest) ∙ sym (rw (in_comment c rest stands.0 stands.1) dashes)
stretch_told (single b) rest stands = single_byte b rest (cases_Bool (b == 59)) stands.0 stands.1

-- any stretches of a script give the pieces that the splitter finds
pub pieces_at_are : (ss : List Stretch) (script : List ℕ) → AreStretchesOf ss script → pieces_at ss ≡ pieces_of script
pieces_at_are [] script cut = rw cut refl
pieces_at_are (s ∷ ss) script cut = rw (cut.1, pieces_at_are ss cut.0 cut.3) (stretch_told s cut.0 cut.2)

-- what the splitter finds are the pieces of the script
pub has_pieces_of : (script : List ℕ) → HasPieces script (pieces_of script)
has_pieces_of script =
    let made = stretches_of script in
    record { stretches = made.0; cut = made.1; made = pieces_at_are made.0 script made.1 }

-- ---- laws

-- two lists of pieces of a script are one
pub one_split : (script : List ℕ) (ps qs : List PieceOf) → HasPieces script ps → HasPieces script qs → ps ≡ qs
one_split script ps qs p q =
    sym p.made ∙ pieces_at_are p.stretches script p.cut ∙ sym (pieces_at_are q.stretches script q.cut) ∙ q.made

-- a text in front closes no piece
closed-with_text : (blank : Bool) (text : List ℕ) (ps : List PieceOf) → count_by (λ p. p.closed) (with_text blank text ps) ≡ count_by (λ p. p.closed) ps
closed-with_text blank text [] = refl
closed-with_text blank text (p ∷ ps) = refl

-- a byte closes one piece at most
closed_fit-byte : (ends blank stays : Bool) (b n : ℕ) (after ps : List PieceOf) → count_by (λ p. p.closed) after ≤ n → count_by (λ p. p.closed) ps ≤ n
    → count_by (λ p. p.closed) (cond ends (record { text = []; closed = true; blank = blank } ∷ after) (with_text stays (b ∷ []) ps)) ≤ suc n
closed_fit-byte true blank stays b n after ps cut uncut =
    omega (arith, sum_by-cons (λ p. cond p.closed 1 0) (record { text = []; closed = true; blank = blank }) after)
closed_fit-byte false blank stays b n after ps cut uncut = omega (arith, closed-with_text stays (b ∷ []) ps)

-- no more pieces are closed than bytes are left
closed_fit : (here : Context) (bs : List ℕ) → count_by (λ p. p.closed) (pieces_from here bs) ≤ length bs
closed_fit here [] = omega arith
closed_fit here (b ∷ bs) =
    closed_fit-byte (ends_piece here b) (is_blank_end here) (stays_blank here b) b (length bs) _ _ (closed_fit Outside bs) (closed_fit (context_after here b) bs)

-- each closed piece has a semicolon of its own
pub closed_pieces_fit : (script : List ℕ) (ps : List PieceOf) → HasPieces script ps → count_by (λ p. p.closed) ps ≤ length script
closed_pieces_fit script ps h =
    let same : ps ≡ pieces_of script = sym h.made ∙ pieces_at_are h.stretches script h.cut in
    rw same (closed_fit Outside script)
