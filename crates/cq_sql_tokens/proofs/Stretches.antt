-- Each script is cut into stretches.
use Rattle.std.proofs.Common.{◌≡◌, ℕ, zero, suc, ◌+◌, ◌≤◌, true, false, not, ◌&&◌, ◌==◌, ◌⊎◌, inl, inr, IsTrue, List, [], ◌∷◌, ◌++◌, length, append_assoc, length-append, refl, ap, arith, ◌∙◌, sym}
use Rattle.std.specs.List.{list_all}
use Rattle.std.proofs.lemmas.Bool.{eqb-true, cases_Bool, and_from, and_left, and_right, not_from_false}
use Rattle.std.proofs.lemmas.List.{append-nil}
use Rattle.cq_sql_language.specs.Characters.{is_quote, is_dash, begins, is_end_of_line, doubled}
use Rattle.cq_sql_language.specs.Pieces.{Stretch, quoted, unclosed, comment, single, stretch_spelling, StretchStands, AreStretchesOf}

-- ---- how far a quoted text and a comment go

-- the inside of a quoted text goes to its closing quote, or to the end of the script
data TextEnd (bs : List ℕ) : Type 0 where
  at_quote : (q rest : List ℕ) → bs ≡ doubled q ++ 39 ∷ rest → IsTrue (not (begins is_quote rest)) → TextEnd bs
  at_end : (q : List ℕ) → bs ≡ doubled q → TextEnd bs

-- a byte that is no quote comes to the inside
text_end-byte : (b : ℕ) (bs : List ℕ) → is_quote b ≡ false → TextEnd bs → TextEnd (b ∷ bs)
text_end-byte b bs plain (at_quote q rest is closes) = at_quote (b ∷ q) rest (rw plain (ap (λ (xs : List ℕ). b ∷ xs) is)) closes
text_end-byte b bs plain (at_end q is) = at_end (b ∷ q) (rw plain (ap (λ (xs : List ℕ). b ∷ xs) is))

-- two quotes are one inside
text_end-quotes : (bs : List ℕ) → TextEnd bs → TextEnd (39 ∷ 39 ∷ bs)
text_end-quotes bs (at_quote q rest is closes) = at_quote (39 ∷ q) rest (ap (λ (xs : List ℕ). 39 ∷ 39 ∷ xs) is) closes
text_end-quotes bs (at_end q is) = at_end (39 ∷ q) (ap (λ (xs : List ℕ). 39 ∷ 39 ∷ xs) is)

-- a quote before anything but a quote closes the text
text_end-closed : (b : ℕ) (rest : List ℕ) → is_quote b ≡ true → IsTrue (not (begins is_quote rest)) → TextEnd (b ∷ rest)
text_end-closed b rest quote closes = at_quote [] rest (ap (λ (x : ℕ). x ∷ rest) (eqb-true b 39 quote)) closes

-- two bytes decide how the inside begins
text_end-two : (b c : ℕ) (bs : List ℕ) → (is_quote b ≡ true) ⊎ (is_quote b ≡ false) → (is_quote c ≡ true) ⊎ (is_quote c ≡ false) → TextEnd (c ∷ bs) → TextEnd bs → TextEnd (b ∷ c ∷ bs)
text_end-two b c bs (inl quote) (inl again) one two = rw (eqb-true b 39 quote, eqb-true c 39 again) (text_end-quotes bs two)
text_end-two b c bs (inl quote) (inr other) one two = text_end-closed b (c ∷ bs) quote (not_from_false (is_quote c) other)
text_end-two b c bs (inr plain) next one two = text_end-byte b (c ∷ bs) plain one

-- the last byte of a script inside a text
text_end-last : (b : ℕ) → (is_quote b ≡ true) ⊎ (is_quote b ≡ false) → TextEnd (b ∷ [])
text_end-last b (inl quote) = text_end-closed b [] quote refl
text_end-last b (inr plain) = text_end-byte b [] plain (at_end [] refl)

-- each inside of a quoted text has an end
text_end : (bs : List ℕ) → TextEnd bs
text_end [] = at_end [] refl
text_end (b ∷ []) = text_end-last b (cases_Bool (is_quote b))
text_end (b ∷ c ∷ bs) = text_end-two b c bs (cases_Bool (is_quote b)) (cases_Bool (is_quote c)) (text_end (c ∷ bs)) (text_end bs)

-- a comment goes to the end of its line
record LineEnd (bs : List ℕ) : Type 0 where
  line : List ℕ
  rest : List ℕ
  is : bs ≡ line ++ rest
  plain : IsTrue (list_all (λ b. not (b == 10)) line)
  ends : IsTrue (is_end_of_line rest)

-- a newline ends the line, and any other byte comes to it
line_end-byte : (b : ℕ) (bs : List ℕ) → ((b == 10) ≡ true) ⊎ ((b == 10) ≡ false) → LineEnd bs → LineEnd (b ∷ bs)
line_end-byte b bs (inl newline) more = record { line = []; rest = b ∷ bs; is = refl; plain = refl; ends = newline }
line_end-byte b bs (inr other) more =
    record { line = b ∷ more.line; rest = more.rest; is = ap (λ (xs : List ℕ). b ∷ xs) more.is; plain = and_from (not (b == 10)) _ (not_from_false (b == 10) other) more.plain; ends = more.ends }

-- each line has an end
line_end : (bs : List ℕ) → LineEnd bs
line_end [] = record { line = []; rest = []; is = refl; plain = refl; ends = refl }
line_end (b ∷ bs) = line_end-byte b bs (cases_Bool (b == 10)) (line_end bs)

-- ---- the stretch that a script begins with

-- a stretch, and what follows it
record FirstStretch (script : List ℕ) : Type 0 where
  stretch : Stretch
  rest : List ℕ
  spelled : script ≡ stretch_spelling stretch ++ rest
  stands : StretchStands stretch rest

-- a quote begins a text, closed or not
text_first : (bs : List ℕ) → TextEnd bs → FirstStretch (39 ∷ bs)
text_first bs (at_quote q rest is closes) =
    record { stretch = quoted q; rest = rest; spelled = ap (λ (xs : List ℕ). 39 ∷ xs) (is ∙ sym (append_assoc (doubled q) (39 ∷ []) rest)); stands = closes }
text_first bs (at_end q is) =
    record { stretch = unclosed q; rest = []; spelled = ap (λ (xs : List ℕ). 39 ∷ xs) (is ∙ sym (append-nil (doubled q))); stands = refl }

-- two dashes begin a comment
comment_first : (bs : List ℕ) → LineEnd bs → FirstStretch (45 ∷ 45 ∷ bs)
comment_first bs line =
    record { stretch = comment line.line; rest = line.rest; spelled = ap (λ (xs : List ℕ). 45 ∷ 45 ∷ xs) line.is; stands = (line.plain, line.ends) }

-- a character is a stretch where it is no quote and begins no comment
single_first : (b : ℕ) (bs : List ℕ) → is_quote b ≡ false → (is_dash b && begins is_dash bs) ≡ false → FirstStretch (b ∷ bs)
single_first b bs plain lone =
    record { stretch = single b; rest = bs; spelled = refl; stands = (not_from_false (is_quote b) plain, not_from_false (is_dash b && begins is_dash bs) lone) }

-- a dash begins a comment where another follows
second_dash : (b : ℕ) (bs : List ℕ) → is_quote b ≡ false → is_dash b ≡ true → (begins is_dash bs ≡ true) ⊎ (begins is_dash bs ≡ false) → FirstStretch (b ∷ bs)
second_dash b bs plain dash (inr lone) = single_first b bs plain (and_right (is_dash b) (begins is_dash bs) lone)
second_dash b [] plain dash (inl second) = absurd (cc)
second_dash b (c ∷ bs) plain dash (inl second) = rw (eqb-true b 45 dash, eqb-true c 45 second) (comment_first bs (line_end bs))

-- a byte that is no quote begins a comment or is a character
dash_first : (b : ℕ) (bs : List ℕ) → is_quote b ≡ false → (is_dash b ≡ true) ⊎ (is_dash b ≡ false) → FirstStretch (b ∷ bs)
dash_first b bs plain (inr other) = single_first b bs plain (and_left (is_dash b) (begins is_dash bs) other)
dash_first b bs plain (inl dash) = second_dash b bs plain dash (cases_Bool (begins is_dash bs))

-- each script but the empty one begins with a stretch
first_stretch : (b : ℕ) (bs : List ℕ) → (is_quote b ≡ true) ⊎ (is_quote b ≡ false) → FirstStretch (b ∷ bs)
first_stretch b bs (inl quote) = rw (eqb-true b 39 quote) (text_first bs (text_end bs))
first_stretch b bs (inr plain) = dash_first b bs plain (cases_Bool (is_dash b))

-- ---- all of them

-- a stretch is a byte at least
stretch_is_some : (s : Stretch) → 1 ≤ length (stretch_spelling s)
stretch_is_some (quoted q) = omega arith
stretch_is_some (unclosed q) = omega arith
stretch_is_some (comment c) = omega arith
stretch_is_some (single b) = omega arith

-- a script of n bytes at most has stretches, since each leaves a shorter script
stretches_within : (n : ℕ) (script : List ℕ) → length script ≤ n → (ss : List Stretch) × AreStretchesOf ss script
stretches_within n [] fits = ([], refl)
stretches_within zero (b ∷ bs) fits = absurd (omega arith)
stretches_within (suc n) (b ∷ bs) fits =
    let first = first_stretch b bs (cases_Bool (is_quote b)) in
    let lengths : length (b ∷ bs) ≡ length (stretch_spelling first.stretch) + length first.rest = ap (λ (xs : List ℕ). length xs) first.spelled ∙ length-append (stretch_spelling first.stretch) first.rest in
    let more = stretches_within n first.rest (omega (arith, stretch_is_some first.stretch)) in
    (first.stretch ∷ more.0, (first.rest, first.spelled, first.stands, more.1))

-- each script has stretches
pub stretches_of : (script : List ℕ) → (ss : List Stretch) × AreStretchesOf ss script
stretches_of script = stretches_within (length script) script (omega arith)
