-- The pieces of a script: it is cut at each semicolon that stands outside texts and comments (docs/LANGUAGE.md, Scripts and tokens).
use Rattle.std.specs.Prelude.{◌≡◌, ℕ, ◌==◌, Bool, true, false, not, ◌&&◌, IsTrue, List, [], ◌∷◌, ◌++◌, if◌then◌else◌}
use Rattle.std.specs.List.{list_all}
use Rattle.cq_sql_language.specs.Characters.{is_blank, is_quote, is_dash, begins, is_end_of_line, doubled}

-- what a script is cut into: a quoted text, one that is never closed, a comment, or a single character
pub data Stretch : Type 0 where
  quoted : List ℕ → Stretch
  unclosed : List ℕ → Stretch
  comment : List ℕ → Stretch
  single : ℕ → Stretch

-- how it is written
abbrev pub stretch_spelling : Stretch → List ℕ
stretch_spelling (quoted q) = 39 ∷ doubled q ++ 39 ∷ []
stretch_spelling (unclosed q) = 39 ∷ doubled q
stretch_spelling (comment c) = 45 ∷ 45 ∷ c
stretch_spelling (single b) = b ∷ []

-- it is one, and the rest of the script does not make it longer
abbrev pub StretchStands : Stretch → List ℕ → Type 0
StretchStands (quoted q) rest = IsTrue (not (begins is_quote rest))
StretchStands (unclosed q) rest = rest ≡ []
StretchStands (comment c) rest = IsTrue (list_all (λ b. not (b == 10)) c) × IsTrue (is_end_of_line rest)
StretchStands (single b) rest = IsTrue (not (is_quote b)) × IsTrue (not (is_dash b && begins is_dash rest))

-- the script is these, one after the other
abbrev pub AreStretchesOf : List Stretch → List ℕ → Type 0
AreStretchesOf [] script = script ≡ []
AreStretchesOf (s ∷ ss) script = (rest : List ℕ) × (script ≡ stretch_spelling s ++ rest) × StretchStands s rest × AreStretchesOf ss rest

-- a piece without its semicolon; whether one ended it; whether it is blanks and comments alone
pub record PieceOf : Type 0 where
  pub text : List ℕ
  pub closed : Bool
  pub blank : Bool

-- a stretch of blanks or a comment
abbrev pub is_blank_stretch : Stretch → Bool
is_blank_stretch (quoted q) = false
is_blank_stretch (unclosed q) = false
is_blank_stretch (comment c) = true
is_blank_stretch (single b) = is_blank b

abbrev pub is_semicolon : Stretch → Bool
is_semicolon (single b) = b == 59
is_semicolon s = false

-- a stretch in front of the first piece
abbrev pub with_stretch : Stretch → List PieceOf → List PieceOf
with_stretch s [] = []
with_stretch s (p ∷ ps) = record { text = stretch_spelling s ++ p.text; closed = p.closed; blank = is_blank_stretch s && p.blank } ∷ ps

abbrev pub empty_piece : Bool → PieceOf
empty_piece closed = record { text = []; closed = closed; blank = true }

-- each semicolon ends a piece, and the last one has none
abbrev pub pieces_at : List Stretch → List PieceOf
pieces_at [] = empty_piece false ∷ []
pieces_at (s ∷ ss) = if is_semicolon s then empty_piece true ∷ pieces_at ss else with_stretch s (pieces_at ss)

-- the script is cut into these pieces
pub record HasPieces (script : List ℕ) (pieces : List PieceOf) : Type 0 where
  pub stretches : List Stretch
  pub cut : AreStretchesOf stretches script
  pub made : pieces_at stretches ≡ pieces
