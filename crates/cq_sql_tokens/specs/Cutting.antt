-- How the splitter goes over a script, byte by byte. What the pieces of a script are, `HasPieces` says.
use Rattle.std.specs.Prelude.{ℕ, ◌+◌, Bool, true, false, Option, Some, None, ◌&&◌, ◌||◌, ◌==◌, if◌then◌else◌, List, [], ◌∷◌, ◌++◌}
use Rattle.cq_sql_language.specs.Characters.{is_blank, is_quote, is_dash}
use Rattle.cq_sql_language.specs.Pieces.{PieceOf}
use Rattle.cq_sql_tokens.specs.declared.cutting.Context.{Context}
use Rattle.cq_sql_tokens.specs.declared.cutting.Context.TheVariants.{Outside, AfterDash, InText, InComment}

-- what the next byte stands in, after a byte outside texts and comments
abbrev pub after_outside : ℕ → Context
after_outside b = if is_quote b then InText else if is_dash b then AfterDash else Outside

-- what the byte after this one stands in
abbrev pub context_after : Context → ℕ → Context
context_after Outside b = after_outside b
context_after AfterDash b = if is_dash b then InComment else after_outside b
context_after InText b = if is_quote b then Outside else InText
context_after InComment b = if b == 10 then Outside else InComment

-- a semicolon outside texts and comments ends a piece
abbrev pub ends_piece : Context → ℕ → Bool
ends_piece Outside b = b == 59
ends_piece AfterDash b = b == 59
ends_piece InText b = false
ends_piece InComment b = false

-- the byte may stand in a blank piece; a dash is told by the next byte
abbrev pub stays_blank : Context → ℕ → Bool
stays_blank Outside b = is_blank b || is_dash b
stays_blank AfterDash b = is_dash b
stays_blank InText b = false
stays_blank InComment b = true

-- a piece that was blank so far is blank if it ends here
abbrev pub is_blank_end : Context → Bool
is_blank_end Outside = true
is_blank_end AfterDash = false
is_blank_end InText = false
is_blank_end InComment = true

-- how many bytes stand before the first cut
abbrev pub cut_end : Context → List ℕ → ℕ
cut_end here [] = 0
cut_end here (b ∷ bs) = if ends_piece here b then 0 else 1 + cut_end (context_after here b) bs

-- the bytes before the first cut leave the piece blank
abbrev pub cut_blank : Context → List ℕ → Bool
cut_blank here [] = is_blank_end here
cut_blank here (b ∷ bs) =
    if ends_piece here b then is_blank_end here else stays_blank here b && cut_blank (context_after here b) bs

-- a text in front of the first piece, which stays blank where the text is
abbrev pub with_text : Bool → List ℕ → List PieceOf → List PieceOf
with_text blank text [] = []
with_text blank text (p ∷ ps) = record { text = text ++ p.text; closed = p.closed; blank = blank && p.blank } ∷ ps

-- the pieces of a script whose first byte stands here
abbrev pub pieces_from : Context → List ℕ → List PieceOf
pieces_from here [] = record { text = []; closed = false; blank = is_blank_end here } ∷ []
pieces_from here (b ∷ bs) =
    if ends_piece here b then record { text = []; closed = true; blank = is_blank_end here } ∷ pieces_from Outside bs
    else with_text (stays_blank here b) (b ∷ []) (pieces_from (context_after here b) bs)

-- the pieces of a script: its last one has no semicolon
abbrev pub pieces_of : List ℕ → List PieceOf
pieces_of script = pieces_from Outside script

-- the pieces of what is left, where something is left
abbrev pub pieces_left : Option (List ℕ) → List PieceOf
pieces_left None = []
pieces_left (Some script) = pieces_of script
