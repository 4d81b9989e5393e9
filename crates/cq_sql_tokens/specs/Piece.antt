-- What a piece in the code is, and how the first one of a text is told.
use Rattle.std.specs.Prelude.{ℕ, List, ◌∷◌, Option, ◌≡◌}
use Rattle.cq_sql_language.specs.Pieces.{PieceOf}
use Rattle.cq_sql_tokens.specs.Cutting.{pieces_left, pieces_of}
use Rattle.cq_sql_tokens.specs.declared.pieces.Piece.{Piece}

-- its text, whether a semicolon ended it, and whether it is blank
abbrev pub piece_of : Piece → PieceOf
piece_of piece = record { text = piece.text.now; closed = piece.closed; blank = piece.blank }

-- the text begins with this piece, and the others are those of the rest
abbrev pub BeginsWith : List ℕ → Piece → Option (List ℕ) → Type 0
BeginsWith text piece rest = pieces_of text ≡ piece_of piece ∷ pieces_left rest
