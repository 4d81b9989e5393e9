-- What holds of the pieces of a script and of the tokens of a text.
use Rattle.std.specs.Prelude.{◌≡◌, ◌≤◌, ℕ, List, count_by, length}
use Rattle.cq_sql_language.specs.declared.token.Token.{Token}
use Rattle.cq_sql_language.specs.Pieces.{HasPieces, PieceOf}
use Rattle.cq_sql_language.specs.Tokens.{HasTokens}

-- a script has one list of pieces
abbrev pub OneSplit : Type 0
OneSplit =
    (script : List ℕ) (pieces others : List PieceOf) → HasPieces script pieces → HasPieces script others → pieces ≡ others

-- a script has no more pieces that a semicolon ends than bytes
abbrev pub ClosedPiecesFit : Type 0
ClosedPiecesFit =
    (script : List ℕ) (pieces : List PieceOf) → HasPieces script pieces → count_by (λ piece. piece.closed) pieces ≤ length script

-- a text is cut into tokens in one way
abbrev pub OneCut : Type 0
OneCut = (text : List ℕ) (ts us : List Token) → HasTokens text ts → HasTokens text us → ts ≡ us
