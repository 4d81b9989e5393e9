-- A value beside one that may be wanting.
use Rattle.std.specs.Prelude.{◌≡◌, Result, Ok, Err, MatchResult}

-- both are there where the second is, and else it is told why it is wanting
abbrev pub IsBoth : {T U E : Type 0} → T → Result U E → Result (T × U) E → Type 0
IsBoth first second result = MatchResult result (λ pair. (pair.0 ≡ first) × (second ≡ Ok pair.1)) (λ fault. second ≡ Err fault)
