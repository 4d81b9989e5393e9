use Rattle.std.proofs.Common.{List, map, take, ◌≡◌, ℕ}
use Rattle.std.specs.List.{fold}
use Rattle.cq_values.specs.Lent.{owned}
use Rattle.cq_encodings.specs.Dict.{with_text}
use Rattle.cq_encodings.proofs.dict.first_text.Given as goal

-- no text stands before
abbrev pub invariant-loop-value : goal.invariant-loop-value
invariant-loop-value l = (known : List (List ℕ)) → fold with_text known (map owned (take l.value-index l.values)) ≡ known
