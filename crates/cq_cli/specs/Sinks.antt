-- What a sink tells of the bytes that it was given.
use Rattle.std.specs.Prelude.{ℕ, List, Result}
use Rattle.cq_cli.specs.declared.sink.Sink.{Ghosts as Sink}
use Rattle.cq_cli.specs.Writing.{Wrote}

-- all of a text was put and nothing failed, or a prefix of it was
abbrev pub Writes : {K A E : Type 0} → List ℕ → Sink K → K → K → Result A E → Type 0
Writes text sink old new result = Wrote text (sink.contents old) (sink.contents new) (sink.failures old) (sink.failures new) result
