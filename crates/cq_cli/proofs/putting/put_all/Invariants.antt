use Rattle.std.proofs.Common.{◌≡◌, ℕ, List, ◌++◌, length}
use Rattle.std.specs.Io.KnownBytes.{Appends}
use Rattle.cq_cli.proofs.putting.put_all.Given as goal

-- a prefix was written, and the rest is left; nothing was flushed
abbrev pub invariant-loop-rest : goal.invariant-loop-rest
invariant-loop-rest g l =
    ((prefix : List ℕ) × (l.bytes ≡ prefix ++ l.rest) × Appends (g.K.Sink.contents l.fn.out) (g.K.Sink.contents l.out) prefix × (g.K.Sink.failures l.out ≡ g.K.Sink.failures l.fn.out))
    × (g.K.Sink.flushes l.out ≡ g.K.Sink.flushes l.fn.out)

abbrev pub decreases-loop-rest : goal.decreases-loop-rest
decreases-loop-rest g l = length l.rest
