use Rattle.std.proofs.Common.{◌≡◌, length}
use Rattle.cq_cli.proofs.Runs.{HasRun}
use Rattle.cq_cli.proofs.running.run_text.Given as goal

-- the pieces served and those that are left make up the script; nothing was flushed
abbrev pub invariant-loop-piece : goal.invariant-loop-piece
invariant-loop-piece g l =
    HasRun (g.S.Sources.files l.fn.from) l.fn.limits.max_rows l.script l.pieces (g.K.Sink.contents l.fn.out) (g.K.Sink.contents l.out) (g.K.Sink.failures l.fn.out) (g.K.Sink.failures l.out)
    (g.S.Sources.failures l.fn.from) (g.S.Sources.failures l.from) l.engine.state l.status
    × (g.S.Sources.files l.from ≡ g.S.Sources.files l.fn.from)
    × (g.K.Sink.flushes l.out ≡ g.K.Sink.flushes l.fn.out)

abbrev pub decreases-loop-piece : goal.decreases-loop-piece
decreases-loop-piece g l = length l.pieces
