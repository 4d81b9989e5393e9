use Rattle.std.proofs.Common.{rules, arith, refl, subst, ◌∙◌}
use Rattle.cq_model_step.specs.Output.{Serves}
use Rattle.cq_sql_tokens.specs.Piece.{piece_of}
use Rattle.cq_cli.proofs.Runs.{cut_off, ends, has_reads, has_room, passes, serves, starts}
use Rattle.cq_cli.proofs.Serving.{serves_piece}
use Rattle.cq_cli.specs.Running.{MayLackMemory}
use Rattle.cq_cli.proofs.running.run_text.Goals as goal

pub loop-piece-init : goal.loop-piece-init
loop-piece-init g c = (starts _ c.args.limits.max_rows c.args.script.now _ _ _ _ c.new-engine.result.state c.split-pieces.ensures c.new-engine.ensures, refl, refl)

pub answer-outcome-requires-clause-drawn : goal.answer-outcome-requires-clause-drawn
answer-outcome-requires-clause-drawn g c =
    has_room _ c.args.limits.max_rows c.args.script.now _ _ _ _ _ _ c.loop-piece.engine.state c.loop-piece.status (piece_of c.in-Some.piece) _ _ c.in-Some.ensures.steps c.loop-piece.invariant.0 (c.closed_pieces_fit.ensures c.args.script.now) (omega arith)

pub answer-outcome-requires-clause-failures : goal.answer-outcome-requires-clause-failures
answer-outcome-requires-clause-failures g c =
    has_reads _ c.args.limits.max_rows c.args.script.now _ _ _ _ _ _ c.loop-piece.engine.state c.loop-piece.status (piece_of c.in-Some.piece) _ _ c.in-Some.ensures.steps c.loop-piece.invariant.0 (c.closed_pieces_fit.ensures c.args.script.now) c.requires.sources

pub loop-piece-preserved-in-Ok : goal.loop-piece-preserved-in-Ok
loop-piece-preserved-in-Ok g c = (
  rw c.and-status.ensures (serves _ c.args.limits.max_rows c.args.script.now _ _ _ _ _ _ c.loop-piece.engine.state c.loop-piece.status (piece_of c.in-Some.piece) _ _ c.in-Some.ensures.steps c.loop-piece.invariant.0 _ _ _ c.answer-outcome.new.engine.state c.in-Ok.served (search rules)
      (serves_piece _ _ c.loop-piece.engine.state (piece_of c.in-Some.piece) c.answer-outcome.new.engine.state _ _ _ _ c.answer-outcome.result _ (subst (λ source. Serves source c.loop-piece.engine.state (piece_of c.in-Some.piece) c.answer-outcome.result c.answer-outcome.new.engine.state) c.loop-piece.invariant.1 c.answer-outcome.ensures.served) (subst (λ source. MayLackMemory source c.loop-piece.engine.state (piece_of c.in-Some.piece) c.answer-outcome.result c.answer-outcome.new.engine.state) c.loop-piece.invariant.1 c.answer-outcome.ensures.memory) c.answer-outcome.ensures.failures c.in-Ok.ensures.told)),
  c.answer-outcome.ensures.files ∙ c.loop-piece.invariant.1,
  c.in-Ok.ensures.flushes ∙ c.loop-piece.invariant.2,
)

pub returns-in-Err-clause-ran : goal.returns-in-Err-clause-ran
returns-in-Err-clause-ran g c =
    (cut_off _ c.args.limits.max_rows c.args.script.now _ _ _ _ _ _ c.loop-piece.engine.state c.loop-piece.status (piece_of c.in-Some.piece) _ _ c.in-Some.ensures.steps c.loop-piece.invariant.0 _ _ _ c.answer-outcome.new.engine.state c.in-Err.fault _ c.utf8.script (search rules)
    (serves_piece _ _ c.loop-piece.engine.state (piece_of c.in-Some.piece) c.answer-outcome.new.engine.state _ _ _ _ c.answer-outcome.result _ (subst (λ source. Serves source c.loop-piece.engine.state (piece_of c.in-Some.piece) c.answer-outcome.result c.answer-outcome.new.engine.state) c.loop-piece.invariant.1 c.answer-outcome.ensures.served) (subst (λ source. MayLackMemory source c.loop-piece.engine.state (piece_of c.in-Some.piece) c.answer-outcome.result c.answer-outcome.new.engine.state) c.loop-piece.invariant.1 c.answer-outcome.ensures.memory) c.answer-outcome.ensures.failures c.in-Err.ensures.told))

pub loop-piece-preserved : goal.loop-piece-preserved
loop-piece-preserved g c = (
  passes _ c.args.limits.max_rows c.args.script.now _ _ _ _ _ _ c.loop-piece.engine.state c.loop-piece.status (piece_of c.in-Some.piece) _ _ c.in-Some.ensures.steps c.loop-piece.invariant.0 (search rules),
  c.loop-piece.invariant.1,
  c.loop-piece.invariant.2,
)

pub returns-clause-ran : goal.returns-clause-ran
returns-clause-ran g c =
    ends _ c.args.limits.max_rows c.args.script.now _ _ _ _ _ _ _ c.loop-piece.engine.state c.loop-piece.status c.utf8.script c.in_default.ensures.steps.0 c.loop-piece.invariant.0
