use Rattle.std.proofs.Common.{rules}
use Rattle.cq_model_step.specs.Output.{sentence}
use Rattle.cq_sql_tokens.specs.Piece.{piece_of}
use Rattle.cq_cli.proofs.Serving.{piece-memory}
use Rattle.cq_cli.proofs.running.answer.Goals as goal

pub returns-in-Ok-clause-served : goal.returns-in-Ok-clause-served
returns-in-Ok-clause-served g c = sentence (search rules) c.in-Ok.statement c.in-Ok.ensures c.step-answer.ensures.step

pub returns-in-Ok-clause-memory : goal.returns-in-Ok-clause-memory
returns-in-Ok-clause-memory g c = piece-memory _ c.args.engine.now.state c.step-answer.new.self.state (piece_of c.args.piece.now) c.in-Ok.statement c.step-answer.result (search rules) c.in-Ok.ensures c.step-answer.ensures.rows
