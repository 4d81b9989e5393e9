use Rattle.std.proofs.Common.{◌<◌}
use Rattle.std.specs.Prelude.{IfSome}
use Rattle.cq_prims_texts.specs.Named.{AreFalseBut}
use Rattle.cq_prims_texts.proofs.by_codes.one_true.Given as goal

-- the entries so far are False but for the one, which is one of them
abbrev pub invariant-loop-place : goal.invariant-loop-place
invariant-loop-place l = AreFalseBut l.one l.place l.truths × IfSome l.one (λ one. one < l.place)
