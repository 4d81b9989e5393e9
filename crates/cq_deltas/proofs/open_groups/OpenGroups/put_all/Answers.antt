use Rattle.std.proofs.Common.{List, subst}
use Rattle.cq_deltas.specs.Additions.{Addition}
use Rattle.cq_deltas.specs.Keyed.{ArePut}
use Rattle.cq_deltas.specs.Placed.{row_read}
use Rattle.cq_deltas.proofs.MetKeys.{put-none}
use Rattle.cq_deltas.proofs.NextRow.{holds-next, put-next}
use Rattle.cq_deltas.proofs.Places.{all-additions, keep-refl, keep-trans, next-ready}
use Rattle.cq_deltas.proofs.open_groups.OpenGroups.put_all.Goals as goal

pub loop-index-init : goal.loop-index-init
loop-index-init c = record { put = put-none c.args.self.now; keep = keep-refl c.args.self.now }

pub put-requires-clause-room : goal.put-requires-clause-room
put-requires-clause-room c =
    next-ready c.args.self.now c.args.change.now c.loop-index.index (row_read c.row.result) c.row.ensures c.loop-index.self c.requires.keys c.loop-index.invariant.keep

pub put-requires-clause-holds : goal.put-requires-clause-holds
put-requires-clause-holds c =
    holds-next c.args.self.now c.args.change.now c.loop-index.index (row_read c.row.result) c.row.ensures c.loop-index.self c.requires.keys c.loop-index.invariant.keep
    c.requires.holds c.loop-index.invariant.put

pub loop-index-preserved : goal.loop-index-preserved
loop-index-preserved c = record {
  put =
      put-next c.args.self.now c.args.change.now c.loop-index.index (row_read c.row.result) c.row.ensures c.loop-index.self c.requires.keys c.loop-index.invariant.keep
      c.put.new.self c.loop-index.invariant.put c.put.ensures.put;
  keep = keep-trans c.args.self.now c.loop-index.self c.put.new.self c.loop-index.invariant.keep c.put.ensures.keep;
}

pub returns : goal.returns
returns c = record {
  put =
      subst (λ (xs : List Addition). ArePut c.args.self.now xs c.loop-index.self)
      (all-additions c.args.self.now c.args.change.now c.loop-index.index (rw c.len-index-end.ensures at c.loop-index-test.false)) c.loop-index.invariant.put;
  keep = c.loop-index.invariant.keep;
}
