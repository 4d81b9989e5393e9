use Rattle.std.proofs.lemmas.Result.{IfOk-weaker}
use Rattle.cq_deltas_joins.specs.Sources.{rows_at}
use Rattle.cq_views.specs.Changes.{changes_of}
use Rattle.cq_views.proofs.Standing.{can-prepare, cut-counts, cut-waits, ok-both, same-itself, same-view}
use Rattle.cq_views.proofs.Working.{counts-nothing, prepared-within}
use Rattle.cq_views.proofs.kept_view.KeptView.prepare.Goals as goal

pub returns-in_err-cut-clause-same : goal.returns-in_err-cut-clause-same
returns-in_err-cut-clause-same c = same-itself c.args.self.now

pub prepare-requires : goal.prepare-requires
prepare-requires c =
    let are = rw c.as_slice.ensures at c.in_ok-cut.ensures in
    can-prepare c.args.self.now (changes_of c.args.change.now) c.requires (rows_at c.in_ok-cut.cut.items) are

pub returns-clause-waiting : goal.returns-clause-waiting
returns-clause-waiting c =
    let are = rw c.as_slice.ensures at c.in_ok-cut.ensures in
    IfOk-weaker c.prepare.result _ _
    (λ pending waits. cut-waits c.args.self.now (changes_of c.args.change.now) c.requires (rows_at c.in_ok-cut.cut.items) are c.prepare.new.self pending waits) c.prepare.ensures.waiting

pub returns-clause-counts : goal.returns-clause-counts
returns-clause-counts c =
    let are = rw c.as_slice.ensures at c.in_ok-cut.ensures in
    ok-both c.prepare.result
    (λ pending waits rows. cut-counts c.args.self.now (changes_of c.args.change.now) c.requires (rows_at c.in_ok-cut.cut.items) are c.prepare.new.self pending waits c.prepare.ensures.counts rows c.prepare.ensures.more)
    c.prepare.ensures.waiting c.prepare.ensures.rows

pub returns-in_err-cut-clause-within : goal.returns-in_err-cut-clause-within
returns-in_err-cut-clause-within c = counts-nothing c.args.self.now (changes_of c.args.change.now)

pub returns-clause-within : goal.returns-clause-within
returns-clause-within c =
    let are = rw c.as_slice.ensures at c.in_ok-cut.ensures in
    let old = c.args.self.now in
    let new = c.prepare.new.self in
    prepared-within old (changes_of c.args.change.now) (rows_at c.in_ok-cut.cut.items) are new c.prepare.ensures.counts c.prepare.ensures.more c.prepare.result
    (same-view old new c.prepare.ensures.same) (returns-clause-counts c) c.prepare.ensures.failed
