use Rattle.std.proofs.Common.{◌∙◌, ◌+◌, ap, subst, sym, ℕ, length, arith}
use Rattle.cq_deltas.specs.Keyed.{KeyedGroups}
use Rattle.cq_deltas.specs.Placed.{row_read}
use Rattle.cq_deltas.proofs.Leaving.{Leaves, leave-again, leave-all, leave-next, leave-none, stands-now}
use Rattle.cq_deltas.proofs.open_groups.OpenGroups.drop_empty.Goals as goal
use Rattle.cq_deltas.proofs.open_groups.OpenGroups.drop_empty.Goals.{then-row-end, else-row-end}

pub loop-index-init : goal.loop-index-init
loop-index-init c =
    subst (λ (end : ℕ). Leaves c.args.self.now c.args.change.now 0 end c.args.self.now) (sym (c.len-end.ensures.len ∙ ap (λ (groups : KeyedGroups). length groups) c.self.view_is))
    (leave-none c.args.self.now c.args.change.now c.requires.there)

pub drop_if_empty-requires : goal.drop_if_empty-requires
drop_if_empty-requires c =
    stands-now c.args.self.now c.args.change.now c.requires.sorted c.requires.there c.loop-index.index c.loop-index.end c.loop-index.self (row_read c.row-row.result) c.row-row.ensures
    c.loop-index.invariant c.if-row-end.true

pub loop-index-preserved : goal.loop-index-preserved
loop-index-preserved c =
    let old = c.args.self.now in
    let rows = c.args.change.now in
    let i = c.loop-index.index in
    let x = row_read c.row-row.result in
    elim c.if-row-end.branch [
      | then-row-end w ↦
          subst (λ (now : KeyedGroups). Leaves old rows (i + 1) x.place now) (sym w.self-is)
          (leave-next old rows c.requires.sorted c.requires.there i c.loop-index.end c.loop-index.self x c.row-row.ensures c.loop-index.invariant w.if-row-end.true w.drop_if_empty.new.self
          w.drop_if_empty.ensures.settled w.drop_if_empty.ensures.front)
      | else-row-end w ↦
          subst (λ (now : KeyedGroups). Leaves old rows (i + 1) x.place now) (sym w.self-is)
          (leave-again old rows c.requires.sorted c.requires.there i c.loop-index.end c.loop-index.self x c.row-row.ensures c.loop-index.invariant (λ lt. omega (arith, lt, w.if-row-end.false)))
    ]

pub returns : goal.returns
returns c =
    leave-all c.args.self.now c.args.change.now c.loop-index.index c.loop-index.end c.loop-index.self (rw c.len-index-end.ensures at c.loop-index-test.false) c.loop-index.invariant
