use Rattle.std.proofs.Common.{Bool, sym, ap}
use Rattle.cq_binder_rules.specs.declared.fault.Fault.TheVariants.{NameTaken}
use Rattle.cq_binder_rules.specs.Checks.{fault_if}
use Rattle.cq_binder_queries.proofs.Faults.{columns_more, found, passed}
use Rattle.cq_binder_queries.proofs.lists.check_names.Goals as goal

pub returns-then-is_declared : goal.returns-then-is_declared
returns-then-is_declared c =
    let m = columns_more c.args.columns.now c.loop-i.i c.index-columns-i.result c.loop-i-test.true c.index-columns-i.is in
    found _ _ _ _ _ (ap (λ (b : Bool). fault_if b NameTaken) (sym c.if-is_declared.ensures)) m c.loop-i.invariant

pub loop-i-preserved : goal.loop-i-preserved
loop-i-preserved c =
    let m = columns_more c.args.columns.now c.loop-i.i c.index-columns-i.result c.loop-i-test.true c.index-columns-i.is in
    passed _ _ _ _ (ap (λ (b : Bool). fault_if b NameTaken) (sym c.if-is_declared.ensures)) m c.loop-i.invariant
