use Rattle.std.proofs.Common.{◌∙◌, ◌*◌, ℕ, arith, subst, sym}
use Rattle.cq_engine_writes.specs.Changing.{TellsAtMost}
use Rattle.cq_engine_writes.proofs.Updates.{images_fitting, length_come, replaced_table}
use Rattle.cq_engine_writes.proofs.updating.update_rows.Goals as goal

pub replace-requires-clause-live : goal.replace-requires-clause-live
replace-requires-clause-live c = c.in_ok-found.ensures.ready.found.live

pub replace-requires-clause-count : goal.replace-requires-clause-count
replace-requires-clause-count c =
    length_come c.args.asked c.args.table.now c.args.assignments.now c.args.condition.now c.requires.can c.in_ok-found.found c.in_ok-found.images.items c.in_ok-found.change c.in_ok-found.ensures.ready

pub replace-requires-clause-fitting : goal.replace-requires-clause-fitting
replace-requires-clause-fitting c =
    images_fitting c.args.asked c.args.table.now c.args.assignments.now c.args.condition.now c.requires.can c.in_ok-found.found c.in_ok-found.images.items c.in_ok-found.change c.in_ok-found.ensures.ready c.requires.fitting

pub returns-clause-updates : goal.returns-clause-updates
returns-clause-updates c =
    let places = c.in_ok-found.found in
    let come = c.in_ok-found.images.items in
    let ready = c.in_ok-found.ensures.ready in (
      ready.free,
      c.len.ensures ∙ ready.found.count,
      replaced_table c.args.asked c.args.table.now c.args.assignments.now c.args.condition.now c.requires.can places come c.in_ok-found.change ready c.replace.new.self.is (c.in_ok-replace.ensures.ok c.args.condition.now ready.found),
    )

pub returns-clause-lengths : goal.returns-clause-lengths
returns-clause-lengths c = record {
  write_len = omega (arith, c.in_ok-replace.ensures.lengths.write_len, c.len.ensures, length_come c.args.asked c.args.table.now c.args.assignments.now c.args.condition.now c.requires.can c.in_ok-found.found c.in_ok-found.images.items c.in_ok-found.change c.in_ok-found.ensures.ready);
  segments = c.in_ok-replace.ensures.lengths.segments;
}

pub returns-clause-change : goal.returns-clause-change
returns-clause-change c = c.in_ok-found.ensures.ready.tells

pub returns-clause-most : goal.returns-clause-most
returns-clause-most c = subst (λ (n : ℕ). TellsAtMost (2 * n) c.in_ok-found.change) (sym c.len.ensures) c.in_ok-found.ensures.ready.few
