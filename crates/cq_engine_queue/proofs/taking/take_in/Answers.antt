use Rattle.std.proofs.Common.{◌≡◌, ◌+◌, false, None, refl, rules, sym, subst, arith}
use Rattle.std.specs.Prelude.{OnErr, Result, Ok, Err}
use Rattle.cq_model_bags.specs.Bag.{Weighted}
use Rattle.cq_model.specs.declared.query.Source.TheVariants.{Table}
use Rattle.cq_views.specs.Filling.{only}
use Rattle.cq_views.specs.State.{CanPrepare}
use Rattle.cq_views.specs.Work.{CountsWithin}
use Rattle.cq_views_model.specs.Query.{reads}
use Rattle.cq_engine_tables.specs.Taking.{CountsReady, IsReadyFor}
use Rattle.cq_engine_queue.specs.Taking.{changes_by}
use Rattle.cq_engine_tables.proofs.Unchanged.{same_itself}
use Rattle.cq_engine_queue.proofs.Following.{can-prepare, takes}
use Rattle.cq_engine_queue.proofs.taking.take_in.Goals as goal

refused : {X E : Type 0} {P : Type 0} (result : Result X E) → P → OnErr result P
refused (Ok x) p = tt
refused (Err f) p = p

pub returns-then-not-is_on-clause-ok : goal.returns-then-not-is_on-clause-ok
returns-then-not-is_on-clause-ok c =
    let v = c.args.view.now in
    let change = c.args.change.now in
    let none : reads change.table v.kept.query ≡ false = search rules in
    takes c.standing_depends_on_sources.ensures c.counts_are_within_work.ensures c.counts_rise_where_changed.ensures change v v c.commit.new.self None (same_itself v) (λ tables stands. none) refl
    c.commit.ensures

pub returns-in_err-gone-clause-err : goal.returns-in_err-gone-clause-err
returns-in_err-gone-clause-err c = refused c.from_residual.result (same_itself c.args.view.now)

pub returns-in_err-gone-clause-within : goal.returns-in_err-gone-clause-within
returns-in_err-gone-clause-within c = refused c.from_residual.result (record { more = omega arith; most = λ tables changes can. omega arith })

pub prepare-requires : goal.prepare-requires
prepare-requires c =
    let v = c.args.view.now in
    let change = c.args.change.now in
    rw (c.table-2.ensures, c.deref.ensures.value, c.deref-2.ensures.value)
    (subst (λ (rows : Weighted). CanPrepare v.kept (only (Table change.table) rows)) c.in_ok-gone.ensures (can-prepare v change c.requires))

pub returns-in_err-pending-clause-within : goal.returns-in_err-pending-clause-within
returns-in_err-pending-clause-within c =
    let v = c.args.view.now in
    let change = c.args.change.now in
    let within = rw (c.table-2.ensures, c.deref.ensures.value, c.deref-2.ensures.value) at c.prepare.ensures.within in
    let own : CountsWithin v.kept (changes_by change) c.prepare.new.self.kept =
    subst (λ (rows : Weighted). CountsWithin v.kept (only (Table change.table) rows) c.prepare.new.self.kept) (sym c.in_ok-gone.ensures) within in
    refused c.from_residual-in_err-pending.result (record {
      more = own.more;
      most = λ tables changes can. own.most tables changes can.same can.suits.stands can.told;
    })

pub returns-clause-ok : goal.returns-clause-ok
returns-clause-ok c =
    let v = c.args.view.now in
    let change = c.args.change.now in
    let w = c.prepare.new.self in
    let p = c.in_ok-pending.pending in
    let ready = rw (c.table-2.ensures, c.deref.ensures.value, c.deref-2.ensures.value) at c.in_ok-pending.ensures.ready in
    let counted = rw (c.table-2.ensures, c.deref.ensures.value, c.deref-2.ensures.value) at c.in_ok-pending.ensures.counts in
    let own : IsReadyFor change.table (changes_by change) v w p =
    subst (λ (rows : Weighted). IsReadyFor change.table (only (Table change.table) rows) v w p) (sym c.in_ok-gone.ensures) ready in
    let counts : CountsReady (changes_by change) v w p = subst (λ (rows : Weighted). CountsReady (only (Table change.table) rows) v w p) (sym c.in_ok-gone.ensures) counted in
    takes c.standing_depends_on_sources.ensures c.counts_are_within_work.ensures c.counts_rise_where_changed.ensures change v w c.commit-2.new.self p c.in_ok-pending.ensures.same own counts
    c.commit-2.ensures
