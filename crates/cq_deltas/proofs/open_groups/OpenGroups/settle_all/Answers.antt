use Rattle.std.proofs.Common.{◌≡◌, ◌∙◌, List, [], ap, subst, slice_get, unwrap_or}
use Rattle.std.proofs.lemmas.Bool.{or_parts}
use Rattle.cq_values.specs.Order.{same_row}
use Rattle.cq_values.specs.Value.{Row}
use Rattle.cq_deltas.specs.Additions.{Addition}
use Rattle.cq_deltas.specs.Keyed.{AreSettled, addition_at, additions_at, is_met, key_at}
use Rattle.cq_deltas.specs.Placed.{row_read}
use Rattle.cq_deltas.proofs.MetKeys.{settled-more}
use Rattle.cq_deltas.proofs.Places.{addition-is, addition-within, all-additions}
use Rattle.cq_deltas.proofs.open_groups.OpenGroups.settle_all.Goals as goal

pub loop-index-preserved : goal.loop-index-preserved
loop-index-preserved c =
    let old = c.args.self.now in
    let rows = c.args.change.now in
    let i = c.loop-index.index in
    let x = row_read c.row.result in
    let now = c.loop-index.self in
    let new = c.settle-is_empty.new.self in
    let at = c.row.ensures in
    let so_far = c.loop-index.invariant in
    let key : key_at now x.place ≡ key_at old x.place = ap (λ (ks : List Row). unwrap_or (slice_get ks x.place) []) so_far.keys in
    record {
      same = λ k. c.settle-is_empty.ensures.same k ∙ so_far.same k;
      keys = c.settle-is_empty.ensures.keys ∙ so_far.keys;
      full = λ e.
          let both = or_parts c.loop-index.is_empty c.settle-is_empty.result e in
          settled-more (additions_at old rows) i (addition_at old x) old now new (addition-within old rows i x at) (addition-is old rows i x at) (so_far.full both.0)
          (subst (λ (k : Row). AreSettled (same_row k) now new) key (c.settle-is_empty.ensures.full both.1));
    }

pub returns-clause-full : goal.returns-clause-full
returns-clause-full c =
    let old = c.args.self.now in
    λ e.
    subst (λ (xs : List Addition). AreSettled (is_met xs) old c.loop-index.self)
    (all-additions old c.args.change.now c.loop-index.index (rw c.len-index-end.ensures at c.loop-index-test.false)) (c.loop-index.invariant.full e)
