use Rattle.std.proofs.Common.{◌≡◌, ◌∙◌, Some, ap, sym, int_eq, pos, slice_get, rules}
use Rattle.std.specs.Map.{values_of}
use Rattle.cq_views_model.specs.Kept.{Group as Seen}
use Rattle.cq_deltas.proofs.AtKeys.{is_without_rows, over-same, settled-already}
use Rattle.cq_deltas.proofs.Places.{held-there, over-keys, writes}
use Rattle.cq_deltas.proofs.open_groups.OpenGroups.settle.Goals as goal

pub returns : goal.returns
returns c =
    let old = c.self.inside.groups in
    let place = c.args.row.place in
    let group = c.in-Some.group.now in
    let at : slice_get (values_of old.entries) place ≡ Some group = search rules in
    let distinct = c.get_index_mut.ensures.unique in
    let held = held-there old.entries place group distinct at in
    let same = over-same _ _ _ group c.settle.new.self (writes old place group c.settle.new.self distinct at) held c.settle.ensures in
    rw (← c.self.view_is) (record {
      same = same;
      keys = over-keys group c.settle.new.self old.entries place;
      full = λ e.
          settled-already old.entries _ _ same
          (ap is_without_rows held ∙ ap (λ (g : Seen). int_eq g.count (pos 0)) (sym c.settle.ensures) ∙ sym c.is_empty.ensures ∙ e);
    })
