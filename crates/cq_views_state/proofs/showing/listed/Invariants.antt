use Rattle.std.proofs.Common.{◌≡◌, [], take}
use Rattle.cq_model_bags.specs.Bag.{SameBag, once_each}
use Rattle.cq_views_state.proofs.showing.listed.Given as goal

-- the entries so far are listed
abbrev pub invariant-loop-place : goal.invariant-loop-place
invariant-loop-place l = record {
  bag : SameBag (once_each l.rows.rows) (take l.place l.images.entries);
  begun : l.rows.begun ≡ [];
}
