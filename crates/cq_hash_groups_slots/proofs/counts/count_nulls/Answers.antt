use Rattle.std.proofs.Common.{◌≡◌, ℕ, ◌+◌, ◌<◌, ◌≤◌, Bool, cond, drop, length, get_or, set, rules, arith, refl, ◌∙◌, ap}
use Rattle.std.proofs.lemmas.List.{get_or_default, length-set}
use Rattle.cq_values.specs.declared.value.Value.TheVariants.{Null}
use Rattle.cq_hash_groups_sums.specs.Puts.{most_before, put_all}
use Rattle.cq_hash_groups_slots.specs.Puts.{put_null}
use Rattle.cq_hash_groups_sums.proofs.Putting.{put-next, set-each}
use Rattle.cq_hash_groups_slots.proofs.Known.{null-next}
use Rattle.cq_hash_groups_slots.proofs.counts.count_nulls.Goals as goal

pub loop-place-preserved : goal.loop-place-preserved
loop-place-preserved c =
    let place = c.loop-place.place in
    let numbers = c.args.numbers.now in
    let values = c.args.values.now in
    let counts = c.loop-place.counts in
    let n = get_or numbers place 0 in
    let so_far = c.loop-place.invariant in
    let next = c.with_null.result in
    let most = most_before (length numbers) in
    let lt : place < length numbers = first_of (omega arith, search rules) in
    let v = get_or values place Null in
    let made : next ≡ put_null (get_or counts n 0) v = c.with_null.ensures ∙ ap (λ (b : Bool). cond b (get_or counts n 0 + 1) (get_or counts n 0)) c.is_null_at.ensures in
    record {
      rest =
          ap (λ (x : ℕ). put_all put_null 0 (drop (place + 1) numbers) (drop (place + 1) values) (set counts n x)) made
          ∙ put-next put_null 0 numbers values counts place n v lt c.requires.same (get_or_default numbers place 0 n lt) refl
          ∙ so_far.rest;
      within = set-each (λ g x. x ≤ most + (place + 1)) counts n next 0
          (omega (arith, null-next (most + place) (get_or counts n 0) next c.is_null_at.result c.with_null.ensures (so_far.within n))) (λ g. omega (arith, so_far.within g));
      same = length-set counts n next ∙ so_far.same;
    }
