use Rattle.std.proofs.Common.{◌≡◌, ℕ, ◌+◌, ◌<◌, ◌≤◌, List, Bool, false, cond, drop, length, get_or, set, arith, refl, ◌∙◌, ap}
use Rattle.std.proofs.lemmas.List.{get_or_default, get_or-map, length-map, length-set}
use Rattle.cq_values.specs.declared.value.Value.TheVariants.{Null}
use Rattle.cq_model.specs.Condition.{is_null}
use Rattle.cq_hash_groups_sums.specs.Puts.{most_before, put_all}
use Rattle.cq_hash_groups_slots.specs.Puts.{put_count}
use Rattle.cq_hash_groups_slots.proofs.Known.{known-next}
use Rattle.cq_hash_groups_sums.proofs.Putting.{put-next, set-each}
use Rattle.cq_hash_groups_slots.proofs.counts.count_known.Goals as goal

pub loop-place-preserved : goal.loop-place-preserved
loop-place-preserved c =
    let place = c.loop-place.place in
    let numbers = c.args.numbers.now in
    let nulls = c.args.nulls.now in
    let counts = c.loop-place.counts in
    let n = get_or numbers place 0 in
    let so_far = c.loop-place.invariant in
    let next = c.with_known.result in
    let most = most_before (length numbers) in
    let lt : place < length numbers = omega (arith, c.loop-place-test.true, c.requires.same, c.len-place-end.ensures.len) in
    record {
      rest = λ values are.
          let v = get_or values place Null in
          let same : length numbers ≡ length values = c.requires.same ∙ ap length are ∙ length-map values is_null in
          let flag : get_or nulls place false ≡ is_null v = ap (λ (fs : List Bool). get_or fs place false) are ∙ get_or-map is_null values place Null false (omega (arith, lt, same)) in
          let made : next ≡ put_count (get_or counts n 0) v = c.with_known.ensures ∙ ap (λ (b : Bool). cond b (get_or counts n 0) (get_or counts n 0 + 1)) (c.get.ensures ∙ flag) in
          ap (λ (x : ℕ). put_all put_count 0 (drop (place + 1) numbers) (drop (place + 1) values) (set counts n x)) made
          ∙ put-next put_count 0 numbers values counts place n v lt same (get_or_default numbers place 0 n lt) refl
          ∙ so_far.rest values are;
      within = set-each (λ g x. x ≤ most + (place + 1)) counts n next 0
          (omega (arith, known-next (most + place) (get_or counts n 0) next c.get.result c.with_known.ensures (so_far.within n))) (λ g. omega (arith, so_far.within g));
      same = length-set counts n next ∙ so_far.same;
    }
