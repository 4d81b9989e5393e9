use Rattle.std.proofs.Common.{◌≡◌, ℕ, pos, ◌+◌, ◌<◌, drop, length, get_or, set, arith, refl, sym, ◌∙◌, ap, ap₂, subst, to_z, of_z}
use Rattle.std.specs.Int.{w64}
use Rattle.std.proofs.lemmas.List.{get_or_default, length-set}
use Rattle.std.proofs.lemmas.Simd.{length-zip2}
use Rattle.std.proofs.lemmas.Int.{ints, to_z-of_z}
use Rattle.cq_values.specs.declared.value.Value.{Value}
use Rattle.cq_values.specs.declared.value.Value.TheVariants.{Null}
use Rattle.cq_vectors_stored.specs.Columns.{number_unless}
use Rattle.cq_hash_groups_sums.specs.NumberColumns.{with_nulls}
use Rattle.cq_hash_groups_sums.specs.Puts.{put_all}
use Rattle.cq_hash_groups_slots.specs.Puts.{put_best}
use Rattle.cq_hash_groups_sums.proofs.Numbered.{value-at}
use Rattle.cq_hash_groups_sums.proofs.Putting.{put-done, put-next}
use Rattle.cq_hash_groups_slots.proofs.bests.put_numbers.Goals as goal
use Rattle.cq_model_bags.proofs.Lists.{all-at}

pub loop-place-preserved : goal.loop-place-preserved
loop-place-preserved g c =
    let place = c.loop-place.place in
    let numbers = c.args.numbers.now in
    let nulls = c.args.nulls.now in
    let column = g.C.NumberColumn.numbers c.args.column.now in
    let values = with_nulls column nulls in
    let bests = c.loop-place.bests in
    let put = put_best c.args.which in
    let b = c.index-bests-numbers.result in
    let n = get_or numbers place 0 in
    let lt : place < length numbers = omega (arith, c.loop-place-test.true, c.requires.same, c.requires.flags, c.len-place-end.ensures.len) in
    let within : place < length column = omega (arith, lt, c.requires.same) in
    let long : length numbers ≡ length values = c.requires.same ∙ sym (length-zip2 number_unless column nulls (sym c.requires.flags)) in
    let read : to_z w64 (of_z w64 c.at-number.result) ≡ get_or column place (pos 0) = search (arith, ints, to_z-of_z, c.at-number.ensures) in
    let value = ap₂ number_unless read c.get.ensures ∙ sym (value-at column nulls place within c.requires.flags) in
    let there : n < length bests =
    subst (λ (k : ℕ). n < k) (sym c.loop-place.invariant.same) (all-at (λ (m : ℕ). m < length c.args.bests.now) numbers place 0 lt c.requires.there) in
    let made = c.put_number.ensures ∙ ap₂ put (get_or_default bests n b Null there) value in
    record {
      rest =
          ap (λ (x : Value). put_all put Null (drop (place + 1) numbers) (drop (place + 1) values) (set bests n x)) made
          ∙ put-next put Null numbers values bests place n (get_or values place Null) lt long (get_or_default numbers place 0 n lt) refl ∙ c.loop-place.invariant.rest;
      same = length-set bests n c.put_number.new.best ∙ c.loop-place.invariant.same;
    }

pub returns : goal.returns
returns g c =
    let numbers = c.args.numbers.now in
    let values = with_nulls (g.C.NumberColumn.numbers c.args.column.now) c.args.nulls.now in
    sym (put-done (put_best c.args.which) Null numbers values c.loop-place.bests c.loop-place.place (omega (arith, c.loop-place-test.false, c.requires.same, c.requires.flags, c.len-place-end.ensures.len)))
    ∙ c.loop-place.invariant.rest
