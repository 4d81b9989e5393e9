use Rattle.std.proofs.Common.{◌≡◌, pos, false, List, length, map, replicate, arith, sym, ◌∙◌, ap, ap₂, subst}
use Rattle.std.specs.Int.{w64}
use Rattle.std.specs.Simd.Lanes.{zip2}
use Rattle.std.proofs.lemmas.Int.{ints, to_z-of_z}
use Rattle.std.proofs.lemmas.Result.{on_ok_weaker}
use Rattle.cq_values.specs.declared.value.Value.{Value}
use Rattle.cq_values.specs.declared.value.Value.TheVariants.{Number}
use Rattle.cq_values.specs.Value.{Row}
use Rattle.cq_vectors_stored.specs.Columns.{AllFit, number_unless}
use Rattle.cq_hash_groups_distinct.specs.Sets.{Adds, column_pairs}
use Rattle.cq_hash_groups_distinct.proofs.ColumnPairs.{laid-fit, laid-long, laid-pairs, one-filled, one-pairs}
use Rattle.cq_hash_groups_distinct.proofs.meeting.meet.Goals as goal

pub returns-in-Some : goal.returns-in-Some
returns-in-Some c =
    let values = c.args.values.now in
    let group = c.in-Some.group in
    let column : c.new-column.result ≡ replicate (length values) (Number (pos group)) =
    c.new-column.ensures ∙ one-filled _ _ _ _ c.len.ensures.len (search (arith, ints, to_z-of_z)) in
    let rows = ap (λ (groups : List Value). column_pairs groups values) column ∙ one-pairs group c.args.numbers.now values c.in-Some.ensures.one c.requires.same in
    on_ok_weaker c.meet_columns.result (λ adds. subst (λ (rs : List Row). Adds c.args.met.now rs c.meet_columns.new.met) rows adds) c.meet_columns.ensures

pub new-requires-clause-fit : goal.new-requires-clause-fit
new-requires-clause-fit c =
    subst (AllFit w64) (sym (c.as_slice.ensures.value ∙ c.in_ok-lay_groups.ensures)) (laid-fit c.args.count c.args.numbers.now c.requires.few c.requires.there)

pub meet_columns-requires-2-clause-same : goal.meet_columns-requires-2-clause-same
meet_columns-requires-2-clause-same c =
    let numbers = c.args.numbers.now in
    let values = c.args.values.now in
    let column : c.new-column-2.result ≡ zip2 number_unless (map pos numbers) (replicate (length values) false) =
    c.new-column-2.ensures ∙ c.new.ensures
    ∙ ap₂ (zip2 number_unless) (c.as_slice.ensures.value ∙ c.in_ok-lay_groups.ensures) (c.set_all.ensures ∙ ap (λ n. replicate n false) c.len-2.ensures.len) in
    ap (λ (vs : List Value). length vs) column ∙ laid-long numbers values c.requires.same

pub returns : goal.returns
returns c =
    let numbers = c.args.numbers.now in
    let values = c.args.values.now in
    let column : c.new-column-2.result ≡ zip2 number_unless (map pos numbers) (replicate (length values) false) =
    c.new-column-2.ensures ∙ c.new.ensures
    ∙ ap₂ (zip2 number_unless) (c.as_slice.ensures.value ∙ c.in_ok-lay_groups.ensures) (c.set_all.ensures ∙ ap (λ n. replicate n false) c.len-2.ensures.len) in
    let rows = ap (λ (groups : List Value). column_pairs groups values) column ∙ laid-pairs numbers values c.requires.same in
    on_ok_weaker c.meet_columns-2.result (λ adds. subst (λ (rs : List Row). Adds c.args.met.now rs c.meet_columns-2.new.met) rows adds) c.meet_columns-2.ensures
