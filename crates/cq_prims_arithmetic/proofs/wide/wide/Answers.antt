use Rattle.std.proofs.Common.{false, length, replicate, ap, ap₂, subst, sym, ◌∙◌, arith}
use lib.Lanes.{zip2}
use Rattle.std.proofs.lemmas.List.{length-map, length-replicate}
use Rattle.cq_values.specs.declared.value.Value.TheVariants.{Number}
use Rattle.cq_vectors_stored.specs.Columns.{number_unless}
use Rattle.cq_prims_arithmetic.specs.Operation.{AllInRange, lifted}
use Rattle.cq_vectors_stored.proofs.ColumnLemmas.{without_nulls}
use Rattle.cq_prims_arithmetic.proofs.WideLemmas.{all_clear, numbers_fit, of_numbers, results-long}
use Rattle.cq_prims_arithmetic.proofs.PlaceLemmas.{all_in_range}
use Rattle.cq_prims_arithmetic.proofs.wide.wide.Goals as goal

pub wide_results-requires-clause-left : goal.wide_results-requires-clause-left
wide_results-requires-clause-left g c = sym (length-map (g.A.WideSide.numbers c.args.a.now) Number) ∙ sym (ap length c.requires.first) ∙ sym c.len-len.ensures.len

pub wide_results-requires-clause-right : goal.wide_results-requires-clause-right
wide_results-requires-clause-right g c = sym (length-map (g.B.WideSide.numbers c.args.b.now) Number) ∙ sym (ap length c.requires.second) ∙ sym c.args.of.now.same ∙ sym c.len-len.ensures.len

pub wide_results-requires-clause-fits : goal.wide_results-requires-clause-fits
wide_results-requires-clause-fits g c =
    let ms = g.A.WideSide.numbers c.args.a.now in
    let ns = g.B.WideSide.numbers c.args.b.now in
    numbers_fit (zip2 g.O.Operation.apply ms ns) (subst AllInRange (ap₂ (zip2 (lifted g.O.Operation.apply)) c.requires.first c.requires.second ∙ of_numbers g.O.Operation.apply ms ns) (all_in_range _ c.args.of.now.fits))

pub new-requires-clause-few : goal.new-requires-clause-few
new-requires-clause-few g c = rw c.in_ok-values.ensures (omega (arith, results-long g.O.Operation.apply (g.A.WideSide.numbers c.args.a.now) (g.B.WideSide.numbers c.args.b.now) c.requires.first c.requires.second c.args.of.now.same, c.len-len.ensures.len, c.len-len.ensures.few))

pub new-requires-clause-same : goal.new-requires-clause-same
new-requires-clause-same g c =
    ap length c.set_all.ensures ∙ length-replicate c.len-len.result false ∙ c.len-len.ensures.len
    ∙ sym (ap length c.in_ok-values.ensures ∙ results-long g.O.Operation.apply (g.A.WideSide.numbers c.args.a.now) (g.B.WideSide.numbers c.args.b.now) c.requires.first c.requires.second c.args.of.now.same)

pub new-requires-clause-fit : goal.new-requires-clause-fit
new-requires-clause-fit g c =
    let ms = g.A.WideSide.numbers c.args.a.now in
    let ns = g.B.WideSide.numbers c.args.b.now in
    rw c.in_ok-values.ensures (numbers_fit (zip2 g.O.Operation.apply ms ns) (subst AllInRange (ap₂ (zip2 (lifted g.O.Operation.apply)) c.requires.first c.requires.second ∙ of_numbers g.O.Operation.apply ms ns) (all_in_range _ c.args.of.now.fits)))

pub returns : goal.returns
returns g c =
    let ms = g.A.WideSide.numbers c.args.a.now in
    let ns = g.B.WideSide.numbers c.args.b.now in
    let long = results-long g.O.Operation.apply (g.A.WideSide.numbers c.args.a.now) (g.B.WideSide.numbers c.args.b.now) c.requires.first c.requires.second c.args.of.now.same in
    let made = zip2 g.O.Operation.apply ms ns in
    let flags = length-replicate c.len-len.result false ∙ c.len-len.ensures.len ∙ sym long in
    c.new-2.ensures ∙ c.new.ensures ∙ ap₂ (zip2 number_unless) c.in_ok-values.ensures c.set_all.ensures
    ∙ without_nulls made (replicate c.len-len.result false) flags (all_clear c.len-len.result)
    ∙ sym (ap₂ (zip2 (lifted g.O.Operation.apply)) c.requires.first c.requires.second ∙ of_numbers g.O.Operation.apply ms ns)
