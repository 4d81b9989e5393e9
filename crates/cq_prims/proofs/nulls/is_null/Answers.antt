use Rattle.std.proofs.Common.{◌∙◌, ap, map}
use Rattle.std.proofs.lemmas.Simd.{map-map}
use Rattle.cq_model.specs.Condition.{is_null}
use Rattle.cq_values.specs.Truth.{truth_of}
use Rattle.cq_prims.proofs.nulls.is_null.Goals as goal

pub returns-in-Some : goal.returns-in-Some
returns-in-Some c = c.set_tested.ensures ∙ ap (map truth_of) c.in-Some.ensures ∙ map-map truth_of is_null c.args.a.now

pub returns-in-None : goal.returns-in-None
returns-in-None c = c.set_tested-in-None.ensures ∙ ap (map truth_of) c.nulls_of.ensures ∙ map-map truth_of is_null c.args.a.now
