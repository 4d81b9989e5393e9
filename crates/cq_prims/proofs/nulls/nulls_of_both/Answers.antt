use Rattle.std.proofs.Common.{◌∙◌, ap, ap₂, length}
use lib.Lanes.{zip2}
use Rattle.cq_vectors_masks.specs.Plane.{either}
use Rattle.cq_prims.proofs.NullLemmas.{left_nulls, length_either, right_nulls}
use Rattle.cq_prims.proofs.nulls.nulls_of_both.Goals as goal

pub returns-in-Some-Some-clause-long : goal.returns-in-Some-Some-clause-long
returns-in-Some-Some-clause-long c =
    ap length (c.set_or.ensures ∙ ap₂ (zip2 either) c.in-Some-Some.ensures c.in-Some-Some.ensures')
    ∙ length_either c.args.a.now c.args.b.now c.requires

pub returns-in-Some-None-clause-nulls : goal.returns-in-Some-None-clause-nulls
returns-in-Some-None-clause-nulls c =
    c.set_copy.ensures ∙ c.in-Some-None.ensures ∙ left_nulls c.args.a.now c.args.b.now c.requires c.if-is_known_constant.ensures

pub returns-in-None-Some-clause-nulls : goal.returns-in-None-Some-clause-nulls
returns-in-None-Some-clause-nulls c =
    c.set_copy-in-None-Some.ensures ∙ c.in-None-Some.ensures' ∙ right_nulls c.args.a.now c.args.b.now c.requires c.if-is_known_constant-2.ensures

pub returns-in_default-clause-long : goal.returns-in_default-clause-long
returns-in_default-clause-long c =
    ap length (c.set_or-in_default.ensures ∙ ap₂ (zip2 either) c.nulls_of.ensures c.nulls_of-in_default.ensures)
    ∙ length_either c.args.a.now c.args.b.now c.requires
