use Rattle.std.proofs.Common.{◌∙◌, ap, false, length, sym, Bool, List}
use Rattle.std.proofs.lemmas.Simd.{length-replicate, zip2_splat_left}
use lib.Lanes.{zip2}
use Rattle.cq_vectors_masks.specs.TruthMask.{known}
use Rattle.cq_prims_lanes.proofs.known.set_never.Goals as goal

pub set_known-requires : goal.set_known-requires
set_known-requires c = ap length c.set_all.ensures ∙ length-replicate c.len.result false ∙ c.len.ensures.len

pub returns : goal.returns
returns c =
    c.set_known.ensures ∙ ap (λ (l : List Bool). zip2 known l c.args.nulls.now) c.set_all.ensures
    ∙ zip2_splat_left known false c.len.result c.args.nulls.now (sym c.len.ensures.len)
