use Rattle.std.proofs.Common.{◌∙◌, ap, false, length, refl}
use lib.Lanes.{zip2}
use Rattle.std.proofs.lemmas.Simd.{zip2_splat}
use Rattle.cq_prims_texts.specs.Named.{named_unless}
use Rattle.cq_prims.proofs.named.dict_mask.Goals as goal

-- where NULL stands nowhere, the truths are those of the entries that are named
pub returns : goal.returns
returns c =
    let numbers = c.args.numbers.now in
    c.set_named.ensures ∙ ap (zip2 (named_unless c.args.entries.now) numbers) c.set_all.ensures ∙ zip2_splat (named_unless c.args.entries.now) numbers (length numbers) false refl
