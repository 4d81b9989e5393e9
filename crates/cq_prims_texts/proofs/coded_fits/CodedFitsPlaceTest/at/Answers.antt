use Rattle.std.proofs.Common.{arith}
use Rattle.cq_vectors_stored.specs.Offsets.{offsets_in}
use Rattle.cq_prims_texts.proofs.Bytes.{length-entry_bytes}
use Rattle.cq_prims_texts.proofs.coded_fits.CodedFitsPlaceTest.at.Goals as goal

pub at-requires : goal.at-requires
at-requires c =
    let t = c.args.self.now.texts in
    omega (arith, c.requires, length-entry_bytes t.entries.now (offsets_in t.codes) t.nulls.now t.same)
