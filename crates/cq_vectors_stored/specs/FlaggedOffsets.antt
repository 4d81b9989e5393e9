-- Offsets with their flags, whoever keeps them.
use Rattle.std.specs.Prelude.{ℕ, Bool, List}
use Rattle.cq_vectors_stored.specs.declared.flagged_offsets.FlaggedOffsets.{FlaggedOffsets}
use Rattle.cq_vectors_stored.specs.declared.flagged_offsets.FlaggedOffsets.TheVariants as flagged
use Rattle.cq_vectors_stored.specs.Offsets.{offsets_in, own_offsets_in}

-- the offsets
abbrev pub flagged_offsets : FlaggedOffsets → List ℕ
flagged_offsets (flagged.Lent offsets nulls) = offsets_in offsets
flagged_offsets (flagged.Own own) = own_offsets_in own.value.offsets

-- the flags
abbrev pub offset_flags : FlaggedOffsets → List Bool
offset_flags (flagged.Lent offsets nulls) = nulls.now
offset_flags (flagged.Own own) = own.value.nulls
