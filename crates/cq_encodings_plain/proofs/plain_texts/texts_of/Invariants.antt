use Rattle.std.proofs.Common.{[], length, map, take, ◌≡◌}
use Rattle.std.specs.Simd.Lanes.{zip2}
use Rattle.cq_encodings_plain.specs.Nulls.{NothingWhere}
use Rattle.cq_encodings_plain.specs.Parts.{nulls_of}
use Rattle.cq_values.specs.Lent.{owned}
use Rattle.cq_vectors_stored.specs.Columns.{text_unless}
use Rattle.cq_encodings_plain.proofs.plain_texts.texts_of.Given as goal

-- the texts so far and the flags make the values so far
abbrev pub invariant-loop-value : goal.invariant-loop-value
invariant-loop-value l = record {
  same : zip2 text_unless l.texts (nulls_of (take l.value-index l.values)) ≡ map owned (take l.value-index l.values);
  clear : NothingWhere [] (nulls_of (take l.value-index l.values)) l.texts;
  long : length l.texts ≡ l.value-index;
}
