use Rattle.std.proofs.Common.{length, map, take, vec_capacity, vec_len, ◌+◌, ◌-◌, ◌≡◌, ◌≤◌}
use Rattle.cq_encodings.specs.Texts.{text_values}
use Rattle.cq_values.specs.Lent.{owned}
use Rattle.cq_vectors_stored.specs.Columns.{texts_of}
use Rattle.cq_encodings.proofs.texts.lend_texts.Given as goal

-- the texts so far are lent
abbrev pub invariant-loop-text : goal.invariant-loop-text
invariant-loop-text l = record {
  done : map owned l.lent.items ≡ text_values (texts_of (take l.text-index l.texts));
  room : vec_len l.lent + (length l.texts - l.text-index) ≤ vec_capacity l.lent;
}
