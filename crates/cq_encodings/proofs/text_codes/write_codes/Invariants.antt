use Rattle.std.proofs.Common.{length, take, ◌-◌, ◌<◌, ◌≡◌, ◌≤◌}
use Rattle.std.specs.List.{All, fold}
use Rattle.cq_encodings.specs.Dict.{coded, with_text}
use Rattle.cq_encodings.specs.Texts.{text_values}
use Rattle.cq_vectors_stored.specs.Columns.{texts_of}
use Rattle.cq_encodings.proofs.text_codes.write_codes.Given as goal

-- the numbers so far are those of the texts so far
abbrev pub invariant-loop-i : goal.invariant-loop-i
invariant-loop-i g l = record {
  same : coded l.known (g.W.FixedWidth.numbers l.to) ≡ texts_of (take l.i l.texts);
  met : l.known ≡ fold with_text l.initial.known (text_values (texts_of (take l.i l.texts)));
  within : All (λ code. code < length l.known) (g.W.FixedWidth.numbers l.to);
  room : length l.texts - l.i ≤ g.W.FixedWidth.room l.to;
}
