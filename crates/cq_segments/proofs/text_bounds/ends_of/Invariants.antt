use Rattle.std.proofs.Common.{Some, take}
use denote.Shadow.{shadow}
use denote.Text.{Utf8}
use Rattle.cq_segments.specs.Texts.{AreTextEnds}
use Rattle.cq_values.specs.declared.value.Value.TheVariants.{Text}
use Rattle.cq_vectors_stored.specs.Columns.{texts_of}
use Rattle.cq_segments.proofs.text_bounds.ends_of.Given as goal

-- the ends of the texts so far
abbrev pub invariant-loop-i : goal.invariant-loop-i
invariant-loop-i l = shadow (Utf8 l.least) × shadow (Utf8 l.greatest) × AreTextEnds (Some (Text l.least, Text l.greatest)) (take l.i (texts_of l.texts))
