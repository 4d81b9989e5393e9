-- Sides of comparisons of texts.
use Rattle.std.specs.Prelude.{ℕ, List, replicate}
use Rattle.cq_vectors_stored.specs.Columns.{texts_of}
use Rattle.cq_vectors_stored.specs.Offsets.{offsets_in}
use Rattle.cq_prims_texts.specs.Bytes.{entry_bytes, run_bytes}
use Rattle.cq_prims_texts.specs.declared.plain_texts.CodedTexts.{CodedTexts}
use Rattle.cq_prims_texts.specs.declared.text_side.TextForm.{TextForm}
use Rattle.cq_prims_texts.specs.declared.text_side.TextForm.TheVariants.{Codes, Column, Constant, Run}

-- the bytes of the entries that the codes name
abbrev pub coded_bytes : CodedTexts → List (List ℕ)
coded_bytes coded = entry_bytes coded.entries.now (offsets_in coded.codes) coded.nulls.now

-- the bytes of the text of each place
abbrev pub texts_in : TextForm → List (List ℕ)
texts_in (Column column) = texts_of column.texts.now
texts_in (Constant one) = replicate one.len one.text.now
texts_in (Run part) = run_bytes part.texts.now part.start part.nulls.now
texts_in (Codes coded) = coded_bytes coded
