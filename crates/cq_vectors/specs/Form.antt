-- The values of a vector, by its form.
use Rattle.std.specs.Prelude.{List, map, replicate}
use Rattle.cq_values.specs.declared.value.Value.{Value}
use Rattle.cq_values.specs.Lent.{owned}
use Rattle.cq_vectors.specs.declared.vector.Form.{Form}
use Rattle.cq_vectors.specs.declared.vector.Form.TheVariants as form

-- the values that a form holds, which a column of one kind is itself
abbrev pub values_in : Form → List Value
values_in (form.Numbers numbers) = numbers
values_in (form.Wide numbers) = numbers
values_in (form.Days days) = days
values_in (form.Texts texts) = texts
values_in (form.Values values) = map owned values.items
values_in (form.Constant value len) = replicate len (owned value)
values_in (form.Narrow numbers) = numbers
values_in (form.NarrowDays days) = days
values_in (form.LentNumbers numbers) = numbers
values_in (form.LentDays days) = days
values_in (form.Codes texts) = texts
values_in (form.Run texts) = texts
