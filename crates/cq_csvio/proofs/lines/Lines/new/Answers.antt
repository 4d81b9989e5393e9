use Rattle.std.proofs.Common.{◌∙◌, ap, refl, true}
use Rattle.csv.specs.Writing.{is_blank, with_flexible}
use Rattle.cq_csvio.proofs.lines.Lines.new.Goals as goal

pub returns : goal.returns
unfolding is_blank
returns c =
    let from = c.from_writer.ensures in (
      from.cfg ∙ c.flexible.ensures ∙ ap (λ b. with_flexible b true) c.new.ensures,
      rw (from.wtr, from.empty) refl,
      from.fields,
      rw from.wrote refl,
    )
