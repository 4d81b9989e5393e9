use Rattle.std.proofs.Common.{rules, ◌≡◌, ◌∙◌, ◌++◌, ◌∷◌, [], append_assoc, length, refl}
use Rattle.std.proofs.lemmas.List.{map-id}
use Rattle.std.specs.Prelude.{codes}
use Rattle.std.specs.Fmt.{decimal}
use Rattle.cq_values.specs.Printed.{line_text, rows_text}
use Rattle.cq_csvio.proofs.result.print_result.Goals as goal

pub returns : goal.returns
unfolding rows_text
returns c =
    let start : c.push.new.self.items ≡ codes "rows " ++ decimal (length c.args.rows.now) ++ 10 ∷ [] = search rules in
    let shown = c.in_ok-into_text.ensures _ (c.in_ok-add_rows.ensures _ (c.in_ok-add_line.ensures _ c.new-lines.ensures)) in
    c.from_vec.ensures ∙ rw (start, map-id c.args.header.now) at shown ∙ rw (append_assoc (decimal (length c.args.rows.now)) (10 ∷ []) (line_text c.args.header.now)) refl
