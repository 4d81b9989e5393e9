use Rattle.std.proofs.Common.{◌∙◌, ◌++◌, List, ℕ, ap, filter, sym}
use Rattle.std.proofs.lemmas.Bool.{OnTrue_at}
use Rattle.std.proofs.lemmas.List.{append-nil}
use Rattle.cq_model.specs.Meaning.{keeps}
use Rattle.cq_table_columns.specs.Stored.{marked_rows}
use Rattle.cq_table.proofs.Founds.{front-live, none-pass}
use Rattle.cq_table.proofs.finding.find_in.Goals as goal

pub returns-then-is_unkept : goal.returns-then-is_unkept
returns-then-is_unkept c =
    let keep = keeps c.args.condition.now in
    let found = c.args.found.now.items in
    let none = none-pass keep c.args.before (marked_rows c.args.front.now) (ap (filter keep) (front-live c.args.front.now) ∙ OnTrue_at c.if-is_unkept.true c.is_unkept.ensures) in
    sym (append-nil found) ∙ ap (λ (ps : List ℕ). found ++ ps) (sym none)
