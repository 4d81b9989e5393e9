use Rattle.std.proofs.Common.{◌≡◌, Bool, List, false, get_or, length, map, sym, ap, ◌∙◌}
use Rattle.std.proofs.lemmas.Bool.{OnTrue_at}
use Rattle.std.proofs.lemmas.List.{length-map}
use Rattle.cq_values.specs.Order.{number}
use Rattle.cq_model.specs.Condition.{is_null}
use Rattle.cq_vectors_stored.proofs.ColumnLemmas.{without_nulls}
use Rattle.cq_vectors_stored.proofs.lent_numbers.LentNumbers.whole.Goals as goal

pub returns-then-is_clear : goal.returns-then-is_clear
returns-then-is_clear c =
    let vs = c.args.self.now in
    let ns = c.values.result.now in
    let same : length (map is_null vs) ≡ length ns = length-map vs is_null ∙ sym (ap length c.values.ensures.values ∙ length-map vs number) in
    c.values.ensures.whole ∙ without_nulls ns (map is_null vs) same (λ k. sym (ap (λ (fs : List Bool). get_or fs k false) c.nulls.ensures) ∙ OnTrue_at c.if-is_clear.true c.is_clear.ensures k)
