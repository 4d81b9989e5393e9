use Rattle.std.proofs.Common.{map, ap, subst, sym, ◌∙◌}
use lib.Lanes.{zip2}
use Rattle.cq_values.specs.Order.{number}
use Rattle.cq_vectors_stored.specs.Columns.{ZeroWhere, number_unless}
use Rattle.cq_vectors_stored.specs.Sizes.{AreUpTo}
use Rattle.cq_vectors.proofs.Gathering.{zero_where}
use Rattle.cq_vectors.proofs.numbers.Numbers.lend_all.Goals as goal

pub new-requires-clause-zero : goal.new-requires-clause-zero
new-requires-clause-zero c =
    subst (λ values. ZeroWhere c.nulls.result.now values) (sym c.values.ensures.values)
    (subst (λ flags. ZeroWhere flags (map number c.args.self.now)) (sym c.nulls.ensures) (zero_where c.args.self.now))

pub sized-requires : goal.sized-requires
sized-requires c =
    let same = c.values.ensures.whole ∙ ap (zip2 number_unless c.values.result.now) (sym c.nulls.ensures) ∙ sym c.new.ensures in
    subst (λ values. AreUpTo c.size.result (map number values)) same c.size.ensures
