use Rattle.std.proofs.Common.{ℕ, map, pos, replicate, sym, ◌∙◌, ap}
use Rattle.cq_values.specs.declared.value.Value.TheVariants.{Number}
use Rattle.cq_model.specs.declared.query.Aggregate.{Aggregate}
use Rattle.cq_hash_groups.specs.Arguments.{argument}
use Rattle.cq_hash_groups.proofs.Columns.{each-same}
use Rattle.cq_hash_groups.proofs.arguments.argument_of.Goals as goal

pub returns-in-CountAll : goal.returns-in-CountAll
returns-in-CountAll c =
    c.ones.ensures ∙ ap (λ (n : ℕ). replicate n (Number (pos 0))) c.len.ensures.len ∙ each-same (Number (pos 0)) c.args.scan.now
    ∙ ap (λ (a : Aggregate). map (argument a) c.args.scan.now) (sym c.in-CountAll.is)
