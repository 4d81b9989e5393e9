use Rattle.std.proofs.Common.{◌∙◌, sym}
use Rattle.std.specs.Prelude.{◌==◌}
use Rattle.std.proofs.lemmas.Bool.{eqb-true}
use Rattle.std.proofs.lemmas.List.Quantifiers.{position-Some}
use Rattle.cq_engine_tables.proofs.HeldTables.{there_held}
use Rattle.cq_engine_tables.proofs.Places.{not_there}
use Rattle.cq_engine_tables.proofs.tables.place_numbered.Goals as goal

pub unreachable-requires : goal.unreachable-requires
unreachable-requires c = not_there (λ t. t.is.number == c.args.number) c.args.tables.now (there_held c.args.number c.args.tables.now ∙ c.requires) (sym c.in-None.ensures)

pub returns-clause-numbered : goal.returns-clause-numbered
returns-clause-numbered c = λ t. eqb-true _ _ (position-Some (λ u. u.is.number == c.args.number) c.args.tables.now c.in-Some.place t (sym c.in-Some.ensures)).1
