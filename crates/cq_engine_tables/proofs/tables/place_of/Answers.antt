use Rattle.std.proofs.Common.{◌∙◌, sym}
use Rattle.cq_values.specs.Texts.{is_text}
use Rattle.cq_engine_tables.specs.HeldTables.{tables_of}
use Rattle.cq_engine_tables.proofs.HeldTables.{place_held}
use Rattle.cq_engine_tables.proofs.Places.{found_there, same_presence}
use Rattle.cq_engine_tables.proofs.tables.place_of.Goals as goal

pub returns-clause-found : goal.returns-clause-found
returns-clause-found c = rw (c.position_of.ensures ∙ sym (place_held c.args.name.now c.args.tables.now)) (found_there (λ t. is_text t.name c.args.name.now) (tables_of c.args.tables.now))

pub returns-clause-named : goal.returns-clause-named
returns-clause-named c = rw (c.position_of.ensures ∙ sym (place_held c.args.name.now c.args.tables.now)) (same_presence (λ t. is_text t.name c.args.name.now) (tables_of c.args.tables.now))
