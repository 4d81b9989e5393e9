use Rattle.std.proofs.Common.{◌∙◌, ap}
use Rattle.cq_engine_tables.specs.HeldTables.{tables_of}
use Rattle.cq_engine_tables.proofs.HeldTables.{change-remove, held-remove}
use Rattle.cq_engine_tables.proofs.tables.drop_in.Goals as goal

pub returns-clause-left : goal.returns-clause-left
returns-clause-left c =
    let at = rw c.deref.ensures.value at c.place_numbered-place.ensures in
    ap tables_of c.remove.ensures.items ∙ held-remove c.args.number c.args.tables.now.items c.place_numbered-place.result c.requires.numbered.0 c.remove.result c.requires.numbered.1 at.within (at.numbered c.remove.result)

pub returns-clause-lengths : goal.returns-clause-lengths
returns-clause-lengths c =
    let at = rw c.deref.ensures.value at c.place_numbered-place.ensures in
    rw c.remove.ensures.items (change-remove c.args.number c.args.tables.now.items c.place_numbered-place.result c.requires.numbered.0 c.remove.result c.requires.numbered.1 at.within (at.numbered c.remove.result))
