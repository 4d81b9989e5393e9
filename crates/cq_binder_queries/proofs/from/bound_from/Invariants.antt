use Rattle.std.proofs.Common.{◌≡◌, drop}
use Rattle.cq_binder_rules.specs.From.{joins_walk, sources_walk}
use Rattle.cq_binder_queries.specs.Catalog.{state_of}
use Rattle.cq_binder_queries.specs.From.{may_stand, shown_from}
use Rattle.cq_binder_queries.proofs.from.bound_from.Given as goal

-- the walk goes on from what was joined so far
abbrev pub invariant-loop-join : goal.invariant-loop-join
invariant-loop-join g l =
    joins_walk (may_stand l.allowed) (state_of g.C.Catalog.tables g.C.Catalog.views l.catalog) (shown_from l.from) (drop l.join-index l.select.joins)
    ≡ sources_walk (may_stand l.allowed) (state_of g.C.Catalog.tables g.C.Catalog.views l.catalog) l.select
