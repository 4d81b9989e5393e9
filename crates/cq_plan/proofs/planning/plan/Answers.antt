use Rattle.std.proofs.Common.{◌∙◌, ap, not, refl}
use Rattle.cq_plan.proofs.Planned.{asks-where, kept-planned}
use Rattle.cq_plan.specs.Planned.{is_asked_behind}
use Rattle.cq_plan.proofs.planning.plan.Goals as goal

-- each part of WHERE is asked of one source or of the joined rows
pub returns-clause-is : goal.returns-clause-is
returns-clause-is c =
    let sources = c.in_ok-sources.ensures in
    let below = not c.is_empty-below.result in
    let behind = c.is_asked_behind-asks_behind.ensures ∙ ap (is_asked_behind c.args.query.now.filter below) c.deref.ensures.value in
    record {
      query = refl;
      order = refl;
      wide = sources.wide;
      whole = asks-where c.args.query.now c.in_ok-sources.sources.items below c.args.widths.now (ap not c.is_empty-below.ensures) sources.own sources.wide c.requires c.is_asked_behind-asks_behind.result behind;
    }

-- so WHERE keeps the same rows
pub returns-clause-means : goal.returns-clause-means
returns-clause-means c =
    let sources = c.in_ok-sources.ensures in
    let asks = c.is_asked_behind-asks_behind in
    let below = not c.is_empty-below.result in
    let behind = asks.ensures ∙ ap (is_asked_behind c.args.query.now.filter below) c.deref.ensures.value in
    kept-planned c.args.query.now c.in_ok-sources.sources.items asks.result
    (asks-where c.args.query.now c.in_ok-sources.sources.items below c.args.widths.now (ap not c.is_empty-below.ensures) sources.own sources.wide c.requires asks.result behind)
