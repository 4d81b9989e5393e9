use Rattle.std.proofs.Common.{None}
use Rattle.cq_model.specs.declared.query.Shape.TheVariants.{Plain}
use Rattle.cq_model.specs.declared.query.Source.TheVariants.{View}
use Rattle.cq_engine_answers.proofs.at_hand.all_columns.Goals as goal

pub returns : goal.returns
returns c =
    let items = c.in_ok-items.items in
    record {
      is = λ i. record { first = View c.args.place; joins = c.new.ensures i; filter = None; shape = Plain; items = items; distinct = c.args.distinct };
      items = c.in_ok-items.ensures;
    }
