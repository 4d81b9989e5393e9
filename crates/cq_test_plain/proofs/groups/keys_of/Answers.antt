use Rattle.std.proofs.Common.{ap, sym, ◌∙◌, map}
use Rattle.std.proofs.lemmas.List.{take_all}
use Rattle.std.proofs.lemmas.Result.{IfOk-weaker}
use Rattle.cq_model_bags.specs.Bag.{distinct_rows, firsts}
use Rattle.cq_model_bags.proofs.Distincts.{once_each-map}
use Rattle.cq_model.specs.Group.{key_of}
use Rattle.cq_test_plain.proofs.groups.keys_of.Goals as goal
use Rattle.cq_model_bags.proofs.Once.{distinct-once}

pub returns : goal.returns
returns c =
    let keys = key_of c.args.columns.now in
    let all = c.deref.ensures.value ∙ c.loop-row.invariant ∙ ap (map keys) (take_all c.loop-row.row-index c.args.rows.now c.loop-row-test.false) in
    IfOk-weaker c.firsts.result _ _
    (λ kept e. e ∙ ap firsts all ∙ sym (distinct-once (map keys c.args.rows.now)) ∙ ap distinct_rows (once_each-map keys c.args.rows.now))
    c.firsts.ensures
