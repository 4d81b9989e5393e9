use Rattle.std.proofs.Common.{ap, ◌∙◌}
use Rattle.std.proofs.lemmas.Result.{IfOk-weaker}
use Rattle.cq_model_bags.specs.Bag.{Weighted, once_each}
use Rattle.cq_model.specs.Meaning.{chain}
use Rattle.cq_test_plain.specs.SourceRows.{lent_bags}
use Rattle.cq_test_plain.proofs.Passing.{all_of_first, all_of_rest, passing_make_up}
use Rattle.cq_test_plain.proofs.answering.joined_rows.Goals as goal

pub returns-in-None-clause-ok : goal.returns-in-None-clause-ok
returns-in-None-clause-ok c =
    let q = c.args.query.now in
    let tables = lent_bags c.args.sources.now in
    let none = rw c.as_slice.ensures at c.in-None.ensures.cases in
    let all = all_of_first q tables (once_each c.rows_of-first.result.now) (ap once_each c.rows_of-first.ensures) none in
    IfOk-weaker c.filtered.result _ _ (passing_make_up q tables c.rows_of-first.result.now all) c.filtered.ensures.ok

pub returns-in_ok-all-in-Some-clause-ok : goal.returns-in_ok-all-in-Some-clause-ok
returns-in_ok-all-in-Some-clause-ok c =
    let q = c.args.query.now in
    let tables = lent_bags c.args.sources.now in
    let first = once_each c.rows_of-first.result.now in
    let join = c.in-Some.join.now in
    let others = c.in-Some.others.now in
    let joins = rw c.as_slice.ensures at c.in-Some.ensures.cases.0 in
    let rest = ap once_each c.deref.ensures.value ∙ c.in_ok-all-in-Some.ensures ∙ ap (λ (xs : Weighted). chain tables xs others) c.in_ok-pairs-in-Some.ensures in
    let all = all_of_rest q tables first (once_each c.deref.result.now) join others (ap once_each c.rows_of-first.ensures) joins rest in
    IfOk-weaker c.filtered-in-Some.result _ _ (passing_make_up q tables c.deref.result.now all) c.filtered-in-Some.ensures.ok
