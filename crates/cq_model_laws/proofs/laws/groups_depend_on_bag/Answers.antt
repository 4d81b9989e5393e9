use Rattle.cq_model_laws.proofs.Groups.{count_all-respects, count-respects, sum-respects, aggregate-respects, grouped-respects}
use Rattle.cq_model_laws.proofs.laws.groups_depend_on_bag.Goals as goal

pub returns : goal.returns
returns c = λ xs ys s. record {
  rows = count_all-respects xs ys s;
  values = λ e. count-respects e xs ys s;
  totals = λ e. sum-respects e xs ys s;
  aggregates = λ a. aggregate-respects a xs ys s;
  groups = λ columns aggregates. grouped-respects columns aggregates xs ys s;
}
