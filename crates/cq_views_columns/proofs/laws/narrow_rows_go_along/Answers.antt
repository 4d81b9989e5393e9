use Rattle.cq_views_columns.proofs.Bags.{are-narrow, same-narrow}
use Rattle.cq_views_columns.proofs.laws.narrow_rows_go_along.Goals as goal

pub returns : goal.returns
returns c = record { each = are-narrow; same = same-narrow }
