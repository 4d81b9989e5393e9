use Rattle.cq_model_laws.proofs.Columns.{joined_have_sizes}
use Rattle.cq_model_laws.proofs.laws.joined_rows_keep_sizes.Goals as goal

pub returns : goal.returns
returns c = joined_have_sizes
