use Rattle.cq_views_columns.proofs.Meanings.{renamed-means}
use Rattle.cq_views_columns.proofs.laws.renamed_means_same.Goals as goal

pub returns : goal.returns
returns c = renamed-means
