use Rattle.cq_model_terms.proofs.Values.{eval-renamed, holds-renamed}
use Rattle.cq_model_terms.proofs.laws.renamed_terms_mean_same.Goals as goal

pub returns : goal.returns
returns c = record { value = eval-renamed; truth = holds-renamed }
