use Rattle.cq_model_terms.proofs.Values.{widest-renamed, width-renamed}
use Rattle.cq_model_terms.proofs.laws.renamed_terms_are_as_wide.Goals as goal

pub returns : goal.returns
returns c = record { value = width-renamed; truth = widest-renamed }
