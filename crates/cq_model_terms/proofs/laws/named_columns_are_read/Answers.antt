use Rattle.cq_model_terms.proofs.Names.{named-read, tested-read}
use Rattle.cq_model_terms.proofs.laws.named_columns_are_read.Goals as goal

pub returns : goal.returns
returns c = record { value = λ before wide e h i r. named-read before wide i e h r; truth = λ before wide t h i r. tested-read before wide i t h r }
