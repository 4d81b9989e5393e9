use Rattle.cq_model_laws.proofs.Chains.{chain-law}
use Rattle.cq_model_laws.proofs.laws.chain_law.Goals as goal

pub returns : goal.returns
returns c = chain-law
