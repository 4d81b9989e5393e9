use Rattle.cq_model.specs.Group.{lower, higher}
use Rattle.cq_model_laws.proofs.Counted.{extreme-counted}
use Rattle.cq_model_laws.proofs.laws.extremes_are_counted.Goals as goal
use Rattle.cq_model.proofs.Extremes.{IsDownTo, IsUpTo, higher-choice, lower-choice}

pub returns : goal.returns
returns c = λ e xs bag. record {
  least = extreme-counted e xs bag lower IsUpTo lower-choice;
  greatest = extreme-counted e xs bag higher IsDownTo higher-choice;
}
