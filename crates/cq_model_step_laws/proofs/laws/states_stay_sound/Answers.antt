use Rattle.cq_model_step_laws.proofs.Stays.{first-sound, step-sound}
use Rattle.cq_model_step_laws.proofs.laws.states_stay_sound.Goals as goal

pub returns : goal.returns
returns c = record { first = first-sound; step = step-sound }
