use Rattle.cq_model_eval.proofs.Likes as likes
use Rattle.cq_model_eval.proofs.pattern.like_decides.Goals as goal

pub returns : goal.returns
returns c = likes.like_decides
