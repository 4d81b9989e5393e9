use Rattle.std.proofs.Common.{subst}
use Rattle.cq_model_bags.specs.Bag.{SameBag}
use Rattle.cq_model.specs.Pushed.{pushed_rows}
use Rattle.cq_model_laws.proofs.Pushed.{rows-pushed}
use Rattle.cq_model_bags.proofs.Bags.{same-refl}
use Rattle.cq_model_laws.proofs.laws.condition_below_joins.Goals as goal

pub returns : goal.returns
returns c = λ width q p tables wide below. subst (λ xs. SameBag (pushed_rows q p tables) xs) (rows-pushed width q p tables wide below) (same-refl (pushed_rows q p tables))
