use Rattle.cq_model.specs.Views.{with_views}
use Rattle.cq_model_laws.proofs.Meanings.{meaning-respects}
use Rattle.cq_model_laws.proofs.Ranges.{views-respect, answer-respects}
use Rattle.cq_model_laws.proofs.laws.views_depend_on_bags.Goals as goal

pub returns : goal.returns
returns c = λ tables others queries q same. record {
  bag = meaning-respects q (with_views tables queries) (with_views others queries) (views-respect tables others queries same);
  range = answer-respects tables others queries same q;
}
