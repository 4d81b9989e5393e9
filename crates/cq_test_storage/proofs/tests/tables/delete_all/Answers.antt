use Rattle.cq_model_bags.proofs.Lists.{all-of}
use Rattle.cq_test_storage.proofs.tests.tables.delete_all.Goals as goal

pub delete_where-requires : goal.delete_where-requires
delete_where-requires c = all-of _ (λ row. tt) _
