use Rattle.std.proofs.Common.{subst, sym}
use Rattle.std.specs.List.{AllByRecursion}
use Rattle.cq_model_bags.proofs.Lists.{all-of}
use Rattle.cq_model.proofs.Conditions.{none-kept}
use Rattle.cq_test_storage.proofs.tests.tables.replace_all.Goals as goal

pub update_where-requires-clause-work : goal.update_where-requires-clause-work
update_where-requires-clause-work c = record { narrow = all-of _ (λ row. tt) _; sets = all-of _ (λ row. tt) _ }

pub update_where-requires-clause-fit : goal.update_where-requires-clause-fit
update_where-requires-clause-fit c = λ fine. subst (AllByRecursion _) (sym (none-kept _)) c.rows-rows.ensures.sound.fitting
