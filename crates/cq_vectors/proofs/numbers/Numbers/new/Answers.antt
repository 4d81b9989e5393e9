use Rattle.cq_vectors_stored.proofs.ColumnLemmas.{keeps_numbers}
use Rattle.cq_vectors_stored.proofs.SizeLemmas.{most_of_64}
use Rattle.cq_vectors.proofs.numbers.Numbers.new.Goals as goal

pub invariant_of-result : goal.invariant_of-result
invariant_of-result c = ((keeps_numbers c.args.values.items c.args.nulls c.requires.same c.requires.few c.requires.zero, c.requires.fit), most_of_64 c.args.values.items c.requires.fit)
