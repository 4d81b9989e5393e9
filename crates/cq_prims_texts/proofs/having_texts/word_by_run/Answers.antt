use Rattle.std.proofs.Common.{subst}
use Rattle.cq_vectors_stored.specs.Columns.{texts_of}
use Rattle.cq_prims_like.specs.Patterns.{FindsInEach}
use Rattle.cq_prims_texts.proofs.having_texts.word_by_run.Goals as goal

pub invariant_of-test : goal.invariant_of-test
invariant_of-test c = record {
  many = c.requires;
  found = subst (λ run. FindsInEach run (texts_of c.args.texts.now) c.in_ok-places.places) c.run.ensures c.in_ok-places.ensures;
}
