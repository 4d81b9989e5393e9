use Rattle.std.proofs.Common.{ap, arith, map, sym, ◌∙◌}
use Rattle.std.specs.List.{fold}
use Rattle.std.proofs.lemmas.List.{get_or_read, take-map}
use Rattle.cq_values.specs.Lent.{owned}
use Rattle.cq_encodings.specs.Dict.{with_text}
use Rattle.cq_encodings.proofs.Different.{first_met}
use Rattle.cq_encodings.proofs.Lending.{lent_in, owned_within}
use Rattle.cq_encodings.proofs.dict.first_text.Goals as goal

pub returns-in-Some : goal.returns-in-Some
returns-in-Some c =
    let values = c.args.values.now in
    let i = c.loop-value.value-index in
    let item = c.value-item.result in
    record {
      same = first_met (map owned values) i (owned item) c.in-Some.text.now (owned_within values i c.loop-value-test.true)
          (lent_in values i item c.loop-value-test.true (sym (get_or_read values i item c.loop-value-test.true c.value-item.is item)))
          c.in-Some.ensures.some (λ known. ap (fold with_text known) (take-map owned i values) ∙ c.loop-value.invariant known);
      some = omega arith;
    }
