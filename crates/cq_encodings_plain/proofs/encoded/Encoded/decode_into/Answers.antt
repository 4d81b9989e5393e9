use Rattle.std.proofs.Common.{List, [], ◌∷◌, ap, ap₂, arith, map, ◌++◌, ◌∙◌}
use Rattle.std.proofs.lemmas.List.{map-append}
use Rattle.cq_values.specs.Lent.{owned}
use Rattle.cq_values.specs.declared.value.Value.{Value}
use Rattle.cq_encodings_plain.proofs.Decoding.{read_all, read_more}
use Rattle.cq_encodings_plain.proofs.encoded.Encoded.decode_into.Goals as goal

pub loop-place-preserved : goal.loop-place-preserved
loop-place-preserved g c =
    let values = g.Self.Encoded.values c.args.self.now in
    record {
      done = ap (map owned) c.push_reserved.ensures.items
          ∙ map-append owned c.loop-place.values.items (c.value_at.result ∷ [])
          ∙ ap₂ (λ (vs : List Value) (v : Value). vs ++ v ∷ []) c.loop-place.invariant.done c.value_at.ensures
          ∙ read_more values c.args.start c.loop-place.place (omega arith) (omega (arith, c.loop-place-test.true, c.min-end.ensures, c.len.ensures));
      room = omega (arith, c.push_reserved.ensures.capacity, c.loop-place.invariant.room);
    }

pub returns : goal.returns
returns g c =
    let values = g.Self.Encoded.values c.args.self.now in
    c.loop-place.invariant.done
    ∙ read_all values c.args.start c.loop-place.place c.min-end.result c.saturating_add.result (omega (arith, c.min-end.ensures, c.len.ensures)) (omega (arith, c.saturating_add.ensures))
    (omega (arith, c.len.ensures)) c.loop-place-test.false c.loop-place.auto.place-end
