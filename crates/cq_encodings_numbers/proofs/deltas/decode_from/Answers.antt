use Rattle.std.proofs.Common.{List, [], ◌∷◌, ap, ap₂, arith, drop, length, sym, take, ◌++◌, ◌-◌, ◌<◌, ◌≡◌, ◌∙◌}
use Rattle.std.specs.Simd.Lanes.{zip2}
use Rattle.std.proofs.lemmas.List.{drop_all, length-take}
use Rattle.cq_values.specs.declared.value.Value.{Value}
use Rattle.cq_encodings_numbers.specs.Deltas.{bits_datum}
use Rattle.cq_encodings_plain.proofs.Decoding.{read_all, read_more}
use Rattle.cq_encodings_plain.proofs.Zipped.{length-zipped, zipped_at}
use Rattle.cq_encodings_numbers.proofs.deltas.decode_from.Goals as goal

pub returns-then-start-len : goal.returns-then-start-len
returns-then-start-len c =
    let long = length-zipped (bits_datum c.args.kind) c.args.numbers.now c.args.nulls.now c.requires in
    c.clear.ensures ∙ ap (take 1024) (sym (drop_all c.args.start _ (omega (arith, long, c.if-start-len.true, c.len-len.ensures))))

pub push_bits-requires : goal.push_bits-requires
push_bits-requires c =
    let values = zip2 (bits_datum c.args.kind) c.args.numbers.now c.args.nulls.now in
    omega (
      arith,
      ap length c.loop-place.invariant.done,
      length-take (c.loop-place.place - c.args.start) (drop c.args.start values),
      c.loop-place-test.true,
      c.min-end.ensures,
      c.saturating_add.ensures,
    )

pub loop-place-preserved : goal.loop-place-preserved
loop-place-preserved c =
    let values = zip2 (bits_datum c.args.kind) c.args.numbers.now c.args.nulls.now in
    let long : length values ≡ length c.args.numbers.now = length-zipped (bits_datum c.args.kind) c.args.numbers.now c.args.nulls.now c.requires in
    let within : c.loop-place.place < length c.args.numbers.now = omega (arith, c.loop-place-test.true, c.min-end.ensures, c.len-len.ensures) in
    record {
      done = c.push_bits.ensures
          ∙ ap₂ (λ (vs : List Value) (v : Value). vs ++ v ∷ []) c.loop-place.invariant.done
          (sym (zipped_at (bits_datum c.args.kind) c.args.numbers.now c.args.nulls.now c.loop-place.place 0 c.loop-place.number c.at.result within c.requires
          (sym c.loop-place.invariant.number) (sym c.at.ensures)))
          ∙ read_more values c.args.start c.loop-place.place (omega arith) (omega (arith, within, long));
      number = c.following-number.ensures;
    }

pub returns : goal.returns
returns c =
    let values = zip2 (bits_datum c.args.kind) c.args.numbers.now c.args.nulls.now in
    let long : length values ≡ length c.args.numbers.now = length-zipped (bits_datum c.args.kind) c.args.numbers.now c.args.nulls.now c.requires in
    c.loop-place.invariant.done
    ∙ read_all values c.args.start c.loop-place.place c.min-end.result c.saturating_add.result (omega (arith, c.min-end.ensures, c.len-len.ensures, long)) (omega (arith, c.saturating_add.ensures))
    (omega (arith, c.len-len.ensures, long)) c.loop-place-test.false c.loop-place.auto.place-end
