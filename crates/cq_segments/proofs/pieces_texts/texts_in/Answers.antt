use Rattle.std.proofs.Common.{◌∙◌, ◌≡◌, IfSome, List, ap₂, arith, subst, sym, take, ℕ}
use Rattle.cq_encodings.specs.AnyEncoded.{encoded_values}
use Rattle.cq_encodings.specs.Texts.{text_values}
use Rattle.cq_segments_pieces.specs.Columns.{values_from}
use Rattle.cq_values.specs.declared.value.Value.{Value}
use Rattle.cq_vectors.specs.Gathered.{column_of}
use Rattle.cq_segments.proofs.pieces_texts.texts_in.Goals as goal

pub returns-then-first-eq0 : goal.returns-then-first-eq0
returns-then-first-eq0 c =
    let is : c.in-Some.part ≡ 0 = omega (arith, c.if-first-eq0.true) in
    let at : c.in-Some.from ≡ 0 = omega (arith, c.if-first-eq0.true) in
    let e = c.in-Some.encoded.now in
    let read : take 1024 (encoded_values e) ≡ column_of c.args.columns.now c.args.column =
    ap₂ (λ (p f : ℕ). values_from e p f) (sym is) (sym at) ∙ c.in-Some.ensures.part in
    subst (λ (vs : List Value). IfSome c.plain_texts.result (λ run. text_values run.now ≡ vs)) read c.plain_texts.ensures
