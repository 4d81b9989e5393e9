use Rattle.std.proofs.Common.{◌≡◌, ◌<◌, ◌+◌, ◌++◌, ap₂, subst, sym, ◌∙◌, arith, length, take, List, ℕ, Bor, []}
use Rattle.std.proofs.lemmas.List.{length-map}
use lib.ListN.{get_or-map}
use Rattle.cq_vectors_stored.specs.Columns.{texts_of}
use Rattle.cq_prims_like.proofs.PlaceLemmas.{concat_more}
use Rattle.cq_prims_like.proofs.laid.lay.Goals as goal

pub loop-text-preserved : goal.loop-text-preserved
loop-text-preserved c =
    let texts = texts_of c.args.texts.now in
    let i = c.loop-text.text-index in
    let len = c.loop-text.len in
    let known = c.loop-text.invariant in
    let at = get_or-map (λ (t : Bor (List ℕ)). t.now) c.args.texts.now i (record { ref_ptr = (0, 0); now = [] }) in
    let below : i < length texts = omega (arith, c.loop-text-test.true, length-map c.args.texts.now (λ t. t.now)) in
    let put = subst (λ bytes. take (len + length bytes) c.put.new.room ≡ take len c.loop-text.room ++ bytes) c.as_bytes.ensures.value c.put.ensures in (
      omega (arith, c.if-len-text.false, known.0),
      put ∙ ap₂ (λ (l r : List ℕ). l ++ r) known.1 (sym at) ∙ sym (concat_more texts i below),
    )
