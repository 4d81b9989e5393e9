use Rattle.std.proofs.Common.{Bor, List, [], ap, arith, get_or, length, rules, sym, ℕ, ◌<◌, ◌∙◌}
use Rattle.std.proofs.lemmas.List.{get_or-map, length-map}
use Rattle.cq_vectors_stored.specs.Columns.{texts_of}
use Rattle.cq_segments.proofs.TextEnds.{first_text_ends, next_text_ends}
use Rattle.cq_segments.proofs.text_bounds.ends_of.Goals as goal

pub loop-i-init : goal.loop-i-init
loop-i-init c =
    let texts = c.args.texts.now in
    let first = c.in_ok-first.field-0.now in
    let item = c.in_ok-first.ensures.item in
    let bytes = λ (text : Bor (List ℕ)). text.now in
    (search rules, search rules, first_text_ends (texts_of texts) first.now (omega (arith, item.3.0, length-map texts bytes)) (get_or-map bytes texts 0 first [] item.3.0 ∙ ap bytes (sym item.1)))

pub loop-i-preserved : goal.loop-i-preserved
loop-i-preserved c =
    let texts = c.args.texts.now in
    let i = c.loop-i.i in
    let none : Bor (List ℕ) = record { ref_ptr = (0, 0); now = [] } in
    let bytes = λ (text : Bor (List ℕ)). text.now in
    let lt : i < length (texts_of texts) = omega (arith, c.loop-i-test.true, length-map texts bytes) in (
      search rules,
      search rules,
      next_text_ends (texts_of texts) i (get_or texts i none).now lt (get_or-map bytes texts i none [] c.loop-i-test.true)
          c.loop-i.least.now c.loop-i.greatest.now c.lesser-least.result.now c.greater-greatest.result.now c.lesser-least.ensures c.greater-greatest.ensures c.loop-i.invariant.2,
    )
