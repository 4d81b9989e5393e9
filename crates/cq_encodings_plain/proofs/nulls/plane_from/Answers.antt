use Rattle.std.proofs.Common.{ap, arith, drop, length, min, take, ◌∙◌, ℕ}
use Rattle.std.proofs.lemmas.List.{length-drop, take_min}
use Rattle.cq_encodings_plain.specs.Parts.{nulls_of}
use Rattle.cq_encodings_plain.proofs.Clear.{none_null_from}
use Rattle.cq_encodings_plain.proofs.nulls.plane_from.Goals as goal

pub returns-then-any_null : goal.returns-then-any_null
returns-then-any_null c =
    let rest = drop c.args.start c.args.values.now in
    c.plane_of.ensures
    ∙ ap nulls_of (ap (λ (n : ℕ). take n rest) {x = c.min-count.result} {y = min 1024 (length rest)} (omega (arith, c.min-count.ensures, length-drop c.args.start c.args.values.now))
    ∙ take_min 1024 rest)

pub returns-else-any_null : goal.returns-else-any_null
returns-else-any_null c = c.clear_plane.ensures ∙ none_null_from c.args.values.now c.args.start c.min-count.result (c.requires.none c.if-any_null.false) (omega (arith, c.min-count.ensures))
