use Rattle.std.proofs.Common.{Some, rules, slice_get, ◌≡◌}
use Rattle.std.proofs.lemmas.Bool.{OnTrue_from}
use Rattle.cq_encodings.proofs.Different.{key_has}
use Rattle.cq_encodings.proofs.known_texts.has_text.Goals as goal

pub returns-in-Some : goal.returns-in-Some
returns-in-Some c =
    let keys = c.args.texts.now.keys in
    let found : slice_get keys c.args.number ≡ Some c.in-Some.known.now = search rules in
    OnTrue_from c.eq.result _ (λ yes. key_has keys c.args.number c.in-Some.known.now c.args.text.now found (search (rules, yes)))
