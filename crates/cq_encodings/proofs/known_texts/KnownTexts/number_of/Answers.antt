use Rattle.std.proofs.Common.{List, ap, rules, subst, sym, ◌≡◌, ◌∙◌, ℕ}
use Rattle.std.proofs.lemmas.Bool.{OnTrue_at}
use Rattle.cq_values.specs.declared.value.Value.TheVariants.{Text}
use Rattle.cq_vectors_stored.specs.Columns.{texts_of}
use Rattle.cq_encodings.specs.Dict.{HasText, Keeps, with_text}
use Rattle.cq_encodings.proofs.Different.{keeps_with, key_has, numbered_before, texts-insert}
use Rattle.cq_encodings.proofs.known_texts.KnownTexts.number_of.Goals as goal

pub returns-then-has_text : goal.returns-then-has_text
returns-then-has_text c =
    let hint = c.match-get.hint in
    numbered_before c.args.self.now hint c.args.text.now
    (subst (λ (known : List (List ℕ)). HasText known hint c.args.text.now) c.self.view_is (OnTrue_at c.if-has_text.true c.has_text.ensures))

pub returns : goal.returns
returns c =
    let old = c.args.self.now in
    let text = c.args.text.now in
    let keys = c.insert_full.new.self.keys in
    let found = c.in_ok-number.ensures.stored in
    let same : text ≡ found.0.now = search (rules, found.2) in
    let met : texts_of keys ≡ with_text old (Text text) =
    ap texts_of c.in_ok-number.ensures.keys ∙ texts-insert c.self.inside.texts.keys c.args.text ∙ ap (λ (known : List (List ℕ)). with_text known (Text text)) c.self.view_is in
    record {
      kept = subst (λ (new : List (List ℕ)). Keeps old new) (sym met) (keeps_with old text);
      met = met;
      has = key_has keys c.in_ok-number.number found.0 text found.1 (sym same);
    }
