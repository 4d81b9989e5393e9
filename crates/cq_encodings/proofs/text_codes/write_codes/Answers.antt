use Rattle.std.proofs.Common.{◌∙◌, ◌≡◌, ◌++◌, ◌∷◌, [], Bor, List, ap, ap₂, arith, get_or, length, subst, sym, take, ◌+◌, ◌<◌, ℕ}
use Rattle.std.specs.List.{All, fold}
use Rattle.std.proofs.lemmas.Bool.{OnTrue_at}
use Rattle.std.proofs.lemmas.List.{map_more, take_all}
use Rattle.cq_encodings.specs.Dict.{coded, with_text}
use Rattle.cq_encodings.specs.Texts.{text_values}
use Rattle.cq_values.specs.declared.value.Value.TheVariants.{Text}
use Rattle.cq_vectors_stored.specs.Columns.{texts_of}
use Rattle.cq_encodings.proofs.Coded.{coded_more, within_more}
use Rattle.cq_encodings.proofs.TextCodes.{known_more}
use Rattle.cq_encodings.proofs.text_codes.write_codes.Goals as goal

pub loop-i-preserved : goal.loop-i-preserved
loop-i-preserved g c =
    let texts = c.args.texts.now in
    let i = c.loop-i.i in
    let text : Bor (List ℕ) = get_or texts i (record { ref_ptr = (0, 0); now = [] }) in
    let old = c.loop-i.known in
    let new = c.number_of.new.self in
    let codes = g.W.FixedWidth.numbers c.loop-i.to in
    let is = c.in_ok-code.ensures in
    let pushed = OnTrue_at c.if-not-push_number.false c.push_number.ensures.pushed in
    let more : texts_of (take (i + 1) texts) ≡ texts_of (take i texts) ++ text.now ∷ [] = map_more (λ (t : Bor (List ℕ)). t.now) texts i (record { ref_ptr = (0, 0); now = [] }) c.loop-i-test.true in
    record {
      same = ap (coded new) pushed ∙ coded_more old new codes c.in_ok-code.code is.kept c.loop-i.invariant.within
          ∙ ap₂ (λ (ts : List (List ℕ)) (t : List ℕ). ts ++ t ∷ []) c.loop-i.invariant.same is.has.is ∙ sym more;
      met = is.met ∙ ap (λ (ts : List (List ℕ)). with_text ts (Text text.now)) c.loop-i.invariant.met
          ∙ sym (ap (λ (ts : List (List ℕ)). fold with_text c.args.known.now (text_values ts)) more ∙ known_more c.args.known.now (texts_of (take i texts)) text.now);
      within = subst (λ (ns : List ℕ). All (λ n. n < length new) ns) (sym pushed) (within_more old new codes c.in_ok-code.code is.kept is.has.within c.loop-i.invariant.within);
      room = omega (arith, c.push_number.ensures.room, c.loop-i.invariant.room);
    }

pub returns : goal.returns
returns g c all =
    let whole : take c.loop-i.i c.args.texts.now ≡ c.args.texts.now = take_all c.loop-i.i c.args.texts.now (omega (arith, c.loop-i-test.false, c.loop-i.auto.i-end)) in
    record {
      within = c.loop-i.invariant.within;
      different = c.loop-i.invariant.met ∙ ap (λ ts. fold with_text c.args.known.now (text_values (texts_of ts))) whole ∙ c.requires.first;
      same = c.loop-i.invariant.same ∙ ap texts_of whole;
    }
