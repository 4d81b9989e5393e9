use Rattle.std.proofs.Common.{◌≡◌, ◌∙◌, ap, length, map, refl, rules, sym, List, ℕ, arith}
use Rattle.std.proofs.lemmas.Bool.{OnTrue_at}
use lib.Lanes.{zip2}
use Rattle.std.proofs.lemmas.List.{length-map}
use Rattle.cq_prims_texts.specs.Asked.{truth_asked}
use Rattle.cq_prims_texts.specs.declared.known_truths.Asked.{Asked}
use Rattle.cq_prims_texts.specs.declared.known_truths.Asked.TheVariants.{Like, Compared}
use Rattle.cq_values.specs.declared.truth.Truth.TheVariants.{Unknown}
use Rattle.cq_values.specs.declared.truth.Truth.{Truth}
use Rattle.cq_values.specs.declared.value.Value.{Value}
use Rattle.cq_values.specs.declared.value.Value.TheVariants.{Null, Text}
use Rattle.cq_vectors_stored.specs.LentColumns.{entry_unless}
use Rattle.cq_vectors_stored.specs.Offsets.{offsets_in}
use Rattle.cq_prims_texts.specs.Named.{named_unless, truths_of_texts}
use Rattle.cq_prims_texts.proofs.NamedTruths.{named_texts}
use Rattle.cq_prims_texts.proofs.known_truths.Known.set.Goals as goal

-- it is not known of NULL
asked-unknown : (asked : Asked) → truth_asked asked Null ≡ Unknown
asked-unknown (Like pattern) = refl
asked-unknown (Compared comparison text) = refl

pub set-requires-clause-known : goal.set-requires-clause-known
set-requires-clause-known c =
    let fits = c.args.self.now in
    let same = OnTrue_at c.if-not-are_same.false c.are_same.ensures in
    let truth : List ℕ → Truth = λ text. truth_asked fits.asked (Text text) in
    let many : length fits.truths ≡ length c.parts.result.0.now = ap length fits.are ∙ length-map fits.entries.now truth ∙ ap length same in
    λ k d lt. omega (arith, c.parts.ensures.known k d lt, many)

pub returns : goal.returns
returns c =
    let fits = c.args.self.now in
    let same = OnTrue_at c.if-not-are_same.false c.are_same.ensures in
    let asked : truth_asked fits.asked ≡ truth_asked c.args.asked.now = search rules in
    let truth : Value → Truth = truth_asked fits.asked in
    let entries = c.parts.result.0.now in
    let codes = offsets_in c.parts.result.1 in
    let flags = c.nulls.result.now in
    c.set.ensures ∙ ap (λ ts. zip2 (named_unless ts) codes flags) (fits.are ∙ ap (truths_of_texts truth) same)
    ∙ named_texts truth (asked-unknown fits.asked) entries codes flags c.parts.ensures.known
    ∙ ap (map truth) (ap (zip2 (entry_unless entries) codes) c.nulls.ensures ∙ sym c.parts.ensures.whole)
    ∙ ap (λ (f : Value → Truth). map f c.args.texts.now) asked
