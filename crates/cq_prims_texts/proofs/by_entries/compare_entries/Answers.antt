use Rattle.std.proofs.Common.{◌≡◌, List, length, refl, subst, sym}
use Rattle.std.specs.Bool.{OnTrue}
use Rattle.std.proofs.lemmas.Simd.{zip2_splat}
use Rattle.cq_values.specs.Comparison.{compared}
use Rattle.cq_values.specs.declared.truth.Truth.{Truth}
use Rattle.cq_values.specs.declared.value.Value.TheVariants.{Text}
use Rattle.cq_prims_texts.proofs.by_entries.compare_entries.Goals as goal

pub returns : goal.returns
returns c =
    let texts = c.args.texts.now in
    subst (λ (l : List Truth). OnTrue c.ask_entries.result (c.ask_entries.new.to ≡ l)) (sym (zip2_splat (compared c.args.comparison) texts (length texts) (Text c.args.text.now) refl)) c.ask_entries.ensures
