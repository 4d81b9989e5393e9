use Rattle.std.proofs.Common.{◌∙◌, ap, map, sym, take}
use lib.Lanes.{zip2}
use Rattle.cq_vectors_stored.specs.LentColumns.{entry_unless}
use Rattle.cq_vectors_stored.specs.Offsets.{offsets_in}
use Rattle.cq_prims_texts.specs.Named.{named_unless}
use Rattle.cq_prims_texts.proofs.NamedTruths.{named_texts}
use Rattle.cq_prims_texts.proofs.by_entries.ask_entries.Goals as goal

pub returns : goal.returns
returns g c =
    let test = c.args.test.now in
    let truth = g.T.EntryTest.truth test in
    let entries = c.parts.result.0.now in
    let codes = offsets_in c.parts.result.1 in
    let flags = c.nulls.result.now in
    let truths = ap (λ n. take n c.ask_each.new.to) c.len-count.ensures.len ∙ c.ask_each.ensures in
    c.set_by_codes.ensures ∙ ap (λ ts. zip2 (named_unless ts) codes flags) truths
    ∙ named_texts truth (g.T.EntryTest.unknown test) entries codes flags c.parts.ensures.known
    ∙ ap (map truth) (ap (zip2 (entry_unless entries) codes) c.nulls.ensures ∙ sym c.parts.ensures.whole)
