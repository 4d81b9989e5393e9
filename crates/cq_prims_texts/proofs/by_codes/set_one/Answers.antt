use Rattle.std.proofs.Common.{◌∙◌, None, ap, refl, sym}
use Rattle.std.specs.Prelude.{Option}
use Rattle.std.proofs.Common.{ℕ}
use Rattle.cq_vectors_stored.specs.Offsets.{offsets_in}
use Rattle.cq_prims_lanes.specs.UpTo.{known_of}
use Rattle.cq_prims_lanes.proofs.OffsetTests.{by_none}
use Rattle.cq_prims_texts.specs.Named.{is_one}
use Rattle.cq_prims_texts.proofs.by_codes.set_one.Goals as goal

pub returns-in-None : goal.returns-in-None
returns-in-None c =
    let codes = offsets_in c.args.codes in
    let flags = c.args.nulls.now in
    c.set_never.ensures ∙ by_none (is_one None) codes flags c.requires (λ k. refl) ∙ sym (ap (λ (one : Option ℕ). known_of (is_one one) codes flags) c.in-None.is)
