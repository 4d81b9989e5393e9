use Rattle.std.proofs.Common.{◌≡◌, ◌∙◌, List, ap, arith, get_or, length, map, Bool, ℕ}
use Rattle.std.specs.List.{range_with_len}
use Rattle.std.proofs.lemmas.List.FromFn.{length-map-range_with_len}
use Rattle.std.proofs.lemmas.Simd.{length-zip2}
use lib.Lanes.{zip2}
use Rattle.cq_vectors_masks.specs.Plane.{either}
use Rattle.cq_prims_texts.specs.Named.{is_unknown, truth_named}
use Rattle.cq_prims_texts.proofs.NamedTruths.{named_or}
use Rattle.cq_prims_texts.proofs.named.set_named.Goals as goal

pub set_or-requires : goal.set_or-requires
set_or-requires g c =
    let unknown = λ (i : ℕ). is_unknown (truth_named c.args.entries.now (get_or (g.N.Naming.numbers c.args.numbers.now) i 0)) in
    ap length c.set_where.ensures ∙ length-map-range_with_len unknown 0 c.len.result ∙ c.len.ensures.len

pub set_known_by-requires : goal.set_known_by-requires
set_known_by-requires g c =
    let unknown = λ (i : ℕ). is_unknown (truth_named c.args.entries.now (get_or (g.N.Naming.numbers c.args.numbers.now) i 0)) in
    let long = ap length c.set_where.ensures ∙ length-map-range_with_len unknown 0 c.len.result ∙ c.len.ensures.len in
    omega (arith, ap length c.set_or.ensures, length-zip2 either c.set_where.new.self c.args.nulls.now long, long, c.requires.same)

pub returns : goal.returns
returns g c =
    let numbers = g.N.Naming.numbers c.args.numbers.now in
    let flags = c.args.nulls.now in
    let unknown = λ (i : ℕ). is_unknown (truth_named c.args.entries.now (get_or numbers i 0)) in
    let unknowns : c.set_where.new.self ≡ map unknown (range_with_len 0 (length flags)) = c.set_where.ensures ∙ ap (λ (n : ℕ). map unknown (range_with_len 0 n)) c.len.ensures.len in
    let long = ap length unknowns ∙ length-map-range_with_len unknown 0 (length flags) in
    let same = ap length c.set_or.ensures ∙ length-zip2 either c.set_where.new.self flags long ∙ long in
    c.set_known_by.ensures ∙ named_or c.args.entries.now numbers flags c.requires.known c.set_or.new.self c.requires.same (c.set_or.ensures ∙ ap (λ (l : List Bool). zip2 either l flags) unknowns) same
