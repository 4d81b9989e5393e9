use Rattle.std.proofs.Common.{Bool, List, [], ap, false, get_or, length, rules, sym, ◌/◌, ◌≤◌, ◌≡◌, ◌∙◌, ℕ}
use Rattle.std.proofs.lemmas.List.{get_or_past}
use Rattle.cq_encodings_plain.specs.Nulls.{joined}
use Rattle.cq_encodings_plain.proofs.Pieces.{flag_at}
use Rattle.cq_encodings_plain.proofs.nulls.Nulls.at.Goals as goal

pub returns-in-Some : goal.returns-in-Some
returns-in-Some c =
    let planes = c.self.inside.planes.items in
    let k : ℕ = c.args.place / 1024 in
    let read : c.in-Some.plane.now ≡ get_or c.deref.result.now k [] = search rules in
    let there : get_or planes k [] ≡ c.in-Some.plane.now = sym (read ∙ ap (λ (ps : List (List Bool)). get_or ps k []) c.deref.ensures.value) in
    c.get-in-Some.ensures ∙ flag_at planes (joined planes) c.in-Some.plane.now c.args.place c.self.invariant there ∙ ap (λ (flags : List Bool). get_or flags c.args.place false) c.self.view_is

pub returns-in-None : goal.returns-in-None
returns-in-None c =
    let planes = c.self.inside.planes.items in
    let k : ℕ = c.args.place / 1024 in
    let past : length c.deref.result.now ≤ k = search rules in
    let there : get_or planes k [] ≡ [] = sym (ap (λ (ps : List (List Bool)). get_or ps k []) c.deref.ensures.value) ∙ get_or_past c.deref.result.now k [] past in
    flag_at planes (joined planes) [] c.args.place c.self.invariant there ∙ ap (λ (flags : List Bool). get_or flags c.args.place false) c.self.view_is
