use Rattle.std.proofs.Common.{◌∙◌, ◌≡◌, ◌++◌, ◌∷◌, [], ap, ap₂, arith, length, subst, sym, List, ℕ}
use Rattle.std.specs.Prelude.{string_bytes}
use Rattle.cq_vectors_stored.specs.TextRun.{HasRoom, IsLaid}
use Rattle.cq_vectors_stored.proofs.TextRunLemmas.{laid_is_cut, laid_more}
use Rattle.cq_vectors_stored.proofs.text_run.TextRun.push.Goals as goal

pub invariant_of-self-2 : goal.invariant_of-self-2
invariant_of-self-2 c =
    let more = string_bytes c.push_str.new.self in
    let to = c.push_reserved.new.self.items in
    let room = subst (λ (ts : List (List ℕ)). HasRoom ts c.args.text.now) (sym c.self.view_is) c.requires in
    let last : c.len.result ≡ length more = omega (arith, c.len.ensures) in
    let ends : to ≡ c.self.inside.ends.items ++ length more ∷ [] = c.push_reserved.ensures.items ∙ ap₂ (λ (es : List ℕ) (n : ℕ). es ++ n ∷ []) c.in_ok-reserve.ensures.items last in
    let laid = laid_more c.self.invariant c.args.text.now c.utf8.text room more c.in_ok-push_str.ensures.bytes to ends in
    subst (IsLaid more to) (sym (laid_is_cut laid)) laid

pub returns-clause-ok : goal.returns-clause-ok
returns-clause-ok c =
    let more = string_bytes c.push_str.new.self in
    let to = c.push_reserved.new.self.items in
    let room = subst (λ (ts : List (List ℕ)). HasRoom ts c.args.text.now) (sym c.self.view_is) c.requires in
    let last : c.len.result ≡ length more = omega (arith, c.len.ensures) in
    let ends : to ≡ c.self.inside.ends.items ++ length more ∷ [] = c.push_reserved.ensures.items ∙ ap₂ (λ (es : List ℕ) (n : ℕ). es ++ n ∷ []) c.in_ok-reserve.ensures.items last in
    laid_is_cut (laid_more c.self.invariant c.args.text.now c.utf8.text room more c.in_ok-push_str.ensures.bytes to ends)
    ∙ ap (λ (ts : List (List ℕ)). ts ++ c.args.text.now ∷ []) c.self.view_is
