use Rattle.std.proofs.Common.{◌≡◌, ◌∙◌, ◌<◌, ◌∷◌, ◌++◌, sym, subst, ap, arith, length, true}
use Rattle.std.specs.Str.{chars, IsUtf8}
use Rattle.std.proofs.lemmas.Str.Pattern.{strip_prefix_char, split_text_parts}
use Rattle.cq_model.specs.Like.{percent}
use Rattle.cq_prims_like.specs.declared.around.Around.{Around as RunAndSigns}
use Rattle.cq_prims_like.specs.Patterns.{IsAround, are_single, is_ordinary}
use Rattle.cq_prims_like.proofs.AroundLemmas.{is_around_of}
use Rattle.cq_prims_like.proofs.around.Around.of.Goals as goal

pub returns : goal.returns
returns c =
    let pattern = c.args.pattern.now in
    let tail = c.in-Some.tail.now in
    let run = c.longest_run-run.result.now in
    let front = c.in-Some-split_once.front.now in
    let rest = c.in-Some-split_once.rest.now in
    let starts : pattern ≡ percent ∷ tail = rw c.in-Some.is at (strip_prefix_char percent pattern c.strip_prefix.result c.strip_prefix.ensures.cases (omega arith)) in
    let split : tail ≡ front ++ (run ++ rest) = rw c.in-Some-split_once.is at (split_text_parts run tail c.split_once.result c.split_once.ensures.cases) in
    let some : 0 < length run = grind (arith, c.is_empty.ensures, c.if-is_empty.false) in
    let ordinary : is_ordinary (chars run) ≡ true = sym c.is_ordinary.ensures ∙ c.if-not-is_ordinary.false in
    let single : are_single (chars front) ≡ true = sym c.are_single.ensures ∙ c.if-not-are_single.false in
    let kept : c.new.result ≡ run = c.new.ensures ∙ c.as_bytes.ensures.value in
    let around : RunAndSigns = record { front = c.in-Some-split_once.front; run = c.new.result; rest = c.in-Some-split_once.rest } in
    let known : IsAround around = record {
      some = subst (λ r. 0 < length r) (sym kept) some;
      text = subst IsUtf8 (sym kept) c.longest_run-run.utf8;
      ordinary = ap (λ r. is_ordinary (chars r)) kept ∙ ordinary;
      single = single;
    } in
    is_around_of pattern tail around c.utf8.pattern known starts
    (split ∙ ap (λ r. front ++ (r ++ rest)) (sym kept))
