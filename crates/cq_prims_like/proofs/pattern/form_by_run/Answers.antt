use Rattle.std.proofs.Common.{◌≡◌, ◌∙◌, sym, subst, ap}
use Rattle.std.specs.Str.{IsUtf8, chars}
use Rattle.memchr.specs.Find.{FindsNeedle}
use Rattle.cq_prims_like.specs.Patterns.{IsRunOf, is_ordinary}
use Rattle.cq_prims_like.proofs.Fitting.{found_decides}
use Rattle.cq_prims_like.proofs.pattern.form_by_run.Goals as goal

pub returns-then-is_some : goal.returns-then-is_some
returns-then-is_some c =
    let pattern = c.args.pattern.now in
    let needle = c.new-finder.result in
    let is_run : needle ≡ c.longest_run-run.result.now = c.new-finder.ensures ∙ c.as_bytes.ensures.value in
    let found = subst (λ hay. FindsNeedle hay needle 0 c.find.result) c.as_bytes-then-is_ordinary.ensures.value c.find.ensures in
    let split = (found_decides pattern needle c.find.result found).0 (sym c.is_some.ensures ∙ c.if-is_some.true) in
    let run : IsRunOf needle pattern = record {
      text = subst IsUtf8 (sym is_run) c.longest_run-run.utf8;
      ordinary = ap (λ r. is_ordinary (chars r)) is_run ∙ sym c.is_ordinary.ensures ∙ c.if-is_ordinary.true;
      front = split.0;
      rest = split.1;
      there = split.2;
    } in
    run
