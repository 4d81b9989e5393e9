use Rattle.std.proofs.lemmas.Str.{chars_past_char}
use Rattle.cq_model_eval.proofs.pattern.first_char.Goals as goal

pub returns : goal.returns
returns c =
    let spelled = c.in_ok-first.ensures.steps.0 in
    chars_past_char c.args.text.now c.as_str.result.now c.in_ok-first.first c.utf8.text (cc)
