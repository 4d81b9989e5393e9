use Rattle.std.proofs.Common.{◌∙◌, ap, List, ℕ}
use Rattle.std.specs.Simd.Lanes.{mask_l}
use Rattle.std.specs.Str.{chars}
use Rattle.cq_model.specs.Like.{like}
use Rattle.cq_prims_texts.specs.Fits.{run_answers}
use Rattle.cq_prims_texts.proofs.RunTruths.{places_of_run}
use Rattle.cq_prims_texts.proofs.run_fits.RunFits.word_by_run.Goals as goal

pub returns : goal.returns
returns c =
    let t = c.args.self.now in
    let from = c.args.from in
    let pattern = c.in_ok-sought.sought.pattern in
    c.answers.ensures
    ∙ ap mask_l (places_of_run (λ (x : List ℕ). like (chars pattern) (chars x)) t.texts.now t.start from 64)
    ∙ ap (λ (p : List ℕ). run_answers p t.texts.now t.start from) c.in_ok-sought.ensures
