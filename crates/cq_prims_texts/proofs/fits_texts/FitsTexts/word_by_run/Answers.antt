use Rattle.std.proofs.Common.{◌∙◌, ◌+◌, ◌-◌, ap, arith}
use Rattle.std.specs.Simd.Lanes.{mask_l}
use Rattle.std.specs.Str.{chars}
use Rattle.std.proofs.lemmas.Option.{IfSome_then}
use Rattle.cq_model.specs.Like.{like}
use Rattle.cq_vectors_stored.specs.Columns.{texts_of}
use Rattle.cq_prims_like.specs.Patterns.{answers_of}
use Rattle.cq_prims_texts.proofs.Liked.{places_behind}
use Rattle.cq_prims_texts.proofs.fits_texts.FitsTexts.word_by_run.Goals as goal

pub returns : goal.returns
returns c =
    let texts = c.args.self.now.texts.now in
    let from = c.args.from in
    let pattern = c.in_ok-sought.sought.pattern in
    let same = places_behind (λ t. like (chars pattern) (chars t)) texts from 64 (from + 64 - from) (omega arith) in
    let known = ap (λ p. answers_of p (texts_of texts) from) c.in_ok-sought.ensures in
    IfSome_then c.word_by_run.result c.word_by_run.ensures (λ word is. is ∙ ap mask_l same ∙ known)
