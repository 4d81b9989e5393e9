use Rattle.std.proofs.Common.{refl, sym, ap, subst, replicate}
use Rattle.cq_values.specs.Lent.{owned}
use Rattle.cq_values.specs.declared.value.Value.TheVariants.{Text}
use Rattle.cq_prims_texts.specs.Kinds.{ShowsTexts}
use Rattle.cq_prims_texts.proofs.Shown.{constant_shows_texts}
use Rattle.cq_prims_texts.proofs.text_side.TextSide.of_constant.Goals as goal

pub returns-in-Text : goal.returns-in-Text
returns-in-Text c =
    subst (λ v. ShowsTexts c.constant.result (replicate c.args.len v)) (sym (ap owned c.in-Text.is)) (constant_shows_texts c.args.len (Text c.in-Text.text.now) refl c.constant.result c.constant.ensures)
