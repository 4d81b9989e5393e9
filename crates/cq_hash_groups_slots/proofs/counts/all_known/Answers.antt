use Rattle.std.proofs.Common.{◌≡◌, ◌∙◌, replicate, sym, ap, subst}
use Rattle.std.proofs.lemmas.Bool.{OnTrue_at, OnTrue_from}
use Rattle.cq_vectors.specs.Form.{values_in}
use Rattle.cq_values.specs.Lent.{owned}
use Rattle.cq_hash_groups_slots.specs.Puts.{AreKnown}
use Rattle.cq_hash_groups_slots.proofs.Known.{known-constant}
use Rattle.cq_hash_groups_slots.proofs.counts.all_known.Goals as goal

pub returns-in-Constant : goal.returns-in-Constant
returns-in-Constant c =
    let are : c.args.values.now ≡ replicate c.in-Constant.field-1 (owned c.in-Constant.value) =
    sym c.form.ensures.values ∙ ap values_in c.in-Constant.is in
    OnTrue_from c.has_value.result (AreKnown c.args.values.now)
    (λ set. subst AreKnown (sym are) (known-constant c.in-Constant.field-1 (owned c.in-Constant.value) (OnTrue_at set c.has_value.ensures)))
