use Rattle.std.proofs.Common.{◌≡◌, ◌∙◌, true, [], Some, ap, arith, length, rules, slice_index_or, subst, sym}
use Rattle.std.proofs.lemmas.List.{length-map}
use Rattle.cq_model.specs.Meaning.{keeps}
use Rattle.cq_model.specs.Write.{left_by}
use Rattle.cq_model_bags.specs.Canonical.{bag_of}
use Rattle.cq_model_state.specs.State.{ChangeOf}
use Rattle.cq_engine_writes.specs.Changing.{IsChangeAt}
use Rattle.cq_engine_tables.proofs.Stored.{rows_stored}
use Rattle.cq_segments_pieces.specs.Marked.{rows_of}
use Rattle.cq_engine_tables.specs.Chosen.{stored_of}
use Rattle.cq_engine_writes.proofs.Telling.{at_most, change_by, deleted_change}
use Rattle.cq_engine_writes.proofs.deletion.change_without.Goals as goal

pub returns-then-not-asked-clause-told : goal.returns-then-not-asked-clause-told
returns-then-not-asked-clause-told c = λ condition chosen. record { there = search rules; is = tt }

pub returns-clause-told : goal.returns-clause-told
returns-clause-told c = λ condition chosen.
    let t = c.args.table.now.is in
    let asked : c.args.asked ≡ true = search rules in
    let gone = c.in_ok-gone-2.gone in
    let copied = rw c.deref.ensures.value at c.in_ok-gone-2.ensures in
    let picks = ap bag_of (copied ∙ c.in_ok-gone.ensures) ∙ chosen.picks in
    let told : c.new-2.result ≡ change_by t.number gone [] = rw (c.number.ensures, c.of-come.ensures, c.new.ensures.items) at c.new-2.ensures in
    record {
      there = sym asked;
      is =
          subst (λ (change : ChangeOf). IsChangeAt t.number t.rows (left_by condition t.rows) change) (sym told)
          (deleted_change (keeps condition) t.rows gone picks t.number (rows_stored t.columns t.rows c.requires.fitting) c.requires.few);
    }

pub returns-clause-most : goal.returns-clause-most
returns-clause-most c =
    let t = c.args.table.now.is in
    let gone = c.in_ok-gone-2.gone in
    let told : c.new-2.result ≡ change_by t.number gone [] = rw (c.number.ensures, c.of-come.ensures, c.new.ensures.items) at c.new-2.ensures in
    let copied = rw c.deref.ensures.value at c.in_ok-gone-2.ensures in
    let few = ap length (copied ∙ c.in_ok-gone.ensures) ∙ length-map c.args.found.now (λ place. slice_index_or (rows_of (stored_of c.args.table.now)) place []) in
    at_most t.number (length c.args.found.now) gone [] (omega (arith, few)) (Some c.new-2.result) told
