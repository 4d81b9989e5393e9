use Rattle.std.proofs.Common.{◌≡◌, ◌∙◌, ◌*◌, [], None, ap, arith, length, map, slice_index_or, sym}
use Rattle.std.proofs.lemmas.List.{length-map}
use Rattle.cq_model.specs.Write.{image_of, updated}
use Rattle.cq_model_bags.specs.Canonical.{bag_of}
use Rattle.cq_table.proofs.Checked.{fault_same}
use Rattle.cq_table.specs.Checks.{values_fault}
use Rattle.cq_segments_pieces.specs.Marked.{rows_of}
use Rattle.cq_engine_tables.specs.Chosen.{stored_of}
use Rattle.cq_engine_writes.proofs.Telling.{at_most, change_by, tells}
use Rattle.cq_engine_writes.proofs.Updates.{all_narrow_sets, exchange_at}
use Rattle.cq_engine_writes.proofs.updating.prepared.Goals as goal

pub find-requires : goal.find-requires
find-requires c = c.requires.can.narrow

pub images-requires-clause-live : goal.images-requires-clause-live
images-requires-clause-live c = c.in_ok-found.ensures.live

pub images-requires-clause-narrow : goal.images-requires-clause-narrow
images-requires-clause-narrow c =
    let t = c.args.table.now.is in
    all_narrow_sets t.columns c.args.assignments.now t.rows c.requires.can.sets

pub returns-clause-ready : goal.returns-clause-ready
returns-clause-ready c =
    let t = c.args.table.now.is in
    let sets = c.args.assignments.now in
    let condition = c.args.condition.now in
    let found = c.in_ok-found.ensures in
    let exchange = c.in_ok-gone.ensures.images in
    let checked = c.in_ok-gone.ensures.checked condition found in
    let gone = c.in_ok-gone.gone.items in
    let come = c.of-come.result in
    let picks = ap bag_of exchange.gone ∙ found.picks in
    let free : values_fault t.columns sets gone ≡ None = fault_same sets condition t.rows gone picks t.columns ∙ checked in
    let are : come ≡ map (image_of sets) gone = c.of-come.ensures ∙ exchange.images ∙ ap (map (image_of sets)) (sym exchange.gone) in
    let many : length gone ≡ length c.in_ok-found.found = ap length exchange.gone ∙ length-map c.in_ok-found.found (λ place. slice_index_or (rows_of (stored_of c.args.table.now)) place []) in
    record {
      free = checked;
      found = found;
      images = c.in_ok-images.ensures ∙ c.of-come.ensures ∙ exchange.images;
      tells =
          tells c.args.asked t.number t.rows (updated sets condition t.rows) (change_by t.number gone come) (exchange_at t sets condition c.requires.can gone picks c.requires.fitting c.requires.few free come are)
          c.in_ok-change.change c.in_ok-change.ensures.there (rw c.number.ensures at c.in_ok-change.ensures.is);
      few =
          at_most t.number (2 * length c.in_ok-found.found) gone come (omega (arith, many, ap length are, length-map gone (image_of sets)))
          c.in_ok-change.change (rw c.number.ensures at c.in_ok-change.ensures.is);
    }
