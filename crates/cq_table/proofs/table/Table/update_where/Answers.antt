use Rattle.std.proofs.Common.{◌∙◌, sym}
use Rattle.std.proofs.lemmas.Result.{err_from_is_err_and}
use Rattle.cq_model.specs.Meaning.{keeps}
use Rattle.cq_model.specs.Write.{image_of}
use Rattle.cq_model_state.specs.Fitting.{FitsColumns}
use Rattle.cq_table.specs.Table.{table_rows}
use Rattle.cq_table.proofs.Replaced.{images_have, images_replace, length-images}
use Rattle.cq_table.proofs.table.Table.update_where.Goals as goal

pub find-requires : goal.find-requires
find-requires c = c.requires.work.narrow

pub images-requires-clause-live : goal.images-requires-clause-live
images-requires-clause-live c = c.in_ok-found.ensures.live

pub images-requires-clause-narrow : goal.images-requires-clause-narrow
images-requires-clause-narrow c = c.requires.work.sets

pub returns-in_err-_gone-clause-checked : goal.returns-in_err-_gone-clause-checked
returns-in_err-_gone-clause-checked c =
    let p = err_from_is_err_and c.from_residual-in_err-_gone.result c.from_residual-in_err-_gone.ensures.1 in
    rw (p.1, p.2) (c.in_err-_gone.ensures.found c.args.condition.now c.in_ok-found.ensures.found)

pub replace-requires-clause-live : goal.replace-requires-clause-live
replace-requires-clause-live c = c.in_ok-found.ensures.live

pub replace-requires-clause-count : goal.replace-requires-clause-count
replace-requires-clause-count c = length-images (keeps c.args.condition.now) (table_rows c.args.self.now) _ c.in_ok-found.ensures.chosen (image_of c.args.assignments.now) _ c.in_ok-_gone.ensures.images.images ∙ sym c.in_ok-found.ensures.count

pub replace-requires-clause-fitting : goal.replace-requires-clause-fitting
replace-requires-clause-fitting c =
    let free = c.in_ok-_gone.ensures.found c.args.condition.now c.in_ok-found.ensures.found in
    images_have (keeps c.args.condition.now) (table_rows c.args.self.now) _ c.in_ok-found.ensures.chosen (image_of c.args.assignments.now) _ c.in_ok-_gone.ensures.images.images (FitsColumns c.args.self.now.columns) (c.requires.fit free)

pub returns-clause-checked : goal.returns-clause-checked
returns-clause-checked c = c.in_ok-_gone.ensures.found c.args.condition.now c.in_ok-found.ensures.found

pub returns-clause-count : goal.returns-clause-count
returns-clause-count c = c.len.ensures ∙ c.in_ok-found.ensures.count

pub returns-clause-updated : goal.returns-clause-updated
returns-clause-updated c =
    c.in_ok-replace.ensures.left c.args.condition.now c.in_ok-found.ensures.found
    ∙ images_replace (keeps c.args.condition.now) (table_rows c.args.self.now) _ c.in_ok-found.ensures.chosen (image_of c.args.assignments.now) _ c.in_ok-_gone.ensures.images.images
