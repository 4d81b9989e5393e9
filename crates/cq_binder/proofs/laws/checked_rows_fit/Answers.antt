use Rattle.cq_binder.proofs.Fitting.{row_fits}
use Rattle.cq_binder.proofs.laws.checked_rows_fit.Goals as goal

pub returns : goal.returns
returns c = row_fits
