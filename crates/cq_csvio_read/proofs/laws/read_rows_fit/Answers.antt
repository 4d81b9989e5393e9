use Rattle.cq_csvio_read.proofs.Fits.{rows_fit}
use Rattle.cq_csvio_read.proofs.laws.read_rows_fit.Goals as goal

pub returns : goal.returns
returns c = rows_fit
