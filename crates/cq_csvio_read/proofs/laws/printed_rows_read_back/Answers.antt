use Rattle.cq_csvio_read.proofs.Printed.{printed_back}
use Rattle.cq_csvio_read.proofs.laws.printed_rows_read_back.Goals as goal

pub returns : goal.returns
returns c = printed_back
