use Rattle.cq_segments_pieces.specs.Columns.{columns_in, encoded_rows}
use Rattle.cq_segments_pieces.proofs.Transposed.{length-rows}
use Rattle.cq_writestore_rows.proofs.NextFilling.{filled_joined, filling_joined}
use Rattle.cq_writestore_rows.proofs.filling.Filling.push_columns.Goals as goal

pub invariant_of-self-2 : goal.invariant_of-self-2
invariant_of-self-2 c =
    let columns = c.args.columns.items in
    filling_joined _ _ _ _ _ c.self.invariant _ c.self.view_is c.requires.whole (encoded_rows columns 1024) (length-rows (columns_in columns) 1024) c.in_ok-count_more.ensures.ok _ c.in_ok-of_columns.ensures _ c.in_ok-push.ensures.items

pub returns : goal.returns
returns c =
    let columns = c.args.columns.items in
    filled_joined _ _ _ _ _ c.self.invariant _ c.self.view_is c.requires.whole (encoded_rows columns 1024) (length-rows (columns_in columns) 1024) c.in_ok-count_more.ensures.ok _ c.in_ok-of_columns.ensures _ c.in_ok-push.ensures.items
