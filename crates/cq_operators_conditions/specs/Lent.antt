-- Rows that are lent.
use Rattle.std.specs.Prelude.{◌≡◌, ◌++◌}
use Rattle.std.specs.Global.{Vec}
use Rattle.cq_segments_pieces.specs.Rows.{stored_rows}
use Rattle.cq_segments_pieces.specs.declared.stored_row.StoredRow.{StoredRow}
use Rattle.cq_table_columns.specs.Stored.{front_rows}
use Rattle.cq_table_columns.specs.declared.front.Front.{Front}

-- behind the rows that are lent stand those at a front
abbrev pub LendsFront : Front → Vec StoredRow → Vec StoredRow → Type 0
LendsFront front old new = stored_rows new.items ≡ stored_rows old.items ++ front_rows front
