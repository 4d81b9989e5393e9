use Rattle.std.proofs.Common.{◌*◌, arith}
use Rattle.std.proofs.Math.Nat.{div-add-mod}
use Rattle.cq_table.proofs.WholePieces.{fewer-first}
use Rattle.cq_table.proofs.whole.count_whole.Goals as goal

pub returns-clause-whole : goal.returns-clause-whole
returns-clause-whole c =
    let many = c.whole_pieces.result in
    fewer-first c.args.pieces.now (64 * c.min.result) many (omega (arith, c.min.ensures, div-add-mod many 64)) c.whole_pieces.ensures
