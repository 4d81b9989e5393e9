use Rattle.std.proofs.Common.{◌≡◌, ◌∙◌, nat_eq, sym}
use Rattle.std.proofs.lemmas.Bool.{OnTrue_from, eqb-true}
use Rattle.cq_segments_pieces.specs.Marked.{rows_of, unmarked}
use Rattle.cq_writestore.specs.Writes.{tail_rows}
use Rattle.cq_writestore.proofs.MarkedLists.{all_live}
use Rattle.cq_writestore.proofs.front.WrittenFront.is_whole.Goals as goal

pub returns : goal.returns
returns c =
    let stored = tail_rows c.args.self.now.written in
    OnTrue_from (nat_eq c.live_len.result c.len.result) (stored ≡ unmarked (rows_of stored))
    (λ e. all_live stored (sym c.live_len.ensures ∙ eqb-true c.live_len.result c.len.result e ∙ c.len.ensures))
