use Rattle.std.proofs.Common.{◌<◌, ◌^◌, length, map, rules, arith}
use Rattle.std.proofs.lemmas.List.{length-map}
use Rattle.cq_model.specs.Group.{key_of}
use Rattle.cq_segments_pieces.specs.Rows.{row_of, stored_rows}
use Rattle.cq_views.proofs.Exchanges.{all-cut_rows, gone-in_range}
use Rattle.cq_views.proofs.changes.cut_rows.Goals as goal

pub put_cut-requires-2-clause-range : goal.put_cut-requires-2-clause-range
put_cut-requires-2-clause-range c =
    let f = key_of c.args.columns.now in
    let rows = stored_rows c.args.gone.now in
    let gone = map f rows in
    let few_gone : length c.args.gone.now < 2 ^ 64 = search rules in
    let fewer : length gone < 2 ^ 64 = omega (arith, few_gone, length-map c.args.gone.now row_of, length-map rows f) in
    let few : length c.args.come.now < 2 ^ 64 = search rules in
    gone-in_range c.put_cut.new.cut.entries gone (length c.args.come.now) (rw (c.in_ok-reserve.ensures.entries, c.new-cut.ensures) at c.in_ok-put_cut.ensures) fewer few

pub returns : goal.returns
returns c = record {
  same =
      all-cut_rows c.args.columns.now (stored_rows c.args.gone.now) (stored_rows c.args.come.now) c.put_cut.new.cut.entries c.put_cut-2.new.cut.entries
      (rw (c.in_ok-reserve.ensures.entries, c.new-cut.ensures) at c.in_ok-put_cut.ensures) c.in_ok-put_cut-2.ensures;
  clean = c.len-len.ensures.clean;
}
