use Rattle.std.proofs.Common.{ℕ, ◌+◌, ◌*◌, ◌/◌, ◌%◌, ◌^◌, arith, ◌∙◌, ap, length}
use Rattle.std.proofs.lemmas.List.FromFn.{fill_by_all}
use Rattle.std.proofs.Math.Nat.{mul-suc}
use Rattle.cq_bits.specs.Packed.{number_of, value_at}
use Rattle.cq_bits.proofs.Digits.{before_windows, ends_within, cut_out, cut_out_first, value_written, within_windows}
use Rattle.cq_bits.proofs.unpacking.unpack_by.Goals as goal

pub window-bits-requires-clause-there : goal.window-bits-requires-clause-there
window-bits-requires-clause-there g c =
    let before = before_windows c.args.width c.args.start g.row.PER c.loop-k.k (length c.args.to.now) c.requires.each c.loop-k-test.true in
    omega (arith, before, ends_within c.args.width 0 g.row.PER c.requires.each)

pub loop-j-preserved : goal.loop-j-preserved
loop-j-preserved g c = λ i lt.
    let ends = within_windows g.row.PER c.loop-k.k (length c.args.to.now) c.requires.each c.loop-k-test.true in
    let fits = ends_within c.args.width c.loop-j.j g.row.PER c.loop-j-test.true in
    value_written (λ (i : ℕ). value_at c.args.width c.args.words.now (c.args.start + i)) c.loop-j.to (g.row.PER * c.loop-k.k + c.loop-j.j) _
    (cut_out c.args.width (c.args.start + g.row.PER * c.loop-k.k) c.loop-j.j c.window-bits.result c.args.words.now
    (c.window-bits.ensures ∙ ap (λ (n : ℕ). number_of 64 c.args.words.now / 2 ^ n % 2 ^ 64) c.loop-k.invariant.at) (omega (arith, fits))
    ∙ ap (value_at c.args.width c.args.words.now) (omega arith))
    (omega (arith, ends)) c.loop-j.invariant i (omega (arith, lt))

pub overflow_add-word : goal.overflow_add-word
overflow_add-word g c =
    let before = before_windows c.args.width c.args.start g.row.PER c.loop-k.k (length c.args.to.now) c.requires.each c.loop-k-test.true in
    record { fits = omega (arith, before) }

pub loop-i-preserved : goal.loop-i-preserved
loop-i-preserved g c =
    let fits = ends_within c.args.width 0 g.row.PER c.requires.each in
    record {
      done = value_written (λ (i : ℕ). value_at c.args.width c.args.words.now (c.args.start + i)) c.loop-i.to c.loop-i.i _
          (cut_out_first c.args.width (c.args.start + c.loop-i.i) c.window.result c.args.words.now
          (c.window.ensures ∙ ap (λ (n : ℕ). number_of 64 c.args.words.now / 2 ^ n % 2 ^ 64) c.loop-i.invariant.at) (omega (arith, fits)))
          (omega arith) c.loop-i.invariant.done;
      at = omega (arith, mul-suc c.args.width (c.args.start + c.loop-i.i));
      within = omega arith;
    }

pub returns : goal.returns
returns g c = fill_by_all (λ (i : ℕ). value_at c.args.width c.args.words.now (c.args.start + i)) c.loop-i.to (length c.args.to.now) 0 (omega arith) (λ k lt. c.loop-i.invariant.done k (omega (arith, lt)))
