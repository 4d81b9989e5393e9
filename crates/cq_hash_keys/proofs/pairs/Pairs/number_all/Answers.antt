use Rattle.std.proofs.Common.{◌≡◌, ◌∙◌, ◌<◌, ℕ, length, get_or, set, take, refl, sym, ap, arith}
use Rattle.std.proofs.Math.Seq.{take-length}
use Rattle.std.specs.List.{zip}
use Rattle.cq_hash_keys.specs.Grid.{same_pair}
use Rattle.cq_hash_keys_values.specs.Met.{with_new}
use Rattle.cq_hash_keys.proofs.Grids.{pair-itself, pair-same}
use Rattle.cq_hash_keys_values.proofs.Runs.{all-are_told, one-and-run}
use Rattle.cq_hash_keys.proofs.Zips.{length-zip, zip-at}
use Rattle.cq_hash_keys.proofs.pairs.Pairs.number_all.Goals as goal

pub loop-place-preserved : goal.loop-place-preserved
loop-place-preserved c =
    let firsts = c.args.firsts.now in
    let seconds = c.args.seconds.now in
    let i = c.loop-place.place in
    let pair : ℕ × ℕ = (get_or firsts i 0, get_or seconds i 0) in
    let xs = zip firsts seconds in
    let number = c.in_ok-numbers.field-0 in
    let lt : i < length firsts = c.loop-place-test.true in
    let same = length-zip firsts seconds (sym c.requires.seconds) in
    let long : i < length xs = omega (arith, lt, same) in
    let is : pair ≡ get_or xs i (0, 0) = zip-at firsts seconds i 0 0 (sym c.requires.seconds) lt in
    let end = c.run-place.ensures.within in
    let r = one-and-run same_pair (0, 0) pair-same pair-itself c.args.self.now c.loop-place.self c.number.new.self xs i c.run-place.result
    c.loop-place.numbers (set c.loop-place.numbers i number) c.run-place.new.numbers pair number long is (c.loop-place.invariant.same ∙ sym same)
    c.loop-place.invariant.met c.loop-place.invariant.told c.in_ok-numbers.ensures.met c.in_ok-numbers.ensures.number refl c.run-place.ensures.from (omega (arith, end, same)) c.run-place.ensures.run in
    record { within = end; same = r.1.1 ∙ same; met = r.0; told = r.1.0 }

pub returns-clause-pairs : goal.returns-clause-pairs
returns-clause-pairs c =
    let xs = zip c.args.firsts.now c.args.seconds.now in
    let same = length-zip c.args.firsts.now c.args.seconds.now (sym c.requires.seconds) in
    let within = c.loop-place.invariant.within in
    let past = c.loop-place-test.false in
    let end : c.loop-place.place ≡ length xs = omega (arith, within, past, same) in
    c.loop-place.invariant.met ∙ ap (with_new same_pair c.args.self.now) (ap (λ (n : ℕ). take n xs) end ∙ take-length xs)

pub returns-clause-numbers : goal.returns-clause-numbers
returns-clause-numbers c =
    let xs = zip c.args.firsts.now c.args.seconds.now in
    let same = length-zip c.args.firsts.now c.args.seconds.now (sym c.requires.seconds) in
    let within = c.loop-place.invariant.within in
    let past = c.loop-place-test.false in
    all-are_told (0, 0) c.loop-place.self xs c.loop-place.place c.loop-place.numbers (c.loop-place.invariant.same ∙ sym same) (omega (arith, within, past, same)) c.loop-place.invariant.told
