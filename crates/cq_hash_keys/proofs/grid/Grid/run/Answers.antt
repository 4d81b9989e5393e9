use Rattle.std.proofs.Common.{◌≡◌, ◌∙◌, ◌-◌, ◌<◌, ℕ, length, get_or, Some, sym, ap, arith, rules}
use Rattle.std.specs.List.{zip}
use Rattle.indexmap.specs.IndexMap.{get}
use Rattle.cq_hash_keys_values.specs.Codes.{code_in, code_or}
use Rattle.cq_hash_keys.specs.Grid.{cell_of, pair_in, same_pair}
use Rattle.cq_hash_keys_values.proofs.KnownCodes.{known-code}
use Rattle.cq_hash_keys_values.proofs.Runs.{run-next}
use Rattle.cq_hash_keys.proofs.Zips.{zip-at}
use Rattle.cq_hash_keys.proofs.grid.Grid.run.Goals as goal

pub loop-place-preserved : goal.loop-place-preserved
loop-place-preserved c =
    let grid = c.args.self.now in
    let firsts = c.args.firsts.now in
    let seconds = c.args.seconds.now in
    let i = c.loop-place.place in
    let pair : ℕ × ℕ = (get_or firsts i 0, get_or seconds i 0) in
    let lt : i < length firsts = c.loop-place-test.true in
    let there : i < length c.args.numbers.now = let same = c.requires.same in omega (arith, same, lt) in
    let code : c.code_at.result ≡ code_in grid.codes.items (cell_of grid.stride pair) = search rules in
    let some : c.code_at.result ≡ 0 → ⊥ = search rules in
    let here : pair_in grid (get_or (zip firsts seconds) i (0, 0)) ≡ Some (c.code_at.result - 1) =
    ap (pair_in grid) (sym (zip-at firsts seconds i 0 0 (sym c.requires.seconds) lt))
    ∙ ap (λ (k : ℕ). code_or k (get same_pair grid.others pair)) (sym code)
    ∙ known-code c.code_at.result (get same_pair grid.others pair) some in
    let above = c.loop-place.invariant.from in
    record {
      from = omega (arith, above);
      run = run-next (0, 0) (pair_in grid) (zip firsts seconds) c.args.from i (c.code_at.result - 1) c.args.numbers.now c.loop-place.numbers above there here c.loop-place.invariant.run;
    }
