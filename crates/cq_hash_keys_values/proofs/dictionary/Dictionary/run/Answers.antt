use Rattle.std.proofs.Common.{◌≡◌, ◌∙◌, ◌-◌, ◌<◌, ℕ, pos, map, length, get_or, Some, to_z, of_z, sym, ap, arith, rules}
use Rattle.std.specs.Int.{w64}
use Rattle.std.specs.Ordering.{int_eq}
use Rattle.std.specs.Prelude.{FitsSigned}
use Rattle.std.proofs.lemmas.Int.{ints, to_z-of_z}
use Rattle.std.proofs.lemmas.List.{get_or-map}
use Rattle.indexmap.specs.IndexMap.{get}
use Rattle.cq_values.specs.declared.value.Value.TheVariants.{Null}
use Rattle.cq_hash_keys_values.specs.Codes.{code_in, code_or}
use Rattle.cq_hash_keys_values.specs.Dictionary.{number_in}
use Rattle.cq_hash_keys_values.specs.Window.{place_above}
use Rattle.cq_hash_keys_values.specs.Whole.{whole_value, window_of}
use Rattle.cq_hash_keys_values.proofs.KnownCodes.{known-code}
use Rattle.cq_hash_keys_values.proofs.Runs.{run-next}
use Rattle.cq_hash_keys_values.proofs.WholeKeys.{number-in_window}
use Rattle.cq_hash_keys_values.proofs.dictionary.Dictionary.run.Goals as goal

pub loop-place-preserved : goal.loop-place-preserved
loop-place-preserved c =
    let ways = c.args.self.now in
    let kind = c.args.kind in
    let window = window_of ways kind in
    let values = c.args.values.now in
    let i = c.loop-place.place in
    let n = get_or values i (pos 0) in
    let lt : i < length values = c.loop-place-test.true in
    let there : i < length c.args.numbers.now = let same = c.requires.same in omega (arith, same, lt) in
    let fits : FitsSigned w64 n = search (rules, arith, ints) in
    let kept : to_z w64 (of_z w64 n) ≡ n = search (arith, ints, to_z-of_z) in
    let code : c.code_at.result ≡ code_in window.codes.items (place_above window.least n) = first_of (search rules, search (rules, arith, ints, to_z-of_z, kept)) in
    let some : c.code_at.result ≡ 0 → ⊥ = search rules in
    let here : number_in ways (get_or (map (whole_value kind) values) i Null) ≡ Some (c.code_at.result - 1) =
    ap (number_in ways) (get_or-map (whole_value kind) values i (pos 0) Null lt)
    ∙ number-in_window ways kind n fits
    ∙ ap (λ (k : ℕ). code_or k (get int_eq window.others n)) (sym code) ∙ known-code c.code_at.result (get int_eq window.others n) some in
    let above = c.loop-place.invariant.from in
    record {
      from = omega (arith, above);
      run = run-next Null (number_in ways) (map (whole_value kind) values) c.args.from i (c.code_at.result - 1) c.args.numbers.now c.loop-place.numbers above there here c.loop-place.invariant.run;
    }
