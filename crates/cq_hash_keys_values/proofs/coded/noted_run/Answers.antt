use Rattle.std.proofs.Common.{◌≡◌, ◌+◌, ℕ, Bool, false, List, get_or, map, subst, sym, rules}
use Rattle.std.specs.Bool.{OnTrue}
use Rattle.cq_vectors_stored.specs.Offsets.{offsets_in}
use Rattle.cq_hash_keys_values.specs.Coded.{noted_in}
use Rattle.cq_hash_keys_values.specs.Met.{IsRun}
use Rattle.cq_hash_keys_values.proofs.CodedKeys.{slots-clear}
use Rattle.cq_hash_keys_values.proofs.coded.noted_run.Goals as goal

pub returns-then-is_clear-clause-run : goal.returns-then-is_clear-clause-run
returns-then-is_clear-clause-run c =
    let codes = offsets_in c.args.codes.now in
    let flags = c.args.nulls.now in
    let clear : (k : ℕ) → get_or flags k false ≡ false =
    subst (λ (b : Bool). OnTrue b ((k : ℕ) → get_or flags k false ≡ false)) c.if-is_clear.true c.is_clear.ensures in
    let told : IsRun 0 (noted_in c.args.slots.now) (map (λ (code : ℕ). code + 1) codes) c.args.from c.run_of_bytes.result c.args.numbers.now c.run_of_bytes.new.numbers = search rules in
    subst (λ (xs : List ℕ). IsRun 0 (noted_in c.args.slots.now) xs c.args.from c.run_of_bytes.result c.args.numbers.now c.run_of_bytes.new.numbers) (sym (slots-clear codes flags c.requires.slots.same clear)) told
