use Rattle.std.proofs.Common.{◌≡◌, ◌∙◌, ◌<◌, ◌++◌, ◌∷◌, ℕ, [], length, take, sym, ap, ap₂, subst, arith}
use Rattle.std.proofs.Math.Seq.{take-length}
use Rattle.std.proofs.lemmas.List.{take_more}
use Rattle.cq_values.specs.declared.value.Value.{Value}
use Rattle.cq_values.specs.declared.value.Value.TheVariants.{Null}
use Rattle.cq_values.specs.Value.{Row}
use Rattle.cq_hash_keys.specs.Keys.{StoredKeys, key_at}
use Rattle.cq_hash_keys.proofs.Tables.{key-long}
use Rattle.cq_hash_keys.proofs.key_table.KeyTable.key.Goals as goal

pub loop-column-preserved : goal.loop-column-preserved
loop-column-preserved c =
    let table = c.self.inside in
    let row = key_at c.args.self.now.keys c.args.key in
    let at = c.loop-column.column in
    let there = subst (λ (t : StoredKeys). c.args.key < length t.keys) (sym c.self.view_is) c.requires in
    let long : length row ≡ table.width = ap (λ (t : StoredKeys). length (key_at t.keys c.args.key)) (sym c.self.view_is) ∙ key-long table.width table.is_met table.first table.stages.items c.self.invariant c.args.key there in
    let lt : at < length row = let below = c.loop-column-test.true in omega (arith, below, long) in
    c.in_ok-push.ensures.ok
    ∙ ap₂ (λ (r : Row) (v : Value). r ++ v ∷ []) c.loop-column.invariant (c.in_ok-to_value.ensures ∙ c.lend.ensures)
    ∙ sym (take_more row at Null lt)

pub returns : goal.returns
returns c =
    let table = c.self.inside in
    let row = key_at c.args.self.now.keys c.args.key in
    let there = subst (λ (t : StoredKeys). c.args.key < length t.keys) (sym c.self.view_is) c.requires in
    let long : length row ≡ table.width = ap (λ (t : StoredKeys). length (key_at t.keys c.args.key)) (sym c.self.view_is) ∙ key-long table.width table.is_met table.first table.stages.items c.self.invariant c.args.key there in
    let end : c.loop-column.column ≡ length row = let below = c.loop-column.auto.column-end in let past = c.loop-column-test.false in omega (arith, below, past, long) in
    c.loop-column.invariant ∙ ap (λ (n : ℕ). take n row) end ∙ take-length row
