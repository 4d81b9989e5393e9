use Rattle.std.proofs.Common.{◌≡◌, ◌∙◌, ◌+◌, ◌++◌, ◌∷◌, ℕ, List, [], map, length, length-append, sym, subst, take, ap, ap₂, arith, rules}
use Rattle.std.specs.List.{AllByRecursion}
use Rattle.std.proofs.lemmas.List.{append-nil, map-append, take_all}
use Rattle.cq_values.specs.declared.value.Value.{Value}
use Rattle.cq_values.specs.Lent.{owned}
use Rattle.cq_values.specs.Value.{Row}
use Rattle.cq_encodings.specs.AnyEncoded.{encoded_values}
use Rattle.cq_encodings.specs.declared.any_encoded.AnyEncoded.TheVariants as any
use Rattle.cq_model.specs.declared.fault.ShowFault.TheVariants.{SumOutOfRange}
use Rattle.cq_model_bags.proofs.Lists.{all-at, all-next}
use Rattle.cq_segments_pieces.specs.Columns.{AreColumns, columns_in, encoded_rows, rows_of_columns}
use Rattle.cq_segments_pieces.proofs.Transposed.{length-rows}
use Rattle.cq_writestore_rows.specs.Filling.{Filled}
use Rattle.cq_hash_groups_slots.specs.declared.slots.Slots.{Slots}
use Rattle.cq_hash_groups_slots.specs.Slots.{CanShow}
use Rattle.cq_hash_groups.specs.Shown.{CanAllShow}
use Rattle.cq_hash_groups.proofs.ColumnsShown.{are-columns, columns-long, key_columns, keys-next, rows-shown, shown_columns, slots-next}
use Rattle.cq_hash_groups.proofs.shown.put_rows.Goals as goal

pub loop-column-preserved : goal.loop-column-preserved
loop-column-preserved c =
    let made = any.Plain c.in_ok-of.field-0 in
    ap columns_in c.in_ok-push.ensures.items
    ∙ map-append encoded_values c.loop-column.columns.items (made ∷ [])
    ∙ ap₂ (λ (vs : List (List Value)) (v : List Value). vs ++ v ∷ []) c.loop-column.invariant (c.in_ok-of.ensures ∙ ap (map owned) c.deref.ensures.value ∙ c.in_ok-values.ensures)
    ∙ sym (keys-next c.loop-column.column c.args.found.now.keys c.args.start 1024)

pub loop-each-init : goal.loop-each-init
loop-each-init c =
    let all : c.loop-column.column ≡ c.args.width = omega (arith, c.loop-column.auto.column-end, c.loop-column-test.false) in
    let keys = key_columns c.args.width c.args.found.now.keys c.args.start 1024 in
    record {
      columns = c.loop-column.invariant ∙ ap (λ (n : ℕ). key_columns n c.args.found.now.keys c.args.start 1024) all ∙ sym (append-nil keys);
      range = λ group from to. tt;
    }

pub loop-each-preserved : goal.loop-each-preserved
loop-each-preserved c =
    let slots = c.args.slots.now in
    let i = c.loop-each.each-index in
    let each = c.each-item.result in
    let lt = c.loop-each-test.true in
    let made = any.Plain c.in_ok-of-2.field-0 in
    record {
      columns =
          ap columns_in c.in_ok-push-2.ensures.items
          ∙ map-append encoded_values c.loop-each.columns.items (made ∷ [])
          ∙ ap₂ (λ (vs : List (List Value)) (v : List Value). vs ++ v ∷ []) c.loop-each.invariant.columns (c.in_ok-of-2.ensures ∙ ap (map owned) c.deref-in-loop-each.ensures.value ∙ c.in_ok-values-2.ensures.values)
          ∙ sym (slots-next c.args.width c.args.found.now.keys slots i each c.args.start 1024 lt c.each-item.is);
      range = λ group from to. all-next (CanShow group) slots i each lt c.each-item.is (c.loop-each.invariant.range group from to) (c.in_ok-values-2.ensures.range group from to);
    }

pub push_columns-requires : goal.push_columns-requires
push_columns-requires c =
    let shown = shown_columns c.args.width c.args.found.now.keys (take c.loop-each.each-index c.args.slots.now) c.args.start 1024 in
    record {
      whole = c.requires.whole;
      are = subst (λ (cs : List (List Value)). AreColumns cs 1024) (sym c.loop-each.invariant.columns) (are-columns shown (columns-long c.args.width c.args.found.now.keys (take c.loop-each.each-index c.args.slots.now) c.args.start 1024));
    }

-- a group that cannot be shown for one aggregate cannot be shown
pub returns-in_err-values-2-clause-fault : goal.returns-in_err-values-2-clause-fault
returns-in_err-values-2-clause-fault c =
    let slots = c.args.slots.now in
    let each = c.each-item.result in
    let fault : c.in_err-values-2.field-0.0 ≡ SumOutOfRange → CanAllShow c.args.start 1024 slots → ⊥ =
    λ is can. c.in_err-values-2.ensures.fault is (λ group from to. subst (CanShow group) (sym c.each-item.is) (all-at (CanShow group) slots c.loop-each.each-index each c.loop-each-test.true (can group from to))) in
    search rules

pub returns : goal.returns
returns c =
    let keys = c.args.found.now.keys in
    let slots = c.args.slots.now in
    let old = c.args.filling.now in
    let columns = c.loop-each.columns.items in
    let new = c.in_ok-push_columns.ensures in
    let all : take c.loop-each.each-index slots ≡ slots = take_all c.loop-each.each-index slots c.loop-each-test.false in
    let are : columns_in columns ≡ shown_columns c.args.width keys slots c.args.start 1024 =
    c.loop-each.invariant.columns ∙ ap (λ (ss : List Slots). shown_columns c.args.width keys ss c.args.start 1024) all in
    record {
      rows = record {
        rows = λ wide. ap (λ (f : Filled). f.rows) new ∙ ap (λ (rs : List Row). old.rows ++ rs) (ap (λ (cs : List (List Value)). rows_of_columns cs 1024) are ∙ rows-shown c.args.width keys slots c.args.start 1024 wide);
        count = ap (λ (f : Filled). length f.rows) new ∙ length-append old.rows (encoded_rows columns 1024) ∙ ap (λ (n : ℕ). length old.rows + n) (length-rows (columns_in columns) 1024);
        begun = ap (λ (f : Filled). f.begun) new;
        wide = ap (λ (f : Filled). f.width) new;
      };
      range = λ group from to. subst (AllByRecursion (CanShow group)) all (c.loop-each.invariant.range group from to);
      fault = tt;
    }
