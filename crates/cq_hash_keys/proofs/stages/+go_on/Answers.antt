use Rattle.std.proofs.Common.{◌≡◌, ◌∙◌, ℕ, List, ◌∷◌, length, sym, ap, subst, arith, rules}
use Rattle.std.specs.List.{AllByRecursion}
use Rattle.std.proofs.lemmas.Result.{on_ok_weaker}
use Rattle.cq_values.specs.declared.value.Value.{Value}
use Rattle.cq_hash_keys.specs.declared.stage.Stage.{Stage}
use Rattle.cq_hash_keys.specs.Keys.{HasLength, values_of}
use Rattle.cq_hash_keys.specs.Stages.{GoesOn, StaysStages}
use Rattle.cq_hash_keys.proofs.Further.{as-many, goes-more, stays-more, stays-part}
use Rattle.cq_hash_keys.proofs.stages.+go_on.Goals as goal

pub returns-in_err-add-in-Some-split_first-clause-stays : goal.returns-in_err-add-in-Some-split_first-clause-stays
returns-in_err-add-in-Some-split_first-clause-stays t c =
    let stage = c.in-Some.stage.now in
    let rest = c.in-Some.rest.now in
    let new : List Stage = c.add.new.self ∷ rest in
    let firsts : c.as_slice.result.now ≡ c.args.numbers.now.items = search rules in
    subst (λ (ss : List Stage). StaysStages ss c.args.numbers.now.items new) (sym c.in-Some.ensures.cases.0)
    (subst (λ (fs : List ℕ). StaysStages (stage ∷ rest) fs new) firsts
    (stays-part stage c.add.new.self rest c.in-Some-split_first.column.now.now c.as_slice.result.now c.add.ensures.part))

pub go_on-requires : goal.go_on-requires
go_on-requires t c =
    let values = c.in-Some-split_first.column.now.now in
    let columns = ap values_of c.in-Some-split_first.ensures.cases.0 in
    let long = subst (AllByRecursion (HasLength (length c.args.numbers.now.items))) columns c.requires.long in
    let firsts : c.as_slice.result.now ≡ c.args.numbers.now.items = search rules in
    let same : length c.as_slice.result.now ≡ length values = ap (λ (ns : List ℕ). length ns) firsts ∙ sym long.0 in
    let many = as-many c.in-Some.stage.now c.add.new.self values c.as_slice.result.now c.add.new.numbers.items same c.in_ok-add-in-Some-split_first.ensures.ok in
    let kept : length c.args.numbers.now.items ≡ length c.add.new.numbers.items = ap (λ (ns : List ℕ). length ns) (sym firsts) ∙ sym many in (
      search rules,
      (
        omega (arith, c.in-Some.ensures.cases.1, c.in-Some-split_first.ensures.cases.1, c.requires.columns),
        subst (λ (n : ℕ). AllByRecursion (HasLength n) (values_of c.in-Some-split_first.others.now)) kept long.1,
      ),
    )

pub returns-in_ok-add-in-Some-split_first-clause-ok : goal.returns-in_ok-add-in-Some-split_first-clause-ok
returns-in_ok-add-in-Some-split_first-clause-ok t c =
    let stage = c.in-Some.stage.now in
    let rest = c.in-Some.rest.now in
    let values = c.in-Some-split_first.column.now.now in
    let others = values_of c.in-Some-split_first.others.now in
    let new : List Stage = c.add.new.self ∷ c.go_on.new.stages in
    let last = c.go_on.new.numbers.items in
    let firsts : c.as_slice.result.now ≡ c.args.numbers.now.items = search rules in
    on_ok_weaker c.go_on.result
    (λ further.
    subst (λ (ss : List Stage). GoesOn ss (values_of c.args.columns.now) c.args.numbers.now.items new last) (sym c.in-Some.ensures.cases.0)
    (subst (λ (cs : List (List Value)). GoesOn (stage ∷ rest) cs c.args.numbers.now.items new last) (sym (ap values_of c.in-Some-split_first.ensures.cases.0))
    (subst (λ (fs : List ℕ). GoesOn (stage ∷ rest) (values ∷ others) fs new last) firsts
    (goes-more stage c.add.new.self rest c.go_on.new.stages values others c.as_slice.result.now c.add.new.numbers.items last c.in_ok-add-in-Some-split_first.ensures.ok further))))
    c.go_on.ensures.ok

pub returns-in_ok-add-in-Some-split_first-clause-stays : goal.returns-in_ok-add-in-Some-split_first-clause-stays
returns-in_ok-add-in-Some-split_first-clause-stays t c =
    let stage = c.in-Some.stage.now in
    let rest = c.in-Some.rest.now in
    let values = c.in-Some-split_first.column.now.now in
    let others = values_of c.in-Some-split_first.others.now in
    let new : List Stage = c.add.new.self ∷ c.go_on.new.stages in
    let firsts : c.as_slice.result.now ≡ c.args.numbers.now.items = search rules in
    subst (λ (ss : List Stage). StaysStages ss c.args.numbers.now.items new) (sym c.in-Some.ensures.cases.0)
    (subst (λ (fs : List ℕ). StaysStages (stage ∷ rest) fs new) firsts
    (stays-more stage c.add.new.self rest c.go_on.new.stages values others c.as_slice.result.now c.add.new.numbers.items c.go_on.new.numbers.items
    c.in_ok-add-in-Some-split_first.ensures.ok c.add.ensures.part c.go_on.ensures.stays))
