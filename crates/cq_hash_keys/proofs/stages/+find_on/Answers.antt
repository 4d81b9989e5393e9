use Rattle.std.proofs.Common.{◌≡◌, ◌∙◌, ℕ, List, Option, ◌∷◌, length, sym, ap, subst, arith, rules}
use Rattle.std.specs.List.{AllByRecursion, zip}
use Rattle.std.proofs.lemmas.List.{length-map}
use Rattle.std.proofs.lemmas.Result.{on_ok_weaker}
use Rattle.cq_values.specs.declared.value.Value.{Value}
use Rattle.cq_hash_keys.specs.declared.stage.Stage.{Stage}
use Rattle.cq_hash_keys.specs.Keys.{HasLength, values_of}
use Rattle.cq_hash_keys.specs.Stages.{FindsOn, found_further}
use Rattle.cq_hash_keys.proofs.Looking.{finds-more}
use Rattle.cq_hash_keys.proofs.Zips.{length-zip}
use Rattle.cq_hash_keys.proofs.stages.+find_on.Goals as goal

pub find_on-requires : goal.find_on-requires
find_on-requires t c =
    let values = c.in-Some-split_first.column.now.now in
    let stage = c.in-Some.stage.now in
    let columns = ap values_of c.in-Some-split_first.ensures.cases.0 in
    let long = subst (AllByRecursion (HasLength (length c.args.numbers.now.items))) columns c.requires.long in
    let firsts : c.as_slice.result.now ≡ c.args.numbers.now.items = search rules in
    let same : length c.as_slice.result.now ≡ length values = ap (λ (ns : List (Option ℕ)). length ns) firsts ∙ sym long.0 in
    let found = c.in_ok-find-in-Some-split_first.ensures in
    let kept : length c.args.numbers.now.items ≡ length c.find.new.numbers.items =
    sym
    (ap (λ (ns : List (Option ℕ)). length ns) found ∙ length-map (zip c.as_slice.result.now values) (found_further stage)
    ∙ length-zip c.as_slice.result.now values same ∙ ap (λ (ns : List (Option ℕ)). length ns) firsts) in (
      search rules,
      (
        omega (arith, c.in-Some.ensures.cases.1, c.in-Some-split_first.ensures.cases.1, c.requires.columns),
        subst (λ (n : ℕ). AllByRecursion (HasLength n) (values_of c.in-Some-split_first.others.now)) kept long.1,
      ),
    )

pub returns-in_ok-find-in-Some-split_first : goal.returns-in_ok-find-in-Some-split_first
returns-in_ok-find-in-Some-split_first t c =
    let stage = c.in-Some.stage.now in
    let rest = c.in-Some.rest.now in
    let values = c.in-Some-split_first.column.now.now in
    let others = values_of c.in-Some-split_first.others.now in
    let last = c.find_on.new.numbers.items in
    let firsts : c.as_slice.result.now ≡ c.args.numbers.now.items = search rules in
    on_ok_weaker c.find_on.result
    (λ further.
    subst (λ (ss : List Stage). FindsOn ss (values_of c.args.columns.now) c.args.numbers.now.items last) (sym c.in-Some.ensures.cases.0)
    (subst (λ (cs : List (List Value)). FindsOn (stage ∷ rest) cs c.args.numbers.now.items last) (sym (ap values_of c.in-Some-split_first.ensures.cases.0))
    (subst (λ (fs : List (Option ℕ)). FindsOn (stage ∷ rest) (values ∷ others) fs last) firsts
    (finds-more stage rest values others c.as_slice.result.now c.find.new.numbers.items last c.in_ok-find-in-Some-split_first.ensures further))))
    c.find_on.ensures
