-- Conditions below the joins of a chain leave rows out of the joined rows, and lessen the work of their change.
use Rattle.std.proofs.Common.{◌≡◌, ◌∙◌, ℕ, ◌+◌, ◌≤◌, Bool, List, [], ◌∷◌, ◌++◌, refl, sym, ap, arith}
use Rattle.std.proofs.lemmas.Int.{ints}
use Rattle.cq_values.specs.Value.{Row}
use Rattle.cq_model_bags.proofs.Bags.{filtered-respects}
use Rattle.cq_model_bags.proofs.Fewer.{pairs-fewer, size-fewer}
use Rattle.cq_model_bags.proofs.Linears.{filtered-append}
use Rattle.cq_model_bags.proofs.Totals.{weight_of-append}
use Rattle.cq_model_bags.proofs.Widths.{append-width, joined-filtered, joined-width, on_parts}
use Rattle.cq_model_bags.specs.Bag.{Weighted, SameBag, filtered, joined, weight_of}
use Rattle.cq_model_bags.specs.Join.{HasWidth, join_change}
use Rattle.cq_views_model.specs.Delta.{chain_change, chain_work, changed, join_work}
use Rattle.cq_model.specs.Pushed.{HaveWidths}
use Rattle.cq_model_laws.proofs.Chains.{chain-law}
use Rattle.cq_model.specs.Meaning.{Tables, chain, keeps, meets}
use Rattle.cq_model.specs.declared.query.Source.{Source}
use Rattle.cq_deltas_joins.specs.Chains.{IsChange, Stands, joined_from, joins_of, rows_of}
use Rattle.cq_deltas_joins.specs.Work.{work_along}
use Rattle.cq_deltas_joins.specs.declared.chain.Chain.{Chain}
use Rattle.cq_deltas_joins.specs.declared.step.Step.{Step}

module _ (width : Source → ℕ) where
  -- what the conditions of steps make of one on the rows before them, which have so many columns
  abbrev all_of : ℕ → (Row → Bool) → List Step → Row → Bool
  all_of n keep [] = keep
  all_of n keep (s ∷ steps) = all_of (n + width s.source) (on_parts n keep (keeps s.below)) steps

  -- behind the steps are the joined rows that pass it
  rows-filtered : (tables : Tables) → HaveWidths width tables → (n : ℕ) (keep : Row → Bool) (xs : Weighted) → HasWidth n xs → (steps : List Step)
      → joined_from tables (filtered keep xs) steps ≡ filtered (all_of n keep steps) (chain tables xs (joins_of steps))
  rows-filtered tables wide n keep xs w [] = refl
  rows-filtered tables wide n keep xs w (s ∷ steps) =
      let on = meets s.node.on in
      let ys = tables s.source in
      let m = width s.source in
      ap (λ (zs : Weighted). joined_from tables zs steps) (joined-filtered on n keep (keeps s.below) xs ys w)
      ∙ rows-filtered tables wide (n + m) (on_parts n keep (keeps s.below)) (joined on xs ys) (joined-width on n m xs ys w (wide s.source)) steps

  -- ---- one join
  module _ (on : Row → Row → Bool) (n : ℕ) (keep also : Row → Bool) (xs dxs ys dys : Weighted) (v : HasWidth n xs) (w : HasWidth n dxs) where
    -- the change of rows that pass is what passes of the change
    change-filtered : join_change on (filtered keep xs) (filtered keep dxs) (filtered also ys) (filtered also dys) ≡ filtered (on_parts n keep also) (join_change on xs dxs ys dys)
    change-filtered =
        let parts = on_parts n keep also in
        (λ i. joined-filtered on n keep also dxs ys w i ++ joined-filtered on n keep also xs dys v i ++ joined-filtered on n keep also dxs dys w i)
        ∙ sym (filtered-append parts (joined on dxs ys ++ joined on xs dys) (joined on dxs dys) ∙ ap (λ (zs : Weighted). zs ++ filtered parts (joined on dxs dys)) (filtered-append parts (joined on dxs ys) (joined on xs dys)))

    change-width : (m : ℕ) → HasWidth m ys → HasWidth m dys → HasWidth (n + m) (join_change on xs dxs ys dys)
    change-width m x y =
        append-width (n + m) (joined on dxs ys ++ joined on xs dys) (joined on dxs dys)
        (append-width (n + m) (joined on dxs ys) (joined on xs dys) (joined-width on n m dxs ys w x) (joined-width on n m xs dys v y))
        (joined-width on n m dxs dys w y)

    -- and takes no more work
    join-less : join_work on (filtered keep xs) (filtered keep dxs) (filtered also ys) (filtered also dys) ≤ join_work on xs dxs ys dys
    join-less = omega (arith, size-fewer keep dxs, size-fewer also dys, pairs-fewer on keep also dxs ys, pairs-fewer on keep also xs dys, pairs-fewer on keep also dxs dys)

  -- ---- all joins
  module _ (tables changes : Tables) (wide : HaveWidths width tables) (as_wide : HaveWidths width changes) where
    -- the steps do no more work than the joins
    pub work-less : (n : ℕ) (keep : Row → Bool) (xs dxs : Weighted) → HasWidth n xs → HasWidth n dxs → (steps : List Step)
        → work_along tables changes (filtered keep xs) (filtered keep dxs) steps
        ≤ chain_work tables changes xs dxs (joins_of steps)
    work-less n keep xs dxs v w [] = size-fewer keep dxs
    work-less n keep xs dxs v w (s ∷ steps) =
        let on = meets s.node.on in
        let also = keeps s.below in
        let ys = tables s.source in
        let dys = changes s.source in
        let m = width s.source in
        let passing = on_parts n keep also in
        let rows : joined on (filtered keep xs) (filtered also ys) ≡ filtered passing (joined on xs ys) = joined-filtered on n keep also xs ys v in
        let more : join_change on (filtered keep xs) (filtered keep dxs) (filtered also ys) (filtered also dys) ≡ filtered passing (join_change on xs dxs ys dys) =
        change-filtered on n keep also xs dxs ys dys v w in
        let same : work_along tables changes (joined on (filtered keep xs) (filtered also ys)) (join_change on (filtered keep xs) (filtered keep dxs) (filtered also ys) (filtered also dys)) steps
        ≡ work_along tables changes (filtered passing (joined on xs ys)) (filtered passing (join_change on xs dxs ys dys)) steps =
        λ i. work_along tables changes (rows i) (more i) steps in
        let rest = work-less (n + m) passing (joined on xs ys) (join_change on xs dxs ys dys) (joined-width on n m xs ys v (wide s.source))
        (change-width on n keep also xs dxs ys dys v w m (wide s.source) (as_wide s.source)) steps in
        omega (arith, join-less on n keep also xs dxs ys dys v w, same, rest)

    all-wide : HaveWidths width (changed tables changes)
    all-wide s = append-width (width s) (tables s) (changes s) (wide s) (as_wide s)

    module _ (c : Chain) (stands : Stands tables c) where
      -- what passes of the joined rows
      abbrev pub passes : Row → Bool
      passes = all_of (width c.first) (keeps c.condition) c.steps.items

      abbrev whole : Tables → Weighted
      whole all = chain all (all c.first) (joins_of c.steps.items)

      rows-passing : (all : Tables) → HaveWidths width all → rows_of c all ≡ filtered passes (whole all)
      rows-passing all w = rows-filtered all w (width c.first) (keeps c.condition) (all c.first) (w c.first) c.steps.items

      -- what the chain hands on of a change is what passes of the change of all joined rows
      pub given-filtered : (given : Weighted) → IsChange c changes given
          → SameBag given (filtered passes (chain_change tables changes (tables c.first) (changes c.first) (joins_of c.steps.items)))
      given-filtered given change =
          let more = chain_change tables changes (tables c.first) (changes c.first) (joins_of c.steps.items) in
          let law = filtered-respects passes (whole (changed tables changes)) (whole tables ++ more) (chain-law tables changes (tables c.first) (changes c.first) (joins_of c.steps.items)) in
          let both = change tables stands in
          record {
            at = λ r.
                let a = ap (λ (xs : Weighted). weight_of xs r) (sym (rows-passing (changed tables changes) all-wide)) ∙ both.at r ∙ weight_of-append (rows_of c tables) given r in
                let b = law.at r ∙ ap (λ (xs : Weighted). weight_of xs r) (filtered-append passes (whole tables) more) ∙ weight_of-append (filtered passes (whole tables)) (filtered passes more) r in
                let d = ap (λ (xs : Weighted). weight_of xs r) (rows-passing tables wide) in
                omega (arith, ints, a, b, d);
          }
