use Rattle.std.proofs.Common.{◌≡◌, ℕ, ◌+◌, List, ◌++◌, ◌∷◌, [], ◌∙◌, ap, ap₂, sym, arith, get_or, drop, length}
use Rattle.std.proofs.lemmas.List.{drop-drop, get_or-drop}
use Rattle.cq_values.specs.declared.value.Value.{Value}
use Rattle.cq_values_rows.proofs.Columns.{longer_next}
use Rattle.cq_values_rows.proofs.list.longer.Goals as goal

-- the next of columns that are left
next : (columns left : List (List Value)) (i : ℕ) → left ≡ drop i columns → get_or left 0 [] ≡ get_or columns i []
next columns left i e = ap (λ (l : List (List Value)). get_or l 0 []) e ∙ get_or-drop i columns 0 [] ∙ ap (λ (n : ℕ). get_or columns n []) {x = i + 0} {y = i} (omega arith)

-- and those behind it
rest : (columns left behind : List (List Value)) (i : ℕ) → left ≡ drop i columns → behind ≡ drop 1 left → behind ≡ drop (i + 1) columns
rest columns left behind i e f = f ∙ ap (drop 1) e ∙ drop-drop 1 i columns

pub loop-place-preserved : goal.loop-place-preserved
loop-place-preserved c =
    let columns = c.args.columns.items in
    let more = c.args.more.items in
    let i = c.loop-place._place in
    let so_far = c.loop-place.invariant in
    let made = c.in_ok-next_longer.ensures in
    record {
      so_far = c.in_ok-push.ensures.items
          ∙ ap₂ (λ (all : List (List Value)) (column : List Value). all ++ column ∷ []) so_far.so_far
          (made.column ∙ ap₂ (λ (a b : List Value). a ++ b) (next columns _ i so_far.left) (next more _ i so_far.behind))
          ∙ sym (longer_next columns more i (omega (arith, c.loop-place-test.true, c.len-count.ensures)) (omega (arith, c.loop-place-test.true, c.len-count.ensures, c.requires)));
      left = rest columns _ _ i so_far.left made.left;
      behind = rest more _ _ i so_far.behind made.behind;
    }
