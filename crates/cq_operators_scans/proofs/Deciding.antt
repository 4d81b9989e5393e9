-- Chains of AND, of OR and of choices in rows: what is left of one completes it.
use Rattle.std.proofs.Common.{◌≡◌, ℕ, ◌+◌, ◌<◌, ◌≤◌, List, map, drop, length, get_or, refl, sym, ◌∙◌, ap, Vec, Box, Global}
use Rattle.std.specs.Prelude.{replicate}
use Rattle.std.proofs.lemmas.Simd.{zip2_of_maps}
use Rattle.std.specs.List.{AllByRecursion, fold}
use Rattle.std.specs.Simd.Lanes.{zip2}
use Rattle.cq_values.specs.Comparison.{compared}
use Rattle.cq_values.specs.Truth.{and_truth, or_truth}
use Rattle.cq_values.specs.Value.{Row}
use Rattle.cq_values.specs.declared.comparison.Comparison.TheVariants.{Equal}
use Rattle.cq_values.specs.declared.truth.Truth.{Truth}
use Rattle.cq_values.specs.declared.truth.Truth.TheVariants.{False}
use Rattle.cq_model.specs.declared.expr.CondTree.{CondTree}
use Rattle.cq_model.specs.declared.expr.CondTree.TheViews as view
use Rattle.cq_model.specs.declared.expr.ExprTree.{ExprTree}
use Rattle.cq_model.specs.Condition.{holds}
use Rattle.cq_model.specs.Eval.{eval}
use Rattle.cq_model.specs.Exact.{AreExactAt, AreExactIn, IsExactAt}
use Rattle.cq_model.specs.Expr.{Expr}
use Rattle.cq_model.specs.Trees.{cond_of, expr_of}
use Rattle.cq_model_eval.specs.Choices.{equals_one}
use Rattle.cq_model_eval.proofs.Chains.{chain-end, chain-next}
use Rattle.cq_model_eval.proofs.Conditions as chain
use Rattle.cq_model_eval.proofs.Conditions.{at-place, map-map}
use Rattle.cq_operators_scans.proofs.Lists.{replicate-map}
use Rattle.cq_model_bags.proofs.Lists.{all-weaker, map-same}

-- the truth of a part in a row
abbrev pub part_holds : CondTree → Row → Truth
part_holds t row = holds (cond_of t) row

-- whether a value equals a choice in a row
abbrev pub choice_equals : Expr → ExprTree → Row → Truth
choice_equals e t row = compared Equal (eval e row) (eval (expr_of t) row)

-- whether a value equals one of the choices in a row
abbrev pub one_equals : Expr → List ExprTree → Row → Truth
one_equals e choices row = equals_one (eval e row) (map expr_of choices) row

-- Of a chain a prefix is decided in each row, and what is left completes the whole.
pub record Deciding {T : Type 0} (join : Truth → Truth → Truth) (of : T → Row → Truth) (rows : List Row) (left : List T) (truths : List Truth) (whole : Row → Truth) : Type 0 where
  pub front : Row → Truth
  pub completes : (row : Row) → fold join (front row) (map (λ t. of t row) left) ≡ whole row
  pub are : truths ≡ map front rows

module _ {T : Type 0} (join : Truth → Truth → Truth) (of : T → Row → Truth) (rows : List Row) (items : List T) (i : ℕ) (truths : List Truth) (whole : Row → Truth) where
  -- one part more
  pub next : (part : T) → i < length items → part ≡ get_or items i part → (others made : List Truth) → others ≡ map (of part) rows → made ≡ zip2 join truths others
      → Deciding join of rows (drop i items) truths whole → Deciding join of rows (drop (i + 1) items) made whole
  next part more is others made are is_made d = record {
    front = λ row. join (d.front row) (of part row);
    completes = λ row. chain-next join (λ t. of t row) items i part (d.front row) (whole row) more is (d.completes row);
    are = is_made ∙ zip2_of_maps join d.front (of part) rows d.are are;
  }

  -- at the end the prefix is the whole
  pub finish : length items ≤ i → Deciding join of rows (drop i items) truths whole → truths ≡ map whole rows
  finish h d = d.are ∙ map-same d.front whole (λ row. chain-end join (λ t. of t row) items i (d.front row) (whole row) h (d.completes row)) rows

module _ (rows : List Row) (whole : CondTree) (first : Box CondTree Global) (rest : Vec CondTree Global) (head : CondTree) (items : List CondTree) (one : head ≡ first.value) (same : items ≡ rest.items) where
  module _ (truths : List Truth) (are : truths ≡ map (holds (cond_of head)) rows) where
    -- a chain of AND begins with its first part
    pub and-start : whole ≡ view.And first rest → Deciding and_truth part_holds rows items truths (holds (cond_of whole))
    and-start is = record {
      front = holds (cond_of head);
      completes = λ row. chain.and-start row whole first rest head items (holds (cond_of head) row) one same refl is;
      are = are;
    }

    -- and one of OR with its own
    pub or-start : whole ≡ view.Or first rest → Deciding or_truth part_holds rows items truths (holds (cond_of whole))
    or-start is = record {
      front = holds (cond_of head);
      completes = λ row. chain.or-start row whole first rest head items (holds (cond_of head) row) one same refl is;
      are = are;
    }

  module _ (exact : AllByRecursion (AreExactIn (cond_of whole)) rows) where
    -- where a chain is exact in each row, so is its first part
    pub and-first : whole ≡ view.And first rest → AllByRecursion (AreExactIn (cond_of head)) rows
    and-first is = all-weaker _ _ (λ row e. (chain.and-exact row whole first rest head items one same e is).0) rows exact

    pub or-first : whole ≡ view.Or first rest → AllByRecursion (AreExactIn (cond_of head)) rows
    or-first is = all-weaker _ _ (λ row e. (chain.or-exact row whole first rest head items one same e is).0) rows exact

    -- and so is the part at a place
    module _ (i : ℕ) (part : CondTree) (more : i < length items) (at : part ≡ get_or items i part) where
      pub and-part : whole ≡ view.And first rest → AllByRecursion (AreExactIn (cond_of part)) rows
      and-part is = all-weaker _ _ (λ row e. chain.and-part row whole first rest head items one same e i part more at is) rows exact

      pub or-part : whole ≡ view.Or first rest → AllByRecursion (AreExactIn (cond_of part)) rows
      or-part is = all-weaker _ _ (λ row e. chain.or-part row whole first rest head items one same e i part more at is) rows exact

module _ (rows : List Row) (e : Expr) (choices : List ExprTree) where
  -- before its first choice IN is False
  pub in-start : (truths : List Truth) → truths ≡ replicate (length rows) False → Deciding or_truth (choice_equals e) rows choices truths (one_equals e choices)
  in-start truths are = record {
    front = λ row. False;
    completes = λ row. sym (ap (fold or_truth False) (map-map expr_of (λ x. compared Equal (eval e row) (eval x row)) choices));
    are = are ∙ replicate-map False rows;
  }

  -- where all choices are exact in each row, so is the one at a place
  pub choice-exact : (i : ℕ) (choice : ExprTree) → i < length choices → choice ≡ get_or choices i choice → AllByRecursion (AreExactAt (map expr_of choices)) rows → AllByRecursion (IsExactAt (expr_of choice)) rows
  choice-exact i choice more at exact = all-weaker _ _ (λ row all. at-place (λ x. IsExactAt x row) expr_of choices i choice choice more at all) rows exact
