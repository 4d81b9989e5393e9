-- Rows that a vector holds can be counted: so where HAVING or an item is too wide, the shape or what is shown of it is.
use Rattle.std.proofs.Common.{◌≡◌, ℕ, ◌<◌, ◌^◌, List, Option, length, arith, inr, sym, subst}
use Rattle.std.proofs.lemmas.Int.{ints}
use Rattle.cq_values.specs.Value.{Row}
use Rattle.cq_model_bags.specs.Bag.{Weighted, once_each}
use Rattle.cq_model.specs.Expr.{Cond}
use Rattle.cq_model.specs.declared.query.Aggregate.{Aggregate}
use Rattle.cq_model.specs.declared.query.Query.{Query}
use Rattle.cq_model.specs.declared.query.Shape.{Shape}
use Rattle.cq_model.specs.declared.query.Shape.TheVariants.{Grouped}
use Rattle.cq_model.specs.Group.{SumsInRange, grouped}
use Rattle.cq_model.specs.Meaning.{ShapeInRange, shaped}
use Rattle.cq_test_plain.specs.declared.fault.PlainFault.{PlainFault}
use Rattle.cq_test_plain.specs.Faults.{Tells}
use Rattle.cq_test_plain.specs.FaultsOf.{IsShapeFault, IsShownFault}
use Rattle.cq_test_plain.specs.Wide.{IsCountable, IsItemWide, IsWideAmong}
use Rattle.cq_test_plain.proofs.Exits.{tells_more}
use Rattle.cq_model.proofs.ListedValues.{count_all-listed}

module _ (rows : List Row) (few : length rows < 2 ^ 64) where
  -- as many as a vector can hold are not too many
  rows_countable : IsCountable (once_each rows)
  rows_countable = omega (arith, ints, count_all-listed rows, few)

  -- a fault of HAVING is one of the shape
  pub having_fault : (shape : Shape) (keys : Option (List ℕ)) (aggregates : List Aggregate) (having : Option Cond) (groups : Weighted) → shape ≡ Grouped keys aggregates having → groups ≡ grouped keys aggregates (once_each rows)
      → SumsInRange keys aggregates (once_each rows) → (e : PlainFault) → Tells (IsWideAmong having groups) ⊥ e → IsShapeFault shape (once_each rows) e
  having_fault shape keys aggregates having groups is groups_are range e told =
      subst (λ (s : Shape). IsShapeFault s (once_each rows) e) (sym is)
      (tells_more (λ wide. inr (rows_countable, range, subst (IsWideAmong having) groups_are wide)) (λ none. absurd none) e told)

  -- a fault of an item is one of what is shown
  pub item_fault : (q : Query) (all : Weighted) → all ≡ shaped q.shape (once_each rows) → ShapeInRange q.shape (once_each rows)
      → (e : PlainFault) → Tells (IsItemWide q.items all) ⊥ e → IsShownFault q (once_each rows) e
  item_fault q all is range e told =
      tells_more (λ wide. inr (rows_countable, range, subst (IsItemWide q.items) is wide)) (λ none. absurd none) e told
