-- An aggregate over rows, by the values that its expression has in them.
use Rattle.std.proofs.Common.{◌≡◌, ◌∙◌, List, [], ◌∷◌, ap, length, pos, subst, sym}
use Rattle.cq_values.specs.declared.value.Value.{Value}
use Rattle.cq_values.specs.declared.value.Value.TheVariants.{Number}
use Rattle.cq_values.specs.Value.{Row}
use Rattle.cq_model_bags.proofs.Distincts.{once_each-map}
use Rattle.cq_model_bags.proofs.Once.{distinct-once}
use Rattle.cq_model_bags.specs.Bag.{distinct_rows, firsts, once_each}
use Rattle.cq_model.specs.declared.query.Aggregate.{Aggregate}
use Rattle.cq_model.specs.declared.query.Aggregate.TheVariants.{Count, Sum, Min, Max}
use Rattle.cq_model.specs.Eval.{eval}
use Rattle.cq_model.specs.Expr.{Expr}
use Rattle.cq_model.specs.Group.{aggregate, count_distinct, extreme, higher, lower, InRange, SumInRange}
use Rattle.cq_model.specs.Totals.{shown_total, total_of}
use Rattle.cq_model.proofs.ListedValues.{count-of, max-of, min-of, sum-in_range, sum-of, sum-shows}
use Rattle.cq_test_plain.specs.OfGroups.{first_values, known_values, value_rows}

-- the first of each value, NULL left out, are as many as the different values of the rows
pub counted_once : (e : Expr) (rows : List Row) → pos (length (first_values (firsts (value_rows e rows)))) ≡ count_distinct e (once_each rows)
counted_once e rows =
    ap (λ (rs : List Row). pos (length (first_values rs)))
    (sym (distinct-once (value_rows e rows)) ∙ ap distinct_rows (once_each-map (λ (r : Row). eval e r ∷ []) rows))

module _ (kind : Aggregate) (e : Expr) (rows : List Row) (values : List Value) (are : values ≡ known_values e rows) where
  -- what is so of the aggregate that it is, is so of it
  of_kind : (other : Aggregate) → kind ≡ other → aggregate other (once_each rows) ≡ aggregate kind (once_each rows)
  of_kind other is = ap (λ (k : Aggregate). aggregate k (once_each rows)) (sym is)

  pub counted : kind ≡ Count e → Number (pos (length values)) ≡ aggregate kind (once_each rows)
  counted is = ap (λ (vs : List Value). Number (pos (length vs))) are ∙ count-of e rows ∙ of_kind (Count e) is

  pub summed : kind ≡ Sum e → shown_total values ≡ aggregate kind (once_each rows)
  summed is = ap shown_total are ∙ sum-of e rows ∙ of_kind (Sum e) is

  -- a SUM can be shown where the total of its values can
  pub sum-fits : kind ≡ Sum e → InRange (total_of values) → SumInRange kind (once_each rows)
  sum-fits is fits = subst (λ (k : Aggregate). SumInRange k (once_each rows)) (sym is) (sum-in_range e rows (subst (λ (vs : List Value). InRange (total_of vs)) are fits))

  pub fits-sum : kind ≡ Sum e → SumInRange kind (once_each rows) → InRange (total_of values)
  fits-sum is fits = subst (λ (vs : List Value). InRange (total_of vs)) (sym are) (sum-shows e rows (subst (λ (k : Aggregate). SumInRange k (once_each rows)) is fits))

  pub least : kind ≡ Min e → extreme lower values ≡ aggregate kind (once_each rows)
  least is = ap (extreme lower) are ∙ min-of e rows ∙ of_kind (Min e) is

  pub greatest : kind ≡ Max e → extreme higher values ≡ aggregate kind (once_each rows)
  greatest is = ap (extreme higher) are ∙ max-of e rows ∙ of_kind (Max e) is
