-- Whether totals can be shown depends on the bag of the rows alone, and a key occurs where its rows are counted.
use Rattle.std.proofs.Common.{◌≡◌, ◌↔◌, ℕ, pos, int_lt, List, [], ◌∷◌, Option, Some, None, inl, inr, refl, sym, ◌∙◌, ap, subst}
use Rattle.std.specs.List.{AllByRecursion, list_any}
use Rattle.cq_values.specs.Value.{Row}
use Rattle.cq_values.specs.Order.{same_row}
use Rattle.cq_model_bags.specs.Bag.{Weighted, weight_of, SameBag, projected}
use Rattle.cq_model_bags.proofs.Totals.{total-filtered}
use Rattle.cq_model_bags.proofs.Bags.{same-refl, same-sym, filtered-respects, projected-respects}
use Rattle.cq_model_bags.proofs.Distincts.{is_among-distinct}
use Rattle.cq_model_bags.proofs.Linears.{weight_of-projected}
use Rattle.cq_model.specs.declared.query.Aggregate.{Aggregate}
use Rattle.cq_model.specs.declared.query.Aggregate.TheVariants.{CountAll, Count, CountDistinct, Sum, Min, Max}
use Rattle.cq_model.specs.declared.query.Query.{Query}
use Rattle.cq_model.specs.declared.query.Shape.{Shape}
use Rattle.cq_model.specs.declared.query.Shape.TheVariants.{Plain, Grouped}
use Rattle.cq_views_model.specs.Delta.{SameTables}
use Rattle.cq_model.specs.Group.{count_all, key_of, rows_of_key, keys_of, InRange, SumInRange, SumsInRange}
use Rattle.cq_model.specs.declared.query.Source.{Source}
use Rattle.cq_model.specs.declared.query.Source.TheVariants.{Table, View}
use Rattle.cq_model.specs.Meaning.{Tables, joined_rows, ShapeInRange, MeaningInRange}
use Rattle.cq_model.specs.Views.{tables_alone, view_bag, with_views, ViewInRange, SourceInRange, sources_of, AnswerInRange}
use Rattle.cq_model_laws.proofs.Groups.{rows-respect, sum-respects}
use Rattle.cq_model_laws.proofs.Chains.{SameSources, all-same}
use Rattle.cq_model_laws.proofs.Meanings.{joined_rows-same, meaning-respects}
use Rattle.cq_model.proofs.Occurring.{IsRowOf}

-- what holds of all rows holds of each that is listed
pub all-at : (P : Row → Type 0) (rows : List Row) → AllByRecursion P rows → (r : Row) → IsRowOf r rows → P r
all-at P [] all r among = absurd among
all-at P (s ∷ rows) all r (inl e) = subst P (sym e) all.0
all-at P (s ∷ rows) all r (inr among) = all-at P rows all.1 r among

-- and the other way
pub all-from : (P : Row → Type 0) (rows : List Row) → ((r : Row) → IsRowOf r rows → P r) → AllByRecursion P rows
all-from P [] f = tt
all-from P (s ∷ rows) f = (f s (inl refl), all-from P rows (λ r among. f r (inr among)))

-- one SUM
range_of_sum-respects : (a : Aggregate) (xs ys : Weighted) → SameBag xs ys → SumInRange a xs → SumInRange a ys
range_of_sum-respects (Sum e) xs ys s h = subst InRange (sum-respects e xs ys s) h
range_of_sum-respects CountAll xs ys s h = tt
range_of_sum-respects (Count e) xs ys s h = tt
range_of_sum-respects (CountDistinct e) xs ys s h = tt
range_of_sum-respects (Min e) xs ys s h = tt
range_of_sum-respects (Max e) xs ys s h = tt

-- all of them
range_of_sums-respects : (aggregates : List Aggregate) (xs ys : Weighted) → SameBag xs ys → AllByRecursion (λ a. SumInRange a xs) aggregates → AllByRecursion (λ a. SumInRange a ys) aggregates
range_of_sums-respects [] xs ys s h = tt
range_of_sums-respects (a ∷ aggregates) xs ys s h = (range_of_sum-respects a xs ys s h.0, range_of_sums-respects aggregates xs ys s h.1)

-- all of them in each group
sums-respect : (columns : Option (List ℕ)) (aggregates : List Aggregate) (xs ys : Weighted) → SameBag xs ys → SumsInRange columns aggregates xs → SumsInRange columns aggregates ys
sums-respect None aggregates xs ys s h = range_of_sums-respects aggregates xs ys s h
sums-respect (Some columns) aggregates xs ys s h =
    all-from (λ k. AllByRecursion (λ a. SumInRange a (rows_of_key columns k ys)) aggregates) (keys_of columns ys) (λ k among.
    range_of_sums-respects aggregates (rows_of_key columns k xs) (rows_of_key columns k ys) (filtered-respects (λ r. same_row (key_of columns r) k) xs ys s)
    (all-at (λ k. AllByRecursion (λ a. SumInRange a (rows_of_key columns k xs)) aggregates) (keys_of columns xs) h k
    (rows-respect (projected (key_of columns) ys) (projected (key_of columns) xs) (projected-respects (key_of columns) ys xs (same-sym xs ys s)) k among)))

-- and in a query
shape-respects : (shape : Shape) (xs ys : Weighted) → SameBag xs ys → ShapeInRange shape xs → ShapeInRange shape ys
shape-respects Plain xs ys s h = tt
shape-respects (Grouped keys aggregates having) xs ys s h = sums-respect keys aggregates xs ys s h

-- the range of a query's totals depends on the bags of the sources that FROM names alone
pub range-same : (q : Query) (tables others : Tables) → SameSources tables others (sources_of q) → MeaningInRange q tables ↔ MeaningInRange q others
range-same q tables others t =
    let same = joined_rows-same q tables others t in
    (shape-respects q.shape (joined_rows q tables) (joined_rows q others) same, shape-respects q.shape (joined_rows q others) (joined_rows q tables) (same-sym (joined_rows q tables) (joined_rows q others) same))

pub range-respects : (q : Query) (tables others : Tables) → SameTables tables others → MeaningInRange q tables ↔ MeaningInRange q others
range-respects q tables others t = range-same q tables others (all-same tables others t (sources_of q))

-- a key weighs as much as its rows
pub key-weight : (columns : List ℕ) (k : Row) (xs : Weighted) → weight_of (projected (key_of columns) xs) k ≡ count_all (rows_of_key columns k xs)
key-weight columns k xs = weight_of-projected (key_of columns) xs k ∙ sym (total-filtered (λ r. pos 1) (λ r. same_row (key_of columns r) k) xs)

-- a key occurs exactly where its rows are counted
pub key-counted : (columns : List ℕ) (k : Row) (xs : Weighted) → list_any (λ s. same_row s k) (keys_of columns xs) ≡ int_lt (pos 0) (count_all (rows_of_key columns k xs))
key-counted columns k xs = is_among-distinct (projected (key_of columns) xs) k ∙ ap (int_lt (pos 0)) (key-weight columns k xs)

-- ---- through views
alone-respect : (tables others : ℕ → Weighted) → ((t : ℕ) → SameBag (tables t) (others t)) → SameTables (tables_alone tables) (tables_alone others)
alone-respect tables others s = record { at = each }
  where
    each : (source : Source) → SameBag (tables_alone tables source) (tables_alone others source)
    each (Table t) = s t
    each (View v) = same-refl []

-- a view's bag depends on the tables' bags alone
view-respects : (tables others : ℕ → Weighted) (query : Option Query) → ((t : ℕ) → SameBag (tables t) (others t)) → SameBag (view_bag tables query) (view_bag others query)
view-respects tables others None s = same-refl []
view-respects tables others (Some q) s = meaning-respects q (tables_alone tables) (tables_alone others) (alone-respect tables others s)

-- and so does what each source names
pub views-respect : (tables others : ℕ → Weighted) (queries : ℕ → Option Query) → ((t : ℕ) → SameBag (tables t) (others t)) → SameTables (with_views tables queries) (with_views others queries)
views-respect tables others queries s = record { at = each }
  where
    each : (source : Source) → SameBag (with_views tables queries source) (with_views others queries source)
    each (Table t) = s t
    each (View v) = view-respects tables others (queries v) s

-- whether a view's totals can be shown, too
view_range-respects : (tables others : ℕ → Weighted) (query : Option Query) → ((t : ℕ) → SameBag (tables t) (others t)) → ViewInRange tables query → ViewInRange others query
view_range-respects tables others None s h = tt
view_range-respects tables others (Some q) s h = (range-respects q (tables_alone tables) (tables_alone others) (alone-respect tables others s)).0 h

module _ (tables others : ℕ → Weighted) (queries : ℕ → Option Query) (s : (t : ℕ) → SameBag (tables t) (others t)) where
  -- one source
  source_range-respects : (source : Source) → SourceInRange tables queries source → SourceInRange others queries source
  source_range-respects (Table t) h = tt
  source_range-respects (View v) h = view_range-respects tables others (queries v) s h

  -- all sources that FROM names
  source_ranges-respect : (sources : List Source) → AllByRecursion (SourceInRange tables queries) sources → AllByRecursion (SourceInRange others queries) sources
  source_ranges-respect [] h = tt
  source_ranges-respect (source ∷ sources) h = (source_range-respects source h.0, source_ranges-respect sources h.1)

  -- and the query itself
  answer_range-respects : (q : Query) → AnswerInRange tables queries q → AnswerInRange others queries q
  answer_range-respects q h = record {
    own = (range-respects q (with_views tables queries) (with_views others queries) (views-respect tables others queries s)).0 h.own;
    named = source_ranges-respect (sources_of q) h.named;
  }

-- both ways
pub answer-respects : (tables others : ℕ → Weighted) (queries : ℕ → Option Query) → ((t : ℕ) → SameBag (tables t) (others t)) → (q : Query) → AnswerInRange tables queries q ↔ AnswerInRange others queries q
answer-respects tables others queries s q =
    (answer_range-respects tables others queries s q, answer_range-respects others tables queries (λ t. same-sym (tables t) (others t) (s t)) q)
