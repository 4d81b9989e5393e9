-- Changed joined rows that a view's images take one after the other.
use Rattle.std.specs.Prelude.{◌≡◌, ◌≤◌, ◌++◌}
use Rattle.std.specs.Global.{Vec}
use Rattle.cq_values.specs.Value.{Row}
use Rattle.cq_model_bags.specs.Bag.{Weighted, projected}
use Rattle.cq_deltas_joins.specs.Sources.{rows_at}
use Rattle.cq_deltas_joins.specs.Streaming.{IsFewChange}
use Rattle.cq_deltas_joins.specs.Taking.{TakesMerged}
use Rattle.cq_deltas_joins.specs.declared.chain.Chain.{Chain}
use Rattle.cq_deltas_joins.specs.declared.sources.SourceRows.{SourceRows}
use Rattle.cq_model.specs.Meaning.{Tables, items_of}
use Rattle.cq_model.specs.Sizes.{IsStored}
use Rattle.cq_model.specs.declared.query.Query.{Query}
use Rattle.cq_model.specs.declared.query.Shape.TheVariants.{Plain}
use Rattle.cq_sides_weights.specs.Held.{Held}
use Rattle.cq_views_state.specs.Counting.{CountsEach}
use Rattle.cq_views_state.specs.Last.{AreImages, kept_rows}
use Rattle.cq_views_model.specs.Query.{CanBeKept}
use Rattle.cq_views_state.specs.declared.imaging.ImageTaker.{ImageTaker}

-- the images of those of rows that WHERE keeps
abbrev pub images_of : Query → Weighted → Weighted
images_of query xs = projected (items_of query.items) (kept_rows query xs)

-- the query has no groups, and the row is a stored one
pub record CanTake (taker : ImageTaker) (row : Row) : Type 0 where
  pub can : CanBeKept taker.query.now
  pub plain : taker.query.now.shape ≡ Plain
  pub stored : IsStored row

-- behind the images that were there stand those of the rows, and each row counted one
pub record Takes (old : ImageTaker) (xs : Weighted) (new : ImageTaker) : Type 0 where
  pub query : new.query.now ≡ old.query.now
  pub images : new.images.items ≡ old.images.items ++ images_of old.query.now xs
  pub ticks : CountsEach old.ticks xs new.ticks

-- no count fell
pub record Keeps (old new : ImageTaker) : Type 0 where
  pub query : new.query.now ≡ old.query.now
  pub more : old.ticks ≤ new.ticks

-- these are the images of what the changes add behind the joins
abbrev pub AddsImages : Query → Chain → Tables → Held → Type 0
AddsImages query chain changes more = TakesMerged (λ xs. AreImages query (kept_rows query xs) more) (IsFewChange chain changes)

-- so it is with changes that are handed in
abbrev pub AddsImagesBy : Query → Chain → Vec SourceRows → Held → Type 0
AddsImagesBy query chain changes more = AddsImages query chain (rows_at changes.items) more
