-- What a query makes of rows and of the bag that they are.
use Rattle.std.proofs.Common.{◌≡◌, List, [], ◌∷◌, map, None, refl, ap, ◌∙◌, subst}
use Rattle.std.specs.Prelude.{Option}
use Rattle.cq_values.specs.Value.{Row}
use Rattle.cq_model_bags.specs.Bag.{Weighted, SameBag, once_each, filtered, projected}
use Rattle.cq_model_bags.specs.Listing.{Lists}
use Rattle.cq_model_bags.proofs.Bags.{same-trans, filtered-respects, projected-respects}
use Rattle.cq_model_bags.proofs.Distincts.{once_each-filter, once_each-map}
use Rattle.cq_model.specs.Expr.{Cond, Expr}
use Rattle.cq_model.specs.declared.query.Order.{Order}
use Rattle.cq_model.specs.declared.query.Source.{Source}
use Rattle.cq_model.specs.Meaning.{Tables, keeps, items_of, meaning}
use Rattle.cq_model.specs.Write.{chosen}
use Rattle.cq_engine_answers.specs.Reading.{plain}
use Rattle.cq_engine_answers.specs.Selects.{AreListed}

-- what items show of rows
module _ (filter : Option Cond) (items : List Expr) where
  abbrev shown : Weighted → Weighted
  shown xs = projected (items_of items) (filtered (keeps filter) xs)

  shown_rows : (rows : List Row) → once_each (map (items_of items) (chosen filter rows)) ≡ shown (once_each rows)
  shown_rows rows = once_each-map (items_of items) (chosen filter rows) ∙ ap (projected (items_of items)) (once_each-filter (keeps filter) rows)

  -- the sorted results are the listing of the query on a source whose bag the rows are
  pub listing_plain : (source : Source) (tables : Tables) (order : Order) (rows list : List Row) → SameBag (once_each rows) (tables source) → AreListed order (once_each (map (items_of items) (chosen filter rows))) list
      → AreListed order (meaning (plain source filter items) tables) list
  listing_plain source tables order rows list same listed =
      let all = listed.0 in
      let l = subst (λ (xs : Weighted). Lists order.keys xs all) (shown_rows rows) listed.1 in (
        all,
        record {
          same = same-trans (once_each all) (shown (once_each rows)) (shown (tables source)) l.same (projected-respects (items_of items) (filtered (keeps filter) (once_each rows)) (filtered (keeps filter) (tables source)) (filtered-respects (keeps filter) (once_each rows) (tables source) same));
          in_order = l.in_order;
        },
        listed.2,
      )

-- where no condition chooses, items that show rows as they are show these rows
pub shown_whole : (filter : Option Cond) (items : List Expr) (rows : List Row) → filter ≡ None → map (items_of items) rows ≡ rows
    → map (items_of items) (chosen filter rows) ≡ rows
shown_whole filter items rows none same = ap (map (items_of items)) (ap (λ (c : Option Cond). chosen c rows) none ∙ all_chosen rows) ∙ same
  where
    all_chosen : (rs : List Row) → chosen None rs ≡ rs
    all_chosen [] = refl
    all_chosen (r ∷ rs) = ap (λ (ss : List Row). r ∷ ss) (all_chosen rs)
