-- Entries of lent rows, as they grow, and the bags that they give.
use Rattle.std.proofs.Common.{◌≡◌, ℕ, zero, suc, ◌+◌, ◌<◌, cond, List, [], ◌∷◌, ◌++◌, take, length, get_or, refl, sym, ◌∙◌, ap, arith}
use Rattle.std.proofs.Math.Dec.{eqb-suc-suc, eqb-zero-suc}
use Rattle.std.proofs.lemmas.List.{length-take-le, take_more}
use Rattle.std.specs.Prelude.{nat_eq}
use Rattle.cq_values.specs.Value.{Row}
use Rattle.cq_model_bags.specs.Bag.{once_each}
use Rattle.cq_model_bags.proofs.Totals.{by_test}
use Rattle.cq_model.specs.declared.query.Source.{Source}
use Rattle.cq_model.specs.declared.query.Source.TheVariants.{Table, View}
use Rattle.cq_model.specs.Views.{tables_alone}
use Rattle.cq_test_plain.specs.declared.source_rows.Lent.{Lent}
use Rattle.cq_test_plain.specs.SourceRows.{lent_bags, rows_or}
use Rattle.cq_model.specs.Sources.{same_source}
use Rattle.cq_test_plain.specs.Lent.{HoldRows, numbered_or}
use Rattle.cq_test_plain.specs.Stored.{rows_at, stored_bags}
use Rattle.cq_test_plain.proofs.Agreeing.{alone}

-- an entry behind the others counts where no other does
rows_or-push : (sources : List Lent) (lent : Lent) (source : Source) (rows : List Row) → rows_or (sources ++ lent ∷ []) source rows ≡ rows_or sources source (cond (same_source lent.source source) lent.rows.now rows)
rows_or-push [] lent source rows = refl
rows_or-push (first ∷ sources) lent source rows =
    by_test (same_source first.source source) (λ k. rw k refl) (λ k. rw (k, rows_or-push sources lent source rows) refl)

-- a list behind the others stands at their number
get_or-push : (lists : List (List Row)) (list other : List Row) (n : ℕ) → get_or (lists ++ list ∷ []) n other ≡ get_or lists n (cond (nat_eq (length lists) n) list other)
get_or-push [] list other zero = refl
get_or-push [] list other (suc n) = rw (eqb-zero-suc n) refl
get_or-push (first ∷ lists) list other zero = refl
get_or-push (first ∷ lists) list other (suc n) = rw (eqb-suc-suc (length lists) n) (get_or-push lists list other n)

-- the lists so far and the next one
get_or-next : (lists : List (List Row)) (i : ℕ) (list other : List Row) (n : ℕ) → i < length lists → list ≡ get_or lists i list → get_or (take (i + 1) lists) n other ≡ get_or (take i lists) n (cond (nat_eq i n) list other)
get_or-next lists i list other n inside is =
    ap (λ ls. get_or ls n other) (take_more lists i list inside ∙ ap (λ l. take i lists ++ l ∷ []) (sym is))
    ∙ get_or-push (take i lists) list other n
    ∙ ap (λ m. get_or (take i lists) n (cond (nat_eq m n) list other)) (length-take-le i lists (omega (arith, inside)))

-- the tables so far and the next one
pub table-held : (tables : List (List Row)) (i : ℕ) (rows : List Row) (sources : List Lent) (lent : Lent)
    → i < length tables → rows ≡ get_or tables i rows → lent.source ≡ Table i → lent.rows.now ≡ rows → HoldRows (take i tables) [] sources → HoldRows (take (i + 1) tables) [] (sources ++ lent ∷ [])
table-held tables i rows sources lent inside is source_is rows_are held = record { at = at }
  where
    at : (source : Source) (other : List Row) → rows_or (sources ++ lent ∷ []) source other ≡ numbered_or (take (i + 1) tables) [] source other
    at (Table t) other =
        rows_or-push sources lent (Table t) other ∙ rw (source_is, rows_are) (held.at (Table t) (cond (nat_eq i t) rows other)) ∙ sym (get_or-next tables i rows other t inside is)
    at (View v) other = rows_or-push sources lent (View v) other ∙ rw source_is (held.at (View v) other)

-- the views so far and the next one
pub view-held : (tables views : List (List Row)) (i : ℕ) (rows : List Row) (sources : List Lent) (lent : Lent)
    → i < length views → rows ≡ get_or views i rows → lent.source ≡ View i → lent.rows.now ≡ rows → HoldRows tables (take i views) sources → HoldRows tables (take (i + 1) views) (sources ++ lent ∷ [])
view-held tables views i rows sources lent inside is source_is rows_are held = record { at = at }
  where
    at : (source : Source) (other : List Row) → rows_or (sources ++ lent ∷ []) source other ≡ numbered_or tables (take (i + 1) views) source other
    at (Table t) other = rows_or-push sources lent (Table t) other ∙ rw source_is (held.at (Table t) other)
    at (View v) other =
        rows_or-push sources lent (View v) other ∙ rw (source_is, rows_are) (held.at (View v) (cond (nat_eq i v) rows other)) ∙ sym (get_or-next views i rows other v inside is)

module _ (tables views : List (List Row)) (sources : List Lent) (held : HoldRows tables views sources) where
  held_at : (source : Source) → lent_bags sources source ≡ stored_bags tables views source
  held_at (Table t) = ap once_each (held.at (Table t) [])
  held_at (View v) = ap once_each (held.at (View v) [])

  -- the bags of entries that hold tables and views
  pub bags-held : lent_bags sources ≡ stored_bags tables views
  bags-held = λ k source. held_at source k

-- so it is where they are lent
pub bags-lent : (tables views lent_tables lent_views : List (List Row)) (sources lent : List Lent) → lent_tables ≡ tables → lent_views ≡ views → HoldRows lent_tables lent_views sources → lent ≡ sources
    → lent_bags lent ≡ stored_bags tables views
bags-lent tables views lent_tables lent_views sources lent first second held same =
    ap lent_bags same ∙ bags-held lent_tables lent_views sources held ∙ (λ i. stored_bags (first i) (second i))

-- the bags of entries that hold tables alone
pub bags-alone : (tables : List (List Row)) (sources : List Lent) → HoldRows tables [] sources → lent_bags sources ≡ tables_alone (rows_at tables)
bags-alone tables sources held = bags-held tables [] sources held ∙ alone tables

-- so it is where the tables are lent
pub bags-alone_lent : (tables lent_tables : List (List Row)) (sources lent : List Lent) → lent_tables ≡ tables → HoldRows lent_tables [] sources → lent ≡ sources → lent_bags lent ≡ tables_alone (rows_at tables)
bags-alone_lent tables lent_tables sources lent first held same =
    ap lent_bags same ∙ bags-alone lent_tables sources held ∙ ap (λ (ts : List (List Row)). tables_alone (rows_at ts)) first
