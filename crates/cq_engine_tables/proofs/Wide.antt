-- How wide the tables are that a query names, where one of them is written, made or taken away.
use Rattle.std.proofs.Common.{◌≡◌, ◌⊎◌, ◌∙◌, ℕ, zero, false, List, [], ◌∷◌, ◌++◌, inl, inr, length, map, None, Some, refl, sym, subst}
use Rattle.std.specs.Prelude.{◌==◌, if◌then◌else◌}
use Rattle.std.specs.List.{AllByRecursion, AllZip}
use Rattle.std.proofs.lemmas.Bool.{eqb-false, eqb-true, ne_eqb}
use Rattle.cq_values.specs.Value.{Row}
use Rattle.cq_values.specs.declared.column.ColumnDef.{ColumnDef}
use Rattle.cq_model_bags.proofs.Totals.{by_test}
use Rattle.cq_model_bags.specs.Bag.{once_each}
use Rattle.cq_model_bags.specs.Join.{HasWidth}
use Rattle.cq_views.specs.Shown.{Suits}
use Rattle.cq_model.specs.Views.{is_table, sources_of}
use Rattle.cq_model.specs.declared.query.Source.{Source}
use Rattle.cq_model.specs.declared.query.Source.TheVariants.{Table, View}
use Rattle.cq_model_state.specs.Fitting.{AreFitting, FitsColumn, FitsColumns}
use Rattle.cq_model_state.specs.State.{IsThere, TableOf, columns_in, rows_in, with_rows}
use Rattle.cq_engine_tables.specs.Views.{IsPresent, IsWide, NamedView, bags_in, width_at}
use Rattle.cq_engine_tables.proofs.Bags.{bags_are}
use Rattle.cq_engine_tables.proofs.Numbers.{others}
use Rattle.cq_engine_tables.proofs.Rows.{fitting_in}
use Rattle.std.proofs.lemmas.Option.{same_Some}
use Rattle.cq_model_state.proofs.Pairwise.{pointwise_length}

-- ---- Tables that are as wide
-- each table that was there is there, and has as many columns
abbrev pub KeepWidths : List TableOf → List TableOf → Type 0
KeepWidths old new = (n wide : ℕ) → width_at old n ≡ Some wide → width_at new n ≡ Some wide

module _ (old new : List TableOf) (keep : KeepWidths old new) where
  still-wide : (s : Source) (wide : ℕ) → IsWide old s wide → IsWide new s wide
  still-wide (Table n) wide is = keep n wide is
  still-wide (View place) wide is = is

  -- so are those that a query names
  pub all-still-wide : (sources : List Source) (widths : List ℕ) → AllZip (IsWide old) sources widths → AllZip (IsWide new) sources widths
  all-still-wide [] [] all = tt
  all-still-wide [] (w ∷ widths) all = absurd all
  all-still-wide (s ∷ sources) [] all = absurd all
  all-still-wide (s ∷ sources) (w ∷ widths) all = (still-wide s w all.0, all-still-wide sources widths all.1)

-- tables of which one has other rows
pub keep-with_rows : (n : ℕ) (rows : List Row) (ts : List TableOf) → KeepWidths ts (with_rows n rows ts)
keep-with_rows n rows [] m wide is = is
keep-with_rows n rows (x ∷ xs) m wide is = by_test (x.number == n)
    (λ k. rw k (by_test (x.number == m) (λ j. rw j (rw j at is)) (λ j. rw j (keep-with_rows n rows xs m wide (rw j at is)))))
    (λ k. rw k (by_test (x.number == m) (λ j. rw j (rw j at is)) (λ j. rw j (keep-with_rows n rows xs m wide (rw j at is)))))

-- a table that is so wide is there
pub wide-there : (ts : List TableOf) (n wide : ℕ) → width_at ts n ≡ Some wide → IsThere n ts
wide-there [] n wide is = absurd (cc is)
wide-there (x ∷ xs) n wide is = by_test (x.number == n)
    (λ k. rw k refl)
    (λ k. rw k (wide-there xs n wide (rw k at is)))

-- one of which the rows were written was as wide
pub was-with_rows : (n : ℕ) (rows : List Row) (ts : List TableOf) (m wide : ℕ) → width_at (with_rows n rows ts) m ≡ Some wide → width_at ts m ≡ Some wide
was-with_rows n rows [] m wide is = is
was-with_rows n rows (x ∷ xs) m wide is = by_test (x.number == n)
    (λ k. by_test (x.number == m) (λ j. rw j (rw (k, j) at is)) (λ j. rw j (was-with_rows n rows xs m wide (rw (k, j) at is))))
    (λ k. by_test (x.number == m) (λ j. rw j (rw (k, j) at is)) (λ j. rw j (was-with_rows n rows xs m wide (rw (k, j) at is))))

-- one among others and a last one was there, or is that one
pub was-behind : (ts : List TableOf) (t : TableOf) (n wide : ℕ) → width_at (ts ++ t ∷ []) n ≡ Some wide → (width_at ts n ≡ Some wide) ⊎ (n ≡ t.number)
was-behind [] t n wide is = by_test (t.number == n) (λ k. inr (sym (eqb-true t.number n k))) (λ k. absurd (cc (rw k at is)))
was-behind (x ∷ xs) t n wide is = by_test (x.number == n)
    (λ k. inl (rw k (rw k at is)))
    (λ k. rw k (was-behind xs t n wide (rw k at is)))

-- and one that is there is so wide
pub there-wide : (ts : List TableOf) (n : ℕ) → IsThere n ts → width_at ts n ≡ None → ⊥
there-wide [] n there none = absurd (cc there)
there-wide (x ∷ xs) n there none = by_test (x.number == n)
    (λ k. absurd (cc (rw k at none)))
    (λ k. there-wide xs n (rw k at there) (rw k at none))

-- a table behind the others
pub keep-behind : (ts : List TableOf) (t : TableOf) → KeepWidths ts (ts ++ t ∷ [])
keep-behind [] t n wide is = absurd (cc is)
keep-behind (x ∷ xs) t n wide is = by_test (x.number == n)
    (λ k. rw k (rw k at is))
    (λ k. rw k (keep-behind xs t n wide (rw k at is)))

-- one table fewer
module _ (n : ℕ) where
  widths-left : (ts : List TableOf) (m : ℕ) → (m == n) ≡ false → width_at (others n ts) m ≡ width_at ts m
  widths-left [] m other = refl
  widths-left (x ∷ xs) m other = by_test (x.number == n)
      (λ k.
      let first : (x.number == m) ≡ false = ne_eqb x.number m (λ e. eqb-false m n other (sym e ∙ eqb-true x.number n k)) in
      rw (k, first) (widths-left xs m other))
      (λ k. rw k (by_test (x.number == m) (λ j. rw j refl) (λ j. rw j (widths-left xs m other))))

  -- the one that went is not left
  none-left : (ts : List TableOf) (m wide : ℕ) → m ≡ n → width_at (others n ts) m ≡ Some wide → ⊥
  none-left [] m wide gone is = absurd (cc is)
  none-left (x ∷ xs) m wide gone is = by_test (x.number == n)
      (λ k. none-left xs m wide gone (rw k at is))
      (λ k. none-left xs m wide gone (rw (k, ne_eqb x.number m (λ e. eqb-false x.number n k (e ∙ gone))) at is))

  -- one that is left was there
  pub was-left : (ts : List TableOf) (m wide : ℕ) → width_at (others n ts) m ≡ Some wide → width_at ts m ≡ Some wide
  was-left ts m wide is = by_test (m == n)
      (λ j. absurd (none-left ts m wide (eqb-true m n j) is))
      (λ j. sym (widths-left ts m j) ∙ is)

  one-left : (ts : List TableOf) (s : Source) (wide : ℕ) → is_table n s ≡ false → IsWide ts s wide → IsWide (others n ts) s wide
  one-left ts (Table m) wide other is = rw (widths-left ts m other) is
  one-left ts (View place) wide other is = is

  -- those that a query names are as wide, where it does not name that one
  pub wide-left : (ts : List TableOf) (sources : List Source) (widths : List ℕ) → AllByRecursion (λ s. is_table n s ≡ false) sources
      → AllZip (IsWide ts) sources widths → AllZip (IsWide (others n ts)) sources widths
  wide-left ts [] [] free all = tt
  wide-left ts [] (w ∷ widths) free all = absurd all
  wide-left ts (s ∷ sources) [] free all = absurd all
  wide-left ts (s ∷ sources) (w ∷ widths) free all = (one-left ts s w free.0 all.0, wide-left ts sources widths free.1 all.1)

-- ---- Rows that are as wide
-- rows of one width that stand once each have it
pub once-wide : (n : ℕ) (rows : List Row) → AllByRecursion (λ r. length r ≡ n) rows → HasWidth n (once_each rows)
once-wide n [] wide = tt
once-wide n (r ∷ rows) wide = (wide.0, once-wide n rows wide.1)

-- rows that fit columns are as many values wide
each-wide : (columns : List ColumnDef) (rows : List Row) → AllByRecursion (FitsColumns columns) rows → AllByRecursion (λ r. length r ≡ length columns) rows
each-wide columns [] fit = tt
each-wide columns (r ∷ rows) fit = (pointwise_length FitsColumn columns r fit.0, each-wide columns rows fit.1)

rows-wide : (columns : List ColumnDef) (rows : List Row) → AllByRecursion (FitsColumns columns) rows → HasWidth (length columns) (once_each rows)
rows-wide columns rows fit = once-wide (length columns) rows (each-wide columns rows fit)

module _ (tables : List TableOf) where
  -- how many columns the rows of a source have
  abbrev pub width_of : Source → ℕ
  width_of (Table n) = length (columns_in tables n)
  width_of (View place) = zero

  pub columns-wide : (ts : List TableOf) (n wide : ℕ) → width_at ts n ≡ Some wide → length (columns_in ts n) ≡ wide
  columns-wide [] n wide is = absurd (cc is)
  columns-wide (x ∷ xs) n wide is = by_test (x.number == n)
      (λ k. rw k (same_Some (length x.columns) wide (rw k at is)))
      (λ k. rw k (columns-wide xs n wide (rw k at is)))

  pub all-widths : (sources : List Source) (widths : List ℕ) → AllZip (IsWide tables) sources widths → map width_of sources ≡ widths
  all-widths [] [] all = refl
  all-widths [] (w ∷ widths) all = absurd all
  all-widths (s ∷ sources) [] all = absurd all
  all-widths (Table n ∷ sources) (w ∷ widths) all =
      let own = columns-wide tables n w all.0 in
      let rest = all-widths sources widths all.1 in
      λ i. own i ∷ rest i
  all-widths (View place ∷ sources) (w ∷ widths) all = absurd all.0

  -- so are the rows of a table
  pub rows-wide_in : (n wide : ℕ) → AreFitting tables → width_at tables n ≡ Some wide → AllByRecursion (λ r. length r ≡ wide) (rows_in tables n)
  rows-wide_in n wide fitting is = subst (λ (k : ℕ). AllByRecursion (λ r. length r ≡ k) (rows_in tables n)) (columns-wide tables n wide is) (each-wide (columns_in tables n) (rows_in tables n) (fitting_in n tables fitting))

  bags-wide : AreFitting tables → (s : Source) → HasWidth (width_of s) (bags_in tables s)
  bags-wide fitting (Table n) = rows-wide (columns_in tables n) (rows_in tables n) (fitting_in n tables fitting)
  bags-wide fitting (View place) = tt

  -- tables whose rows fit suit a view that stands for them
  pub suits : (v : NamedView) → AreFitting tables → IsPresent tables v → Suits v.kept (bags_in tables)
  suits v fitting right = record {
    stands = right.stands;
    columns = record {
      width = width_of;
      from = all-widths (sources_of v.kept.query) v.kept.widths right.wide;
      rows = bags-wide fitting;
      bags = bags_are tables;
    };
  }
