-- How many columns the tables have that a query names.
use Rattle.std.proofs.Common.{◌≡◌, ◌∙◌, ◌+◌, ◌<◌, ℕ, zero, suc, false, List, [], ◌∷◌, ◌++◌, length, get_or, Some, refl, sym, ap, arith}
use Rattle.std.specs.Prelude.{◌==◌, sum}
use Rattle.std.specs.List.{AllByRecursion}
use Rattle.std.proofs.lemmas.Bool.{eq-eqb, ne_eqb}
use Rattle.std.proofs.lemmas.List.Sums.{sum_by-append}
use Rattle.cq_engine_answers.specs.Reading.{IsSourceThere}
use Rattle.cq_model.specs.declared.query.Source.{Source}
use Rattle.cq_model.specs.declared.query.Source.TheVariants.{Table, View}
use Rattle.cq_model_state.specs.State.{AreNumbered, TableOf, ViewOf}
use Rattle.cq_engine_tables.proofs.Numbers.{above_at}
use Rattle.cq_engine_tables.specs.Views.{width_at}
use Rattle.cq_views_model.specs.Query.{IsTable}
use Rattle.cq_engine.specs.TableWidths.{IsTableThere}

-- a source that is a table and is there is a table that is there
table-there : (tables : List TableOf) (views : List ViewOf) (s : Source) → IsTable s → IsSourceThere tables views s → IsTableThere tables s
table-there tables views (Table n) table there = there
table-there tables views (View place) table there = absurd table

pub tables-there : (tables : List TableOf) (views : List ViewOf) (sources : List Source) → AllByRecursion IsTable sources → AllByRecursion (IsSourceThere tables views) sources
    → AllByRecursion (IsTableThere tables) sources
tables-there tables views [] table there = tt
tables-there tables views (s ∷ sources) table there = (table-there tables views s table.0 there.0, tables-there tables views sources table.1 there.1)

-- the table at a place has the columns of its number
width-there : (ts : List TableOf) (i : ℕ) (d : TableOf) (next : ℕ) → AreNumbered ts next → i < length ts → width_at ts (get_or ts i d).number ≡ Some (length (get_or ts i d).columns)
width-there [] i d next numbered h = absurd (omega (arith, h))
width-there (x ∷ xs) zero d next numbered h = rw (eq-eqb x.number x.number refl) refl
width-there (x ∷ xs) (suc i) d next numbered h =
    let inside : i < length xs = omega (arith, h) in
    let other : (x.number == (get_or xs i d).number) ≡ false = ne_eqb x.number (get_or xs i d).number (λ e. absurd (omega (arith, e, above_at x.number xs i d numbered.1 inside))) in
    rw other (width-there xs i d next numbered.2 inside)

pub width-numbered : (ts : List TableOf) (i : ℕ) (t : TableOf) (next n : ℕ) → AreNumbered ts next → i < length ts → t ≡ get_or ts i t → (get_or ts i t).number ≡ n → width_at ts n ≡ Some (length t.columns)
width-numbered ts i t next n numbered h is number = ap (width_at ts) (sym number) ∙ width-there ts i t next numbered h ∙ ap (λ (y : TableOf). Some (length y.columns)) (sym is)

-- one width more adds to their sum
pub sum-more : (xs : List ℕ) (x : ℕ) → sum (xs ++ x ∷ []) ≡ sum xs + x
sum-more xs x = omega (arith, sum_by-append (λ (n : ℕ). n) xs (x ∷ []))
