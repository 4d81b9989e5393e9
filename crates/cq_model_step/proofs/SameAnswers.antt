-- In states that are alike a command has one answer, and leads to states that are alike.
use Rattle.std.proofs.Common.{◌≡◌, ℕ, suc, ◌+◌, not, List, [], ◌∷◌, ◌++◌, map, take, drop, Option, refl, sym, ap, subst, ◌∙◌}
use Rattle.std.specs.Prelude.{slice_get, length, filter, ◌==◌}
use Rattle.std.specs.List.{remove}
use Rattle.std.proofs.lemmas.List.{map-append, take-map, drop-map}
use Rattle.cq_values.specs.Value.{Row}
use Rattle.cq_model_bags.specs.Bag.{Weighted, once_each}
use Rattle.cq_model_bags.specs.Listing.{IsListing}
use Rattle.cq_model_bags.specs.Laws.{OneListing}
use Rattle.cq_binder_rules.specs.declared.bound.Bound.{Bound}
use Rattle.cq_binder_rules.specs.declared.bound.Bound.TheVariants as commands
use Rattle.cq_model.specs.declared.query.Order.{Order}
use Rattle.cq_model.specs.declared.query.Query.{Query}
use Rattle.cq_values.specs.declared.column.ColumnDef.{ColumnDef}
use Rattle.cq_model.specs.Meaning.{meaning}
use Rattle.cq_model.specs.Views.{with_views, AnswerInRange}
use Rattle.cq_model.specs.Write.{chosen, left_by, updated}
use Rattle.cq_model_step.specs.declared.answer.Answer.{Answer}
use Rattle.cq_model_step.specs.declared.answer.Answer.TheVariants.{Count, Rows}
use Rattle.cq_model_state.specs.State.{TableOf, ViewOf, State, empty_table, rows_in, with_rows, tables_now, queries_of}
use Rattle.cq_model_step.specs.Next.{with_all_views, created, new_view, Writes, taken_on, reach, refreshed, Trims}
use Rattle.cq_model_step.specs.Step.{Shows, Leads, Accepts, AreBetween, GivesUp, IsTooLarge}
use Rattle.cq_model_step.proofs.Alike.{Alike, alike_same, alike_then, alike_turned, timeless}

-- the queries of views have no epoch
pub queries_timeless : (vs : List ViewOf) → map (λ v. v.query) (map timeless vs) ≡ map (λ v. v.query) vs
queries_timeless [] = refl
queries_timeless (v ∷ vs) = ap (λ (qs : List Query). v.query ∷ qs) (queries_timeless vs)

-- the bags of the tables are the same, and so are the queries of the views
pub tables-alike : (x y : State) → Alike x y → tables_now x ≡ tables_now y
tables-alike x y a = ap {B = ℕ → Weighted} (λ (ts : List TableOf) (n : ℕ). once_each (rows_in ts n)) a.tables

pub queries-alike : (x y : State) → Alike x y → queries_of x ≡ queries_of y
queries-alike x y a = ap {B = ℕ → Option Query} (λ (qs : List Query) (place : ℕ). slice_get qs place) (sym (queries_timeless x.views) ∙ ap (λ (vs : List ViewOf). map (λ v. v.query) vs) a.views ∙ queries_timeless y.views)

-- taking views on changes their epochs alone
taken-timeless : (to : ℕ → ViewOf → ℕ) (place : ℕ) (vs : List ViewOf) → map timeless (taken_on to place vs) ≡ map timeless vs
taken-timeless to place [] = refl
taken-timeless to place (v ∷ vs) = ap (λ (ws : List ViewOf). timeless v ∷ ws) (taken-timeless to (place + 1) vs)

refreshed-alike : (command : Bound) (x : State) → Alike (refreshed command x) x
refreshed-alike command x = record { tables = refl; views = taken-timeless (reach x command) 0 x.views; now = refl; drawn = refl; max_rows = refl }

removed-timeless : (vs : List ViewOf) (place : ℕ) → map timeless (remove vs place) ≡ remove (map timeless vs) place
removed-timeless vs place =
    map-append timeless (take place vs) (drop (suc place) vs)
    ∙ (λ i. sym (take-map timeless place vs) i ++ sym (drop-map timeless (suc place) vs) i)

between-timeless : (to : ℕ → ViewOf → ℕ) (place : ℕ) (vs ws : List ViewOf) → AreBetween to place vs ws → map timeless ws ≡ map timeless vs
between-timeless to place [] [] h = refl
between-timeless to place [] (w ∷ ws) h = absurd h
between-timeless to place (v ∷ vs) [] h = absurd h
between-timeless to place (v ∷ vs) (w ∷ ws) h = λ i. timeless (h.0.3 i) ∷ between-timeless to (place + 1) vs ws h.1 i

-- a command that gives up leaves a state that is alike
pub gives-up-alike : (x : State) (command : Bound) (y : State) → GivesUp x command y → Alike y x
gives-up-alike x command y g = record {
  tables = ap (λ (s : State). s.tables) g.state;
  views = between-timeless (reach x command) 0 x.views y.views g.views;
  now = ap (λ (s : State). s.now) g.state;
  drawn = ap (λ (s : State). s.drawn) g.state;
  max_rows = ap (λ (s : State). s.max_rows) g.state;
}

-- a write of the same rows
writes-alike : (x y : State) (n : ℕ) (rows others : List Row) (v w : State) → Alike x y → rows ≡ others → Writes x n rows v → Writes y n others w → Alike v w
writes-alike x y n rows others v w a same p q = record {
  tables = ap (λ (s : State). s.tables) p.state ∙ (λ i. with_rows n (same i) (a.tables i)) ∙ sym (ap (λ (s : State). s.tables) q.state);
  views = ap (λ (s : State). map timeless s.views) p.state ∙ a.views ∙ sym (ap (λ (s : State). map timeless s.views) q.state);
  now = ap (λ (s : State). s.now) p.state ∙ ap (λ (n : ℕ). n + 1) a.now ∙ sym (ap (λ (s : State). s.now) q.state);
  drawn = ap (λ (s : State). s.drawn) p.state ∙ ap (λ (n : ℕ). n + 1) a.drawn ∙ sym (ap (λ (s : State). s.drawn) q.state);
  max_rows = ap (λ (s : State). s.max_rows) p.state ∙ a.max_rows ∙ sym (ap (λ (s : State). s.max_rows) q.state);
}

created-alike : (name : List ℕ) (columns : List ColumnDef) (sort : List ℕ) (x y : State) → Alike x y → Alike (created name columns sort x) (created name columns sort y)
created-alike name columns sort x y a = record {
  tables = λ i. a.tables i ++ empty_table (a.drawn i) name columns sort ∷ [];
  views = a.views;
  now = a.now;
  drawn = ap (λ (n : ℕ). n + 1) a.drawn;
  max_rows = a.max_rows;
}

viewed-alike : (name : List ℕ) (columns : List ColumnDef) (q : Query) (x y : State) → Alike x y
    → Alike (with_all_views (x.views ++ new_view name columns q x.now ∷ []) x) (with_all_views (y.views ++ new_view name columns q y.now ∷ []) y)
viewed-alike name columns q x y a = record {
  tables = a.tables;
  views =
      map-append timeless x.views (new_view name columns q x.now ∷ [])
      ∙ (λ i. a.views i ++ timeless (new_view name columns q (a.now i)) ∷ [])
      ∙ sym (map-append timeless y.views (new_view name columns q y.now ∷ []));
  now = a.now;
  drawn = a.drawn;
  max_rows = a.max_rows;
}

-- states that are alike, each made of one of two that are
through : (x y v w p q : State) → Alike x y → v ≡ p → w ≡ q → Alike p x → Alike q y → Alike v w
through x y v w p q a e k b c = alike_then v x w (alike_then v p x (alike_same v p e) b) (alike_then x y w a (alike_turned w y (alike_then w q y (alike_same w q k) c)))

-- states that are alike, where each is a given one
between-same : (v w p q : State) → v ≡ p → w ≡ q → Alike p q → Alike v w
between-same v w p q e k a = alike_then v p w (alike_same v p e) (alike_then p q w a (alike_turned w q (alike_same w q k)))

-- one answer, and states that are alike
pub record SameAnswer (a b : Answer) (x y : State) : Type 0 where
  pub answer : a ≡ b
  pub states : Alike x y

rows_of_alike : (n : ℕ) (x y : State) → Alike x y → rows_in x.tables n ≡ rows_in y.tables n
rows_of_alike n x y a = ap (λ (ts : List TableOf). rows_in ts n) a.tables

-- what the queue lost in front is not seen
trims-alike : (whole new : State) → Trims whole new → Alike new whole
trims-alike whole new t = record {
  tables = ap (λ (s : State). s.tables) t.state;
  views = ap (λ (s : State). map timeless s.views) t.state;
  now = ap (λ (s : State). s.now) t.state;
  drawn = ap (λ (s : State). s.drawn) t.state;
  max_rows = ap (λ (s : State). s.max_rows) t.state;
}

module _ (one_listing : OneListing) where
  shows-alike : (x y : State) (header : List (List ℕ)) (q : Query) (order : Order) (a b : Answer) → Alike x y → Shows x header q order a → Shows y header q order b → a ≡ b
  shows-alike x y header q order a b same p r =
      let bags : with_views (tables_now x) (queries_of x) ≡ with_views (tables_now y) (queries_of y) = λ i. with_views (tables-alike x y same i) (queries-alike x y same i) in
      let other = subst (λ tables. IsListing order.keys order.limit (meaning q tables) r.rows) (sym bags) r.listed in
      let rows : p.rows ≡ r.rows = one_listing order.keys order.limit (meaning q (with_views (tables_now x) (queries_of x))) p.rows r.rows p.listed other in
      p.answered ∙ ap (Rows header) rows ∙ sym r.answered

  -- a command has one answer, and leads to states that are alike
  leads-alike : (x y : State) (command : Bound) (a b : Answer) (v w : State) → Alike x y → Leads x command a v → Leads y command b w → SameAnswer a b v w
  leads-alike x y (commands.CreateTable name columns sort) a b v w s p q = record {
    answer = p.0 ∙ sym q.0;
    states = between-same v w (created name columns sort x) (created name columns sort y) p.1 q.1 (created-alike name columns sort x y s);
  }
  leads-alike x y (commands.DropTable n) a b v w s p q = record {
    answer = p.0 ∙ sym q.0;
    states = record {
      tables = ap (λ (z : State). z.tables) p.1 ∙ ap (λ (ts : List TableOf). filter (λ t. not (t.number == n)) ts) s.tables ∙ sym (ap (λ (z : State). z.tables) q.1);
      views = ap (λ (z : State). map timeless z.views) p.1 ∙ s.views ∙ sym (ap (λ (z : State). map timeless z.views) q.1);
      now = ap (λ (z : State). z.now) p.1 ∙ s.now ∙ sym (ap (λ (z : State). z.now) q.1);
      drawn = ap (λ (z : State). z.drawn) p.1 ∙ s.drawn ∙ sym (ap (λ (z : State). z.drawn) q.1);
      max_rows = ap (λ (z : State). z.max_rows) p.1 ∙ s.max_rows ∙ sym (ap (λ (z : State). z.max_rows) q.1);
    };
  }
  leads-alike x y (commands.CreateView name columns d) a b v w s p q = record {
    answer = p.0 ∙ sym q.0;
    states = between-same v w (with_all_views (x.views ++ new_view name columns d x.now ∷ []) x) (with_all_views (y.views ++ new_view name columns d y.now ∷ []) y) p.1 q.1 (viewed-alike name columns d x y s);
  }
  leads-alike x y (commands.DropView place) a b v w s p q = record {
    answer = p.0 ∙ sym q.0;
    states = record {
      tables = ap (λ (z : State). z.tables) p.1 ∙ s.tables ∙ sym (ap (λ (z : State). z.tables) q.1);
      views =
          ap (λ (z : State). map timeless z.views) p.1
          ∙ removed-timeless x.views place
          ∙ ap (λ (vs : List ViewOf). remove vs place) s.views
          ∙ sym (removed-timeless y.views place)
          ∙ sym (ap (λ (z : State). map timeless z.views) q.1);
      now = ap (λ (z : State). z.now) p.1 ∙ s.now ∙ sym (ap (λ (z : State). z.now) q.1);
      drawn = ap (λ (z : State). z.drawn) p.1 ∙ s.drawn ∙ sym (ap (λ (z : State). z.drawn) q.1);
      max_rows = ap (λ (z : State). z.max_rows) p.1 ∙ s.max_rows ∙ sym (ap (λ (z : State). z.max_rows) q.1);
    };
  }
  leads-alike x y (commands.Insert n rows) a b v w s p q = record {
    answer = p.0 ∙ sym q.0;
    states = writes-alike x y n (rows_in x.tables n ++ rows) (rows_in y.tables n ++ rows) v w s (ap (λ (rs : List Row). rs ++ rows) (rows_of_alike n x y s)) p.1 q.1;
  }
  leads-alike x y (commands.Delete n c) a b v w s p q = record {
    answer = p.0 ∙ ap (λ (rs : List Row). Count (length (chosen c rs))) (rows_of_alike n x y s) ∙ sym q.0;
    states = writes-alike x y n (left_by c (rows_in x.tables n)) (left_by c (rows_in y.tables n)) v w s (ap (left_by c) (rows_of_alike n x y s)) p.1 q.1;
  }
  leads-alike x y (commands.Update n assignments c) a b v w s p q = record {
    answer = p.0 ∙ ap (λ (rs : List Row). Count (length (chosen c rs))) (rows_of_alike n x y s) ∙ sym q.0;
    states = writes-alike x y n (updated assignments c (rows_in x.tables n)) (updated assignments c (rows_in y.tables n)) v w s (ap (updated assignments c) (rows_of_alike n x y s)) p.1 q.1;
  }
  leads-alike x y (commands.Select header d order) a b v w s p q = record {
    answer = shows-alike x y header d order a b s p.0 q.0;
    states = through x y v w (refreshed (commands.Select header d order) x) (refreshed (commands.Select header d order) y) s p.1 q.1 (refreshed-alike (commands.Select header d order) x) (refreshed-alike (commands.Select header d order) y);
  }
  leads-alike x y (commands.Move n rows) a b v w s p q = record { answer = p.0 ∙ sym q.0; states = between-same v w x y p.1 q.1 s }
  leads-alike x y (commands.Merge n) a b v w s p q = record { answer = p.0 ∙ sym q.0; states = between-same v w x y p.1 q.1 s }
  leads-alike x y (commands.Refresh place changes) a b v w s p q = record {
    answer = p.0 ∙ sym q.0;
    states = through x y v w (refreshed (commands.Refresh place changes) x) (refreshed (commands.Refresh place changes) y) s p.1 q.1 (refreshed-alike (commands.Refresh place changes) x) (refreshed-alike (commands.Refresh place changes) y);
  }

  pub accepts-alike : (x y : State) (command : Bound) (a b : Answer) (v w : State) → Alike x y → Accepts x command a v → Accepts y command b w → SameAnswer a b v w
  accepts-alike x y command a b v w s p q =
      let led = leads-alike x y command a b p.whole q.whole s p.leads q.leads in
      record { answer = led.answer; states = through p.whole q.whole v w v w led.states refl refl (trims-alike p.whole v p.trims) (trims-alike q.whole w q.trims) }

-- an answer that can be shown in one can be shown in the other
pub not-too-large : (x y : State) (command : Bound) (a : Answer) (v : State) → Alike x y → Accepts x command a v → IsTooLarge y command → ⊥
not-too-large x y (commands.Select header q order) a v s p large =
    large (subst (λ (f : ℕ → Option Query). AnswerInRange (tables_now y) f q) (queries-alike x y s) (subst (λ (f : ℕ → Weighted). AnswerInRange f (queries_of x) q) (tables-alike x y s) p.leads.0.in_range))
not-too-large x y (commands.CreateTable name columns sort) a v s p large = large
not-too-large x y (commands.DropTable n) a v s p large = large
not-too-large x y (commands.CreateView name columns q) a v s p large = large
not-too-large x y (commands.DropView place) a v s p large = large
not-too-large x y (commands.Insert n rows) a v s p large = large
not-too-large x y (commands.Delete n c) a v s p large = large
not-too-large x y (commands.Update n assignments c) a v s p large = large
not-too-large x y (commands.Move n rows) a v s p large = large
not-too-large x y (commands.Merge n) a v s p large = large
not-too-large x y (commands.Refresh place changes) a v s p large = large
