-- Tables as they are held, by their places and numbers, where one of them is written, made or taken away.
use Rattle.std.proofs.Common.{◌≡◌, ℕ, zero, suc, ◌<◌, true, false, List, [], ◌∷◌, ◌++◌, length, get_or, set, refl, sym, ap, ◌∙◌, arith, subst}
use Rattle.std.specs.Prelude.{◌||◌, ◌==◌, Bool, Err, IfOk, Ok, OnOk, Result, position}
use Rattle.std.specs.List.{AllByRecursion, list_any, remove}
use Rattle.std.proofs.lemmas.Bool.{eq-eqb, eqb-false, eqb-true, ne_eqb}
use Rattle.std.proofs.lemmas.List.{get_or-map, length-map, map-append, map-set, set-get_or}
use Rattle.cq_values.specs.Texts.{is_text}
use Rattle.cq_values.specs.Value.{Row}
use Rattle.cq_model_bags.proofs.Totals.{by_test}
use Rattle.cq_model_state.specs.State.{TableOf, AreNumbered, holding}
use Rattle.cq_engine_tables.specs.HeldTables.{ChangeAt, HeldTable, Lengths, LengthsStay, StoreNothing, lengths_in, lengths_of, nothing, tables_of}
use Rattle.cq_engine_tables.proofs.Images.{position-map, remove-map}
use Rattle.cq_engine_tables.proofs.Numbers.{Above, above_at, others, remove-number}

-- the table that is held
abbrev table : HeldTable → TableOf
table t = t.is

-- ---- Tables at their places
-- where a table is held is a table
pub within_tables : (xs : List HeldTable) (i : ℕ) → i < length xs → i < length (tables_of xs)
within_tables xs i h = omega (arith, h, length-map xs table)

-- and what is read there is it
pub read_table : (xs : List HeldTable) (i : ℕ) (t : HeldTable) → i < length xs → t ≡ get_or xs i t → t.is ≡ get_or (tables_of xs) i t.is
read_table xs i t h is = ap table is ∙ sym (get_or-map table xs i t t.is h)

-- so is what is known of its number
pub at_number : (xs : List HeldTable) (i : ℕ) (t : HeldTable) (n : ℕ) → i < length xs → t ≡ get_or xs i t → (get_or xs i t).is.number ≡ n
    → (i < length (tables_of xs)) × (t.is ≡ get_or (tables_of xs) i t.is) × ((get_or (tables_of xs) i t.is).number ≡ n)
at_number xs i t n h is number = (within_tables xs i h, read_table xs i t h is, ap (λ (u : TableOf). u.number) (get_or-map table xs i t t.is h) ∙ number)

-- writing a held table there writes it
pub tables_set : (xs : List HeldTable) (i : ℕ) (u : HeldTable) → tables_of (set xs i u) ≡ set (tables_of xs) i u.is
tables_set xs i u = map-set table xs i u

-- and no table is written where it is the same one
pub tables_same : (xs : List HeldTable) (i : ℕ) (t u : HeldTable) → i < length xs → t ≡ get_or xs i t → u.is ≡ t.is → tables_of (set xs i u) ≡ tables_of xs
tables_same xs i t u h is same =
    tables_set xs i u ∙ ap (λ (x : TableOf). set (tables_of xs) i x) (same ∙ read_table xs i t h is) ∙ set-get_or (tables_of xs) i t.is

-- the table of a name stands where it is held
pub place_held : (name : List ℕ) (xs : List HeldTable) → position (λ t. is_text t.name name) (tables_of xs) ≡ position (λ t. is_text t.is.name name) xs
place_held name xs = position-map table (λ t. is_text t.name name) xs

-- a number that is there is that of a held table
pub there_held : (n : ℕ) (xs : List HeldTable) → list_any (λ t. t.is.number == n) xs ≡ list_any (λ t. t.number == n) (tables_of xs)
there_held n [] = refl
there_held n (x ∷ xs) = ap (λ (b : Bool). (x.is.number == n) || b) (there_held n xs)

-- ---- Lengths by numbers
-- a table that is read at a place behind others is above them
above_held : (n : ℕ) (xs : List HeldTable) (i : ℕ) (d : HeldTable) → Above n (tables_of xs) → i < length xs → n < (get_or xs i d).is.number
above_held n xs i d above h = subst (λ (t : TableOf). n < t.number) (get_or-map table xs i d d.is h) (above_at n (tables_of xs) i d.is above (within_tables xs i h))

-- a number below those of all tables has nothing stored
above-nothing : (n : ℕ) (xs : List HeldTable) → Above n (tables_of xs) → lengths_in xs n ≡ nothing
above-nothing n [] above = refl
above-nothing n (x ∷ xs) above =
    let other : (x.is.number == n) ≡ false = ne_eqb x.is.number n (λ e. absurd (omega (arith, e, above.0))) in
    rw other (above-nothing n xs above.1)

-- nor has the next that is drawn
pub next-nothing : (xs : List HeldTable) (next : ℕ) → AreNumbered (tables_of xs) next → lengths_in xs next ≡ nothing
next-nothing [] next numbered = refl
next-nothing (x ∷ xs) next numbered =
    let other : (x.is.number == next) ≡ false = ne_eqb x.is.number next (λ e. absurd (omega (arith, e, numbered.0))) in
    rw other (next-nothing xs next numbered.2)

-- the number of one of the tables has its lengths
pub lengths_there : (ts : List HeldTable) (i : ℕ) (d : HeldTable) (next : ℕ) → AreNumbered (tables_of ts) next → i < length ts → lengths_in ts (get_or ts i d).is.number ≡ lengths_of (get_or ts i d)
lengths_there [] i d next numbered h = absurd (omega (arith, h))
lengths_there (x ∷ xs) zero d next numbered h = rw (eq-eqb x.is.number x.is.number refl) refl
lengths_there (x ∷ xs) (suc i) d next numbered h =
    let inside : i < length xs = omega (arith, h) in
    let other : (x.is.number == (get_or xs i d).is.number) ≡ false = ne_eqb x.is.number (get_or xs i d).is.number (λ e. absurd (omega (arith, e, above_held x.is.number xs i d numbered.1 inside))) in
    rw other (lengths_there xs i d next numbered.2 inside)

-- ---- Lengths where a table is written
module _ (R : Lengths → Lengths → Type 0) (n : ℕ) (t u : HeldTable) (mine : t.is.number ≡ n) (yours : u.is.number ≡ n) (related : R (lengths_of t) (lengths_of u)) where
  own : (x : HeldTable) → t ≡ x → x.is.number ≡ n
  own x is = ap (λ (v : HeldTable). v.is.number) (sym is) ∙ mine

  -- a table in the place of one of its number changes the lengths of that number
  here-set : (ts : List HeldTable) (i next : ℕ) → AreNumbered (tables_of ts) next → i < length ts → t ≡ get_or ts i t → R (lengths_in ts n) (lengths_in (set ts i u) n)
  here-set [] i next numbered h is = absurd (omega (arith, h))
  here-set (x ∷ xs) zero next numbered h is =
      let first : (x.is.number == n) ≡ true = eq-eqb x.is.number n (own x is) in
      let second : (u.is.number == n) ≡ true = eq-eqb u.is.number n yours in
      rw (first, second) (subst (λ (v : HeldTable). R (lengths_of v) (lengths_of u)) is related)
  here-set (x ∷ xs) (suc i) next numbered h is =
      let inside : i < length xs = omega (arith, h) in
      let other : (x.is.number == n) ≡ false = ne_eqb x.is.number n (λ e. absurd (omega (arith, e, mine, ap (λ (v : HeldTable). v.is.number) is, above_held x.is.number xs i t numbered.1 inside))) in
      rw other (here-set xs i next numbered.2 inside is)

  -- and no others
  others-set : (ts : List HeldTable) (i : ℕ) → i < length ts → t ≡ get_or ts i t → (m : ℕ) → (m == n) ≡ false → lengths_in (set ts i u) m ≡ lengths_in ts m
  others-set [] i h is m other = refl
  others-set (x ∷ xs) zero h is m other =
      let first : (x.is.number == m) ≡ false = ne_eqb x.is.number m (λ e. eqb-false m n other (sym e ∙ own x is)) in
      let second : (u.is.number == m) ≡ false = ne_eqb u.is.number m (λ e. eqb-false m n other (sym e ∙ yours)) in
      rw (first, second) refl
  others-set (x ∷ xs) (suc i) h is m other = by_test (x.is.number == m)
      (λ k. rw k refl)
      (λ k. rw k (others-set xs i (omega (arith, h)) is m other))

  pub change-set : (ts : List HeldTable) (i next : ℕ) → AreNumbered (tables_of ts) next → i < length ts → t ≡ get_or ts i t → ChangeAt n R ts (set ts i u)
  change-set ts i next numbered h is = record { here = here-set ts i next numbered h is; others = others-set ts i h is }

-- so it is where the call was accepted, and left the number
module _ {X E : Type 0} (R : X → Lengths → Lengths → Type 0) (n : ℕ) (ts : List HeldTable) (i next : ℕ) (t u : HeldTable) (numbered : AreNumbered (tables_of ts) next) (h : i < length ts) (is : t ≡ get_or ts i t) (number : (get_or ts i t).is.number ≡ n) where
  pub change-at : (result : Result X E) → u.is.number ≡ t.is.number → IfOk result (λ x. R x (lengths_of t) (lengths_of u)) → IfOk result (λ x. ChangeAt n (R x) ts (set ts i u))
  change-at (Ok x) same related =
      let mine : t.is.number ≡ n = ap (λ (v : HeldTable). v.is.number) is ∙ number in
      change-set (R x) n t u mine (same ∙ mine) related ts i next numbered h is
  change-at (Err e) same related = tt

  -- and where it put other rows into the table
  pub change-written : (rows : List Row) (result : Result X E) → OnOk result (u.is ≡ holding rows t.is) → IfOk result (λ x. R x (lengths_of t) (lengths_of u)) → IfOk result (λ x. ChangeAt n (R x) ts (set ts i u))
  change-written rows (Ok x) put related = change-at (Ok x) (ap (λ (v : TableOf). v.number) put) related
  change-written rows (Err e) put related = tt

-- ---- One table fewer, and one more
module _ (n : ℕ) where
  -- without the table of a number nothing is stored under it
  here-remove : (ts : List HeldTable) (i next : ℕ) (t : HeldTable) → AreNumbered (tables_of ts) next → i < length ts → (get_or ts i t).is.number ≡ n → lengths_in (remove ts i) n ≡ nothing
  here-remove [] i next t numbered h is = absurd (omega (arith, h))
  here-remove (x ∷ xs) zero next t numbered h is = above-nothing n xs (subst (λ (j : ℕ). Above j (tables_of xs)) is numbered.1)
  here-remove (x ∷ xs) (suc i) next t numbered h is =
      let inside : i < length xs = omega (arith, h) in
      let other : (x.is.number == n) ≡ false = ne_eqb x.is.number n (λ e. absurd (omega (arith, e, is, above_held x.is.number xs i t numbered.1 inside))) in
      rw other (here-remove xs i next t numbered.2 inside is)

  -- and the others are as they were
  others-remove : (ts : List HeldTable) (i : ℕ) (t : HeldTable) → i < length ts → (get_or ts i t).is.number ≡ n → (m : ℕ) → (m == n) ≡ false → lengths_in (remove ts i) m ≡ lengths_in ts m
  others-remove [] i t h is m other = absurd (omega (arith, h))
  others-remove (x ∷ xs) zero t h is m other =
      let first : (x.is.number == m) ≡ false = ne_eqb x.is.number m (λ e. eqb-false m n other (sym e ∙ is)) in
      rw first refl
  others-remove (x ∷ xs) (suc i) t h is m other = by_test (x.is.number == m)
      (λ k. rw k refl)
      (λ k. rw k (others-remove xs i t (omega (arith, h)) is m other))

  pub change-remove : (ts : List HeldTable) (i next : ℕ) (t : HeldTable) → AreNumbered (tables_of ts) next → i < length ts → (get_or ts i t).is.number ≡ n → ChangeAt n StoreNothing ts (remove ts i)
  change-remove ts i next t numbered h is = record { here = here-remove ts i next t numbered h is; others = others-remove ts i t h is }

-- the others are left
pub held-remove : (n : ℕ) (ts : List HeldTable) (i next : ℕ) (t : HeldTable) → AreNumbered (tables_of ts) next → i < length ts → (get_or ts i t).is.number ≡ n → tables_of (remove ts i) ≡ others n (tables_of ts)
held-remove n ts i next t numbered h is =
    sym (remove-map table ts i)
    ∙ remove-number n (tables_of ts) i next t.is numbered (within_tables ts i h) (ap (λ (u : TableOf). u.number) (get_or-map table ts i t t.is h) ∙ is)

-- a table in which nothing is stored leaves the lengths of all as they are
stay-behind : (t : HeldTable) → lengths_of t ≡ nothing → (ts : List HeldTable) → LengthsStay ts (ts ++ t ∷ [])
stay-behind t none [] m = by_test (t.is.number == m) (λ k. rw k none) (λ k. rw k refl)
stay-behind t none (x ∷ xs) m = by_test (x.is.number == m) (λ k. rw k refl) (λ k. rw k (stay-behind t none xs m))

-- and under the number that it draws nothing is stored
pub change-behind : (t : HeldTable) (n : ℕ) → t.is.number ≡ n → lengths_of t ≡ nothing → (ts : List HeldTable) → AreNumbered (tables_of ts) n → ChangeAt n StoreNothing ts (ts ++ t ∷ [])
change-behind t n own none ts numbered = record {
  here = stay-behind t none ts n ∙ next-nothing ts n numbered;
  others = λ m other. stay-behind t none ts m;
}

-- the table is put behind the others
pub tables_behind : (xs : List HeldTable) (t : HeldTable) (made : TableOf) → t.is ≡ made → tables_of (xs ++ t ∷ []) ≡ tables_of xs ++ made ∷ []
tables_behind xs t made is = map-append table xs (t ∷ []) ∙ ap (λ (u : TableOf). tables_of xs ++ u ∷ []) is
