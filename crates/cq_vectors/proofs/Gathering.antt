-- Loops that gather a column: what each value holds, and a flag where it is NULL.
use Rattle.std.proofs.Common.{◌≡◌, ℕ, zero, suc, ◌+◌, ◌<◌, ◌≤◌, ℤ, pos, Bool, true, false, Bor, List, [], ◌∷◌, ◌++◌, map, length, length-take, get_or, take, refl, sym, ap, ap₂, subst, ◌∙◌, arith, FitsSigned}
use Rattle.std.specs.Int.{Width}
use Rattle.std.specs.List.{All}
use lib.Lanes.{zip2}
use Rattle.std.proofs.lemmas.List.{length-map, map-append, take_all, take_more}
use Rattle.std.proofs.lemmas.List.Elements.{All-more}
use Rattle.cq_values.specs.declared.value.Value.{Value}
use Rattle.cq_values.specs.declared.value.Value.TheVariants.{Null, Number, Day, Text}
use Rattle.cq_values.specs.Days.{IsDay}
use Rattle.cq_values.specs.Order.{number, bytes}
use Rattle.cq_values.specs.Value.{Row, column}
use Rattle.cq_model.specs.Condition.{is_null}
use Rattle.cq_vectors_stored.specs.Columns.{AllFit, AreDays, EmptyWhere, ZeroWhere, day_unless, number_unless, text_unless}
use Rattle.cq_vectors.specs.Gathered.{IsNumber, IsDate, IsText, column_of, lent_rows}

-- of the first i values the parts and the flags are written, and each value is of the kind
pub record Gathers {A : Type 0} (part : Value → A) (Kind : Value → Type 0) (values : List Value) (i : ℕ) (xs : List A) (flags : List Bool) : Type 0 where
  pub parts : xs ≡ map part (take i values)
  pub nulls : flags ≡ map is_null (take i values)
  pub kinds : All Kind (take i values)

module _ {A : Type 0} {part : Value → A} {Kind : Value → Type 0} {values : List Value} where
  pub gathers_none : Gathers part Kind values 0 [] []
  gathers_none = record { parts = refl; nulls = refl; kinds = λ k d lt. absurd (omega arith) }

  module _ {i : ℕ} {xs : List A} {flags : List Bool} (so_far : Gathers part Kind values i xs flags) where
    -- one value more
    pub gathers_more : (v : Value) (x : A) (b : Bool) → i < length values → get_or values i Null ≡ v → x ≡ part v → b ≡ is_null v → Kind v → Gathers part Kind values (i + 1) (xs ++ x ∷ []) (flags ++ b ∷ [])
    gathers_more v x b lt is p n kind =
        let next : take (i + 1) values ≡ take i values ++ v ∷ [] = take_more values i Null lt ∙ ap (λ w. take i values ++ w ∷ []) is in
        record {
          parts = ap₂ (λ l y. l ++ y ∷ []) so_far.parts p ∙ sym (ap (map part) next ∙ map-append part (take i values) (v ∷ []));
          nulls = ap₂ (λ l y. l ++ y ∷ []) so_far.nulls n ∙ sym (ap (map is_null) next ∙ map-append is_null (take i values) (v ∷ []));
          kinds = All-more Kind values i Null lt so_far.kinds (subst Kind (sym is) kind);
        }

    -- all values
    pub gathers_all : length values ≤ i → (xs ≡ map part values) × (flags ≡ map is_null values) × All Kind values
    gathers_all le =
        let whole = take_all i values le in
        (so_far.parts ∙ ap (map part) whole, so_far.nulls ∙ ap (map is_null) whole, subst (All Kind) whole so_far.kinds)

  pub gathers_start : {xs : List A} {flags : List Bool} → xs ≡ [] → flags ≡ [] → Gathers part Kind values 0 xs flags
  gathers_start p q = subst (Gathers part Kind values 0 _) (sym q) (subst (λ l. Gathers part Kind values 0 l []) (sym p) gathers_none)

  -- as many are written as there are flags, and no more than values
  pub gathers_long : {i : ℕ} {xs : List A} {flags : List Bool} → Gathers part Kind values i xs flags → (length flags ≤ i) × (length flags ≤ length values) × (length xs ≡ length flags)
  gathers_long {i} h =
      let long = ap length h.nulls ∙ length-map (take i values) is_null in
      (omega (arith, long, length-take i values), omega (arith, long, length-take i values), ap length h.parts ∙ length-map (take i values) part ∙ sym long)

-- the value of the column in a row of these
pub column_at : (rows : List (Bor Row)) (at i : ℕ) (d : Bor Row) → i < length rows → get_or (column_of (lent_rows rows) at) i Null ≡ column (get_or rows i d).now at
column_at [] at i d lt = absurd (omega arith)
column_at (r ∷ rows) at zero d lt = refl
column_at (r ∷ rows) at (suc i) d lt = column_at rows at i d (omega arith)

pub length-column_of : (rows : List (Bor Row)) (at : ℕ) → length (column_of (lent_rows rows) at) ≡ length rows
length-column_of rows at = length-map (lent_rows rows) (λ row. column row at) ∙ length-map rows (λ row. row.now)

-- a value more of the first values of a column
pub taken_more : (rows : List (Bor Row)) (at i : ℕ) (d row : Bor Row) (values : List Value) (v : Value) → i < length rows → row ≡ get_or rows i d → values ≡ take i (column_of (lent_rows rows) at) → v ≡ column row.now at
    → values ++ v ∷ [] ≡ take (i + 1) (column_of (lent_rows rows) at)
taken_more rows at i d row values v lt is so_far e =
    let all = column_of (lent_rows rows) at in
    let there : get_or all i Null ≡ v = column_at rows at i d lt ∙ sym (ap (λ (r : Bor Row). column r.now at) is) ∙ sym e in
    ap (λ l. l ++ v ∷ []) so_far ∙ sym (take_more all i Null (omega (arith, lt, length-column_of rows at)) ∙ ap (λ w. take i all ++ w ∷ []) there)

-- one row more
pub row_more : {A : Type 0} {part : Value → A} {Kind : Value → Type 0} (rows : List (Bor Row)) (at i : ℕ) (d row : Bor Row) {xs ys : List A} {flags more : List Bool} (x : A) (b : Bool)
    → i < length rows → row ≡ get_or rows i d → Gathers part Kind (column_of (lent_rows rows) at) i xs flags → ys ≡ xs ++ x ∷ [] → more ≡ flags ++ b ∷ []
    → x ≡ part (column row.now at) → b ≡ is_null (column row.now at) → Kind (column row.now at) → Gathers part Kind (column_of (lent_rows rows) at) (i + 1) ys more
row_more {A} {part} {Kind} rows at i d row {xs} {ys} {flags} {more} x b lt is so_far p q of_part of_null kind =
    let values = column_of (lent_rows rows) at in
    let there : get_or values i Null ≡ column row.now at = column_at rows at i d lt ∙ sym (ap (λ (r : Bor Row). column r.now at) is) in
    subst (λ l. Gathers part Kind values (i + 1) l more) (sym p) (subst (Gathers part Kind values (i + 1) (xs ++ x ∷ [])) (sym q)
    (gathers_more so_far (column row.now at) x b (omega (arith, lt, length-column_of rows at)) there of_part of_null kind))

module _ {A : Type 0} (unless : A → Bool → Value) (part : Value → A) (values : List Value) where
  -- values of one kind are what their parts and flags say
  pub rebuilt : All (λ v. unless (part v) (is_null v) ≡ v) values → zip2 unless (map part values) (map is_null values) ≡ values
  rebuilt = go values
    where
      go : (vs : List Value) → All (λ v. unless (part v) (is_null v) ≡ v) vs → zip2 unless (map part vs) (map is_null vs) ≡ vs
      go [] h = refl
      go (v ∷ vs) h = ap₂ (λ w l. w ∷ l) (h 0 v (omega arith)) (go vs (λ k d lt. h (suc k) d (omega arith)))

  -- both are as many as the values
  pub as_many : length (map is_null values) ≡ length (map part values)
  as_many = length-map values is_null ∙ sym (length-map values part)

-- what is kept of NULL stands where a value is NULL
null_where : {A : Type 0} (part : Value → A) (nothing : A) → part Null ≡ nothing → (values : List Value) (k : ℕ) → get_or (map is_null values) k false ≡ true → get_or (map part values) k nothing ≡ nothing
null_where part nothing is [] k e = absurd (cc e)
null_where part nothing is (Null ∷ vs) zero e = is
null_where part nothing is (Number n ∷ vs) zero e = absurd (cc e)
null_where part nothing is (Day d ∷ vs) zero e = absurd (cc e)
null_where part nothing is (Text t ∷ vs) zero e = absurd (cc e)
null_where part nothing is (v ∷ vs) (suc k) e = null_where part nothing is vs k e

-- NULL has the number 0
pub zero_where : (values : List Value) → ZeroWhere (map is_null values) (map number values)
zero_where values = null_where number (pos 0) refl values

-- and no bytes
pub empty_where : (values : List Value) → EmptyWhere (map is_null values) (map bytes values)
empty_where values = null_where bytes [] refl values

-- a fact of each number, and of 0 past the end
number_facts : (P : ℤ → Type 0) → P (pos 0) → (values : List Value) → All (λ v. P (number v)) values → (k : ℕ) → P (get_or (map number values) k (pos 0))
number_facts P past [] h k = past
number_facts P past (v ∷ vs) h zero = h 0 v (omega arith)
number_facts P past (v ∷ vs) h (suc k) = number_facts P past vs (λ j d lt. h (suc j) d (omega arith)) k

pub all_fit : (width : Width) → FitsSigned width (pos 0) → (values : List Value) → All (IsNumber width) values → AllFit width (map number values)
all_fit width past values h = number_facts (FitsSigned width) past values (λ k d lt. (h k d lt).fits)

pub are_days : (values : List Value) → All IsDate values → AreDays (map number values)
are_days values h = number_facts (λ n. IsDay n) (omega arith, omega arith) values (λ k d lt. (h k d lt).day)

module _ {A : Type 0} {part : Value → A} {Kind : Value → Type 0} {values : List Value} {i : ℕ} {xs : List A} {flags : List Bool} (h : Gathers part Kind values i xs flags) (le : length values ≤ i) where
  -- what is written of all values makes them again
  parts_whole : (unless : A → Bool → Value) → ((v : Value) → Kind v → unless (part v) (is_null v) ≡ v) → zip2 unless xs flags ≡ values
  parts_whole unless kind =
      let all = gathers_all h le in
      ap₂ (zip2 unless) all.0 all.1 ∙ rebuilt unless part values (λ k d lt. kind (get_or values k d) (all.2 k d lt))

  -- what holds of all parts holds of what is written
  parts_are : (P : List A → Type 0) → (All Kind values → P (map part values)) → P xs
  parts_are P made = let all = gathers_all h le in subst P (sym all.0) (made all.2)

  -- and what holds of the parts where a value is NULL
  parts_where : (P : List Bool → List A → Type 0) → P (map is_null values) (map part values) → P flags xs
  parts_where P made = let all = gathers_all h le in subst (P flags) (sym all.0) (subst (λ l. P l (map part values)) (sym all.1) made)

module _ {Kind : Value → Type 0} {values : List Value} {i : ℕ} {xs : List ℤ} {flags : List Bool} (h : Gathers number Kind values i xs flags) (le : length values ≤ i) where
  pub numbers_zero : ZeroWhere flags xs
  numbers_zero = parts_where h le ZeroWhere (zero_where values)

module _ {width : Width} {values : List Value} {i : ℕ} {xs : List ℤ} {flags : List Bool} (h : Gathers number (IsNumber width) values i xs flags) (le : length values ≤ i) where
  pub numbers_whole : zip2 number_unless xs flags ≡ values
  numbers_whole = parts_whole h le number_unless (λ v kind. kind.kind)

  pub numbers_fit : FitsSigned width (pos 0) → AllFit width xs
  numbers_fit past = parts_are h le (AllFit width) (all_fit width past values)

module _ {values : List Value} {i : ℕ} {xs : List ℤ} {flags : List Bool} (h : Gathers number IsDate values i xs flags) (le : length values ≤ i) where
  pub days_whole : zip2 day_unless xs flags ≡ values
  days_whole = parts_whole h le day_unless (λ v kind. kind.kind)

  pub days_zero : ZeroWhere flags xs
  days_zero = numbers_zero h le

  pub days_are : AreDays xs
  days_are = parts_are h le AreDays (are_days values)

module _ {values : List Value} {i : ℕ} {ts : List (List ℕ)} {flags : List Bool} (h : Gathers bytes IsText values i ts flags) (le : length values ≤ i) where
  pub texts_whole : zip2 text_unless ts flags ≡ values
  texts_whole = parts_whole h le text_unless (λ v kind. kind)

  pub texts_empty : EmptyWhere flags ts
  texts_empty = parts_where h le EmptyWhere (empty_where values)
