-- Values at some places.
use Rattle.std.proofs.Common.{◌≡◌, ℕ, zero, suc, List, [], ◌∷◌, map, length, get_or, replicate, refl, sym, ap₂, arith}
use Rattle.std.proofs.lemmas.List.{get_or-map, get_or-replicate, length-replicate}
use Rattle.cq_values.specs.declared.value.Value.{Value}
use Rattle.cq_values.specs.declared.value.Value.TheVariants.{Null}
use Rattle.cq_values.specs.Value.{Row, column}
use Rattle.cq_vectors.specs.Gathered.{column_of}
use Rattle.cq_encodings_vectors.specs.Places.{AreBelow, rows_at, values_at}

-- the value of a column in the row at a place
pub column_read : (rows : List Row) (at place : ℕ) → get_or (column_of rows at) place Null ≡ column (get_or rows place []) at
column_read [] at place = refl
column_read (row ∷ rows) at zero = refl
column_read (row ∷ rows) at (suc place) = column_read rows at place

-- is NULL where all are
pub null_read : (len place : ℕ) → get_or (replicate len Null) place Null ≡ Null
null_read zero place = refl
null_read (suc len) zero = refl
null_read (suc len) (suc place) = null_read len place

-- what is made of each is made of those at the places
pub map-at : {A B : Type 0} (f : A → B) (d : A) (e : B) (xs : List A) (places : List ℕ) → AreBelow (length xs) places → map (λ place. get_or (map f xs) place e) places ≡ map f (map (λ place. get_or xs place d) places)
map-at f d e xs [] below = refl
map-at f d e xs (place ∷ places) below = ap₂ (λ y ys. y ∷ ys) (get_or-map f xs place d e below.0) (map-at f d e xs places below.1)

-- a column of the rows there has the values of the column there
pub column-at : (rows : List Row) (places : List ℕ) (at : ℕ) → AreBelow (length rows) places → values_at (column_of rows at) places ≡ column_of (rows_at rows places) at
column-at rows places at below = map-at (λ row. column row at) [] Null rows places below

-- of one value it is that value
pub constant-at : (value : Value) (len : ℕ) (places : List ℕ) → AreBelow (length (replicate len value)) places → replicate (length places) value ≡ values_at (replicate len value) places
constant-at value len [] below = refl
constant-at value len (place ∷ places) below =
    ap₂ (λ v vs. v ∷ vs) (sym (get_or-replicate len place value Null (omega (arith, below.0, length-replicate len value)))) (constant-at value len places below.1)
