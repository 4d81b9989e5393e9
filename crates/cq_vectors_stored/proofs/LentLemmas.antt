-- What a column keeps whose values are lent.
use Rattle.std.proofs.Common.{◌≡◌, ℕ, ◌+◌, ◌<◌, ◌≤◌, ℤ, Bool, true, false, List, [], ◌∷◌, map, length, get_or, drop, refl, sym, ap, ap₂, ◌∙◌, arith}
use lib.Lanes.{zip2}
use Rattle.std.proofs.lemmas.List.{get_or-drop, get_or-take, length-drop, length-map, length-take-le}
use Rattle.std.proofs.lemmas.Simd.{get_or-zip2, length-zip2}
use Rattle.cq_values.specs.declared.value.Value.{Value}
use Rattle.cq_values.specs.declared.value.Value.TheVariants.{Null}
use Rattle.cq_model.specs.Condition.{is_null}
use Rattle.cq_vectors_stored.specs.Columns.{text_unless}
use Rattle.cq_vectors_stored.specs.LentColumns.{KeepsLent, NothingWhere, day_above, entry_unless, number_above, part_of}

module _ {A : Type 0} (value : A → Bool → Value) (flag : (x : A) (b : Bool) → is_null (value x b) ≡ b) (nothing : A) where
  -- the flags say which of the values are NULL
  flags_kept : (xs : List A) (ns : List Bool) → length ns ≡ length xs → ns ≡ map is_null (zip2 value xs ns)
  flags_kept [] [] same = refl
  flags_kept [] (n ∷ ns) same = absurd (omega arith)
  flags_kept (x ∷ xs) [] same = absurd (omega arith)
  flags_kept (x ∷ xs) (n ∷ ns) same = ap₂ (λ b l. b ∷ l) (sym (flag x n)) (flags_kept xs ns (omega arith))

  keeps : (xs : List A) (ns : List Bool) → length ns ≡ length xs → length xs ≤ 1024 → NothingWhere nothing ns xs → KeepsLent nothing xs ns (zip2 value xs ns)
  keeps xs ns same few clear = record {
    long = sym (length-zip2 value xs ns (sym same));
    nulls = flags_kept xs ns same;
    few = omega (arith, length-zip2 value xs ns (sym same));
    clear = clear;
  }

of_number : (base : ℤ) (x : ℕ) (b : Bool) → is_null (number_above base x b) ≡ b
of_number base x true = refl
of_number base x false = refl

of_day : (base : ℤ) (x : ℕ) (b : Bool) → is_null (day_above base x b) ≡ b
of_day base x true = refl
of_day base x false = refl

of_entry : (entries : List (List ℕ)) (x : ℕ) (b : Bool) → is_null (entry_unless entries x b) ≡ b
of_entry entries x true = refl
of_entry entries x false = refl

of_text : (x : List ℕ) (b : Bool) → is_null (text_unless x b) ≡ b
of_text x true = refl
of_text x false = refl

pub keeps_above : (base : ℤ) (xs : List ℕ) (ns : List Bool) → length ns ≡ length xs → length xs ≤ 1024 → NothingWhere 0 ns xs → KeepsLent 0 xs ns (zip2 (number_above base) xs ns)
keeps_above base = keeps (number_above base) (of_number base) 0

pub keeps_days_above : (base : ℤ) (xs : List ℕ) (ns : List Bool) → length ns ≡ length xs → length xs ≤ 1024 → NothingWhere 0 ns xs → KeepsLent 0 xs ns (zip2 (day_above base) xs ns)
keeps_days_above base = keeps (day_above base) (of_day base) 0

pub keeps_entries : (entries : List (List ℕ)) (xs : List ℕ) (ns : List Bool) → length ns ≡ length xs → length xs ≤ 1024 → NothingWhere 0 ns xs → KeepsLent 0 xs ns (zip2 (entry_unless entries) xs ns)
keeps_entries entries = keeps (entry_unless entries) (of_entry entries) 0

pub keeps_part : (xs : List (List ℕ)) (ns : List Bool) → length ns ≡ length xs → length xs ≤ 1024 → NothingWhere [] ns xs → KeepsLent [] xs ns (zip2 text_unless xs ns)
keeps_part = keeps text_unless of_text []

-- the value of a place that is not NULL
pub value_there : {A : Type 0} (value : A → Bool → Value) (nothing : A) (xs : List A) (ns : List Bool) (i : ℕ) (x : A) → KeepsLent nothing xs ns (zip2 value xs ns) → i < length xs → x ≡ get_or xs i nothing → get_or ns i false ≡ false
    → value x false ≡ get_or (zip2 value xs ns) i Null
value_there value nothing xs ns i x kept lt is some =
    let same : length ns ≡ length xs = ap length kept.nulls ∙ length-map (zip2 value xs ns) is_null ∙ sym kept.long in
    sym (get_or-zip2 value xs ns i nothing false Null lt (omega (arith, same)) ∙ ap₂ value (sym is) some)

-- as many texts as are asked for, where there are so many
pub length-part_of : (texts : List (List ℕ)) (start len : ℕ) → start + len ≤ length texts → length (part_of texts start len) ≡ len
length-part_of texts start len there = length-take-le len (drop start texts) (omega (arith, length-drop start texts))

-- a text of a part is one of the run
pub part_of-at : (texts : List (List ℕ)) (start len i : ℕ) → start + len ≤ length texts → i < len → get_or (part_of texts start len) i [] ≡ get_or texts (start + i) []
part_of-at texts start len i there lt = get_or-take len (drop start texts) i [] lt ∙ get_or-drop start texts i []
