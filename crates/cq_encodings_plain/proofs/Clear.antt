-- Flags of values of which none is NULL.
use Rattle.std.proofs.Common.{◌≡◌, ℕ, ◌+◌, ◌-◌, ◌<◌, Bool, false, List, [], ◌∷◌, ◌++◌, ap₂, get_or, length, map, min, replicate, take, drop, sym, ap, ◌∙◌, arith}
use Rattle.std.proofs.lemmas.List.{drop-map, drop-replicate, length-replicate, length-take-le, replicate_more, take-map, take-replicate, take_min}
use Rattle.cq_values.specs.declared.lent.Lent.{Lent}
use Rattle.cq_values.specs.declared.lent.Lent.TheVariants as lent
use Rattle.cq_values.specs.Lent.{owned}
use Rattle.cq_values.specs.Value.{is_null}
use Rattle.cq_encodings_plain.specs.Parts.{IsNoneNull, nulls_of}
use Rattle.cq_encodings_plain.proofs.Zipped.{nulls_more}

-- flags of some values from a place on
part_of : (values : List Lent) (start count : ℕ) → nulls_of (take count (drop start values)) ≡ take count (drop start (nulls_of values))
part_of values start count =
    ap (map is_null) (sym (take-map owned count (drop start values)) ∙ ap (take count) (sym (drop-map owned start values)))
    ∙ sym (take-map is_null count (drop start (map owned values))) ∙ ap (take count) (sym (drop-map is_null start (map owned values)))

-- flags that are clear, from a place on
pub clear_part : (len start count : ℕ) → count ≡ min (len - start) 1024 → replicate count false ≡ take 1024 (drop start (replicate len false))
clear_part len start count is =
    let rest = replicate (len - start) false in
    sym (ap (take 1024) (drop-replicate start len false)
    ∙ sym (take_min 1024 rest)
    ∙ ap (λ (n : ℕ). take n rest) {x = min 1024 (length rest)} {y = count} (omega (arith, is, length-replicate (len - start) false))
    ∙ take-replicate count (len - start) false (omega (arith, is)))

-- where none is NULL no flag is set from a place on
pub none_null_from : (values : List Lent) (start count : ℕ) → IsNoneNull values → count ≡ min (length values - start) 1024 → replicate count false ≡ nulls_of (take 1024 (drop start values))
none_null_from values start count none is =
    clear_part (length values) start count is
    ∙ sym (part_of values start 1024 ∙ ap (λ (flags : List Bool). take 1024 (drop start flags)) none)

-- none of the values so far is NULL, with one more that is not
pub none_more : (values : List Lent) (i : ℕ) (value : Lent) → i < length values → value ≡ get_or values i lent.Null → is_null (owned value) ≡ false → IsNoneNull (take i values) → IsNoneNull (take (i + 1) values)
none_more values i value lt there is none =
    let so_far : length (take i values) ≡ i = length-take-le i values (omega (arith, lt)) in
    nulls_more values i value lt there
    ∙ ap₂ (λ (flags : List Bool) (flag : Bool). flags ++ flag ∷ []) (none ∙ ap (λ (n : ℕ). replicate n false) so_far) is
    ∙ replicate_more i false
    ∙ ap (λ (n : ℕ). replicate n false) {x = i + 1} {y = length (take (i + 1) values)} (omega (arith, lt, length-take-le (i + 1) values (omega (arith, lt))))
