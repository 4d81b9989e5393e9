use Rattle.std.proofs.Common.{◌≡◌, ◌+◌, ◌∙◌, ◌∷◌, ◌++◌, ℕ, List, [], ap, arith, map, refl, sym}
use Rattle.std.specs.List.{range_with_len}
use Rattle.std.proofs.lemmas.List.FromFn.{map-range_with_len_more}
use Rattle.cq_table_columns.proofs.front.first_places.Goals as goal

map-itself : (xs : List ℕ) → map (λ (n : ℕ). n) xs ≡ xs
map-itself [] = refl
map-itself (x ∷ xs) = ap (λ l. x ∷ l) (map-itself xs)

range-more : (n : ℕ) → range_with_len 0 (n + 1) ≡ range_with_len 0 n ++ n ∷ []
range-more n = sym (map-itself (range_with_len 0 (n + 1))) ∙ map-range_with_len_more (λ (k : ℕ). k) 0 n n (omega arith) ∙ ap (λ l. l ++ n ∷ []) (map-itself (range_with_len 0 n))

pub loop-place-preserved : goal.loop-place-preserved
loop-place-preserved c =
    let place = c.loop-place.place in
    record {
      places = c.push_reserved.ensures.items ∙ ap (λ l. l ++ place ∷ []) c.loop-place.invariant.places ∙ sym (range-more place);
      room = omega (arith, c.loop-place.invariant.room, c.loop-place-test.true, c.push_reserved.ensures.len, c.push_reserved.ensures.capacity);
    }
