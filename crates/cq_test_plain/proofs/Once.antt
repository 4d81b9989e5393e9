-- Lists of rows, each once, under the operators.
use Rattle.std.proofs.Common.{◌≡◌, ℕ, ◌+◌, ◌<◌, pos, ◌<ℤ◌, Bool, cond, List, [], ◌∷◌, ◌++◌, map, filter, take, length, get_or, refl, sym, ◌∙◌, ap, subst}
use Rattle.std.specs.List.{flat_map, list_any}
use Rattle.std.proofs.lemmas.List.{append-nil, append_assoc, map-append, take_more}
use Rattle.cq_values.specs.Value.{Row}
use Rattle.cq_values.specs.Order.{same_row}
use Rattle.cq_model_bags.specs.Bag.{weight_of, once_each, pairs_of, joined, firsts}
use Rattle.cq_model_bags.proofs.Totals.{by_test}
use Rattle.cq_model_bags.proofs.Distincts.{is_among-firsts}
use Rattle.cq_test_plain.specs.Wide.{AtSomeRow}
use Rattle.cq_model_bags.proofs.Once.{firsts-push, is_there}

-- ---- joins
-- the pairs of one row
pairs-once : (on : Row → Row → Bool) (r : Row) (right : List Row) → pairs_of on (r, pos 1) (once_each right) ≡ once_each (map (λ s. r ++ s) (filter (on r) right))
pairs-once on r [] = refl
pairs-once on r (s ∷ right) = by_test (on r s) (λ k. rw (k, pairs-once on r right) refl) (λ k. rw (k, pairs-once on r right) refl)

-- the pairs of two lists, each once
pub joined-once : (on : Row → Row → Bool) (left right : List Row) → once_each (flat_map (λ r. map (λ s. r ++ s) (filter (on r) right)) left) ≡ joined on (once_each left) (once_each right)
joined-once on [] right = refl
joined-once on (r ∷ left) right =
    map-append (λ (s : Row). (s, pos 1)) (map (λ s. r ++ s) (filter (on r) right)) (flat_map (λ q. map (λ s. q ++ s) (filter (on q) right)) left)
    ∙ rw (← pairs-once on r right, joined-once on left right) refl

-- the lists of the rows so far and of the next one
pub flat_map-next : (f : Row → List Row) (rows : List Row) (i : ℕ) (row : Row) → i < length rows → row ≡ get_or rows i row → flat_map f (take (i + 1) rows) ≡ flat_map f (take i rows) ++ f row
flat_map-next f rows i row h is = ap (flat_map f) (take_more rows i row h ∙ ap (λ q. take i rows ++ q ∷ []) (sym is)) ∙ pushed (take i rows) row
  where
    pushed : (qs : List Row) (q : Row) → flat_map f (qs ++ q ∷ []) ≡ flat_map f qs ++ f q
    pushed [] q = append-nil (f q)
    pushed (p ∷ qs) q = ap (λ (xs : List Row). f p ++ xs) (pushed qs q) ∙ sym (append_assoc (f p) (flat_map f qs) (f q))

-- the images of the rows so far and of the next one
pub map-next : (f : Row → Row) (rows done : List Row) (i : ℕ) (row : Row) → i < length rows → row ≡ get_or rows i row → done ≡ map f (take i rows) → done ++ f row ∷ [] ≡ map f (take (i + 1) rows)
map-next f rows done i row h is so_far =
    rw so_far (sym (map-append f (take i rows) (row ∷ [])) ∙ ap (map f) (sym (take_more rows i row h ∙ ap (λ q. take i rows ++ q ∷ []) (sym is))))

-- ---- repeats
-- the first ones so far and of the next row
pub firsts_next : (rows : List Row) (i : ℕ) (row : Row) → i < length rows → row ≡ get_or rows i row
    → firsts (take (i + 1) rows) ≡ cond (list_any (λ other. same_row other row) (firsts (take i rows))) (firsts (take i rows)) (firsts (take i rows) ++ row ∷ [])
firsts_next rows i row h is =
    ap firsts (take_more rows i row h ∙ ap (λ q. take i rows ++ q ∷ []) (sym is)) ∙ firsts-push (take i rows) row
    ∙ ap (λ b. cond b (firsts (take i rows)) (firsts (take i rows) ++ row ∷ [])) (sym (is_among-firsts (take i rows) row))

-- what holds of a listed row holds at some row
pub at_listed : (P : Row → Type 0) (rows : List Row) (i : ℕ) (row : Row) → i < length rows → row ≡ get_or rows i row → P row → AtSomeRow P (once_each rows)
at_listed P rows i row h is p = (row, subst (λ (r : Row). pos 0 <ℤ weight_of (once_each rows) r) (sym is) (is_there rows i row h), p)

-- ---- which rows are there
