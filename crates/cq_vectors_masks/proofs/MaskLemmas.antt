-- Operations on truths, by their planes.
use Rattle.std.proofs.Common.{◌≡◌, ℕ, zero, suc, Bool, true, false, List, [], ◌∷◌, map, length, get_or, replicate, refl, sym, ap, ap₂, subst, ◌∙◌}
use lib.Lanes.{zip2}
use lib.ListN.{get_or-map}
use Rattle.std.proofs.lemmas.List.{length-map}
use Rattle.cq_values.specs.declared.truth.Truth.{Truth}
use Rattle.cq_values.specs.declared.truth.Truth.TheVariants.{True, False, Unknown}
use Rattle.cq_values.specs.Truth.{is_true, and_truth, or_truth, not_truth, truth_of}
use Rattle.cq_vectors_masks.specs.TruthMask.{is_false, truth_by, Shows, known}
use Rattle.cq_vectors_masks.specs.Plane.{both, either, and_not, neither}

planes_of : (ms : List Truth) → zip2 truth_by (map is_true ms) (map is_false ms) ≡ ms
planes_of [] = refl
planes_of (True ∷ ms) = ap (λ l. True ∷ l) (planes_of ms)
planes_of (False ∷ ms) = ap (λ l. False ∷ l) (planes_of ms)
planes_of (Unknown ∷ ms) = ap (λ l. Unknown ∷ l) (planes_of ms)

-- planes with the flags of planes that show truths show them too
pub Shows-same : {ts fs us gs : List Bool} {ms : List Truth} → us ≡ ts → gs ≡ fs → Shows ts fs ms → Shows us gs ms
Shows-same p q h = record { trues = p ∙ h.trues; falses = q ∙ h.falses }

-- planes that show truths are a mask, and its truths are those
pub shown : {ts fs : List Bool} {ms : List Truth} → Shows ts fs ms → Shows ts fs (zip2 truth_by ts fs) × (zip2 truth_by ts fs ≡ ms)
shown {ts} {fs} {ms} h =
    let is : zip2 truth_by ts fs ≡ ms = ap₂ (zip2 truth_by) h.trues h.falses ∙ planes_of ms in
    (subst (Shows ts fs) (sym is) h, is)

map-zip2 : {X Y Z A B C : Type 0} (h : Z → C) (f : X → Y → Z) (k : A → B → C) (p : X → A) (q : Y → B) → ((x : X) (y : Y) → k (p x) (q y) ≡ h (f x y)) → (xs : List X) (ys : List Y) → zip2 k (map p xs) (map q ys) ≡ map h (zip2 f xs ys)
map-zip2 h f k p q e [] ys = refl
map-zip2 h f k p q e (x ∷ xs) [] = refl
map-zip2 h f k p q e (x ∷ xs) (y ∷ ys) = ap₂ (λ a l. a ∷ l) (e x y) (map-zip2 h f k p q e xs ys)

and_true : (a b : Truth) → both (is_true a) (is_true b) ≡ is_true (and_truth a b)
and_true True b = refl
and_true False b = refl
and_true Unknown True = refl
and_true Unknown False = refl
and_true Unknown Unknown = refl

and_false : (a b : Truth) → either (is_false a) (is_false b) ≡ is_false (and_truth a b)
and_false True b = refl
and_false False b = refl
and_false Unknown True = refl
and_false Unknown False = refl
and_false Unknown Unknown = refl

or_true : (a b : Truth) → either (is_true a) (is_true b) ≡ is_true (or_truth a b)
or_true True b = refl
or_true False b = refl
or_true Unknown True = refl
or_true Unknown False = refl
or_true Unknown Unknown = refl

or_false : (a b : Truth) → both (is_false a) (is_false b) ≡ is_false (or_truth a b)
or_false True b = refl
or_false False b = refl
or_false Unknown True = refl
or_false Unknown False = refl
or_false Unknown Unknown = refl

module _ {t f u g : List Bool} {ms ns : List Truth} (p : Shows t f ms) (q : Shows u g ns) where
  pub Shows-and : Shows (zip2 both t u) (zip2 either f g) (zip2 and_truth ms ns)
  Shows-and = record { trues = ap₂ (zip2 both) p.trues q.trues ∙ map-zip2 is_true and_truth both is_true is_true and_true ms ns; falses = ap₂ (zip2 either) p.falses q.falses ∙ map-zip2 is_false and_truth either is_false is_false and_false ms ns }

  pub Shows-or : Shows (zip2 either t u) (zip2 both f g) (zip2 or_truth ms ns)
  Shows-or = record { trues = ap₂ (zip2 either) p.trues q.trues ∙ map-zip2 is_true or_truth either is_true is_true or_true ms ns; falses = ap₂ (zip2 both) p.falses q.falses ∙ map-zip2 is_false or_truth both is_false is_false or_false ms ns }

  -- masks of one length have planes of one length
  pub same_lengths : length ms ≡ length ns → (length t ≡ length u) × (length f ≡ length g)
  same_lengths e = (ap length p.trues ∙ length-map ms is_true ∙ e ∙ sym (ap length q.trues ∙ length-map ns is_true), ap length p.falses ∙ length-map ms is_false ∙ e ∙ sym (ap length q.falses ∙ length-map ns is_false))

pub Shows-not : {t f : List Bool} {ms : List Truth} → Shows t f ms → Shows f t (map not_truth ms)
Shows-not {t} {f} {ms} p = record { trues = p.falses ∙ turned_true ms; falses = p.trues ∙ turned_false ms }
  where
    turned_true : (ms : List Truth) → map is_false ms ≡ map is_true (map not_truth ms)
    turned_true [] = refl
    turned_true (True ∷ ms) = ap (λ l. false ∷ l) (turned_true ms)
    turned_true (False ∷ ms) = ap (λ l. true ∷ l) (turned_true ms)
    turned_true (Unknown ∷ ms) = ap (λ l. false ∷ l) (turned_true ms)

    turned_false : (ms : List Truth) → map is_true ms ≡ map is_false (map not_truth ms)
    turned_false [] = refl
    turned_false (True ∷ ms) = ap (λ l. true ∷ l) (turned_false ms)
    turned_false (False ∷ ms) = ap (λ l. false ∷ l) (turned_false ms)
    turned_false (Unknown ∷ ms) = ap (λ l. false ∷ l) (turned_false ms)

pub Shows-known : (xs ys : List Bool) → Shows (zip2 and_not xs ys) (zip2 neither xs ys) (zip2 known xs ys)
Shows-known xs ys = record { trues = true_where xs ys; falses = false_where xs ys }
  where
    true_where : (xs ys : List Bool) → zip2 and_not xs ys ≡ map is_true (zip2 known xs ys)
    true_where [] ys = refl
    true_where (x ∷ xs) [] = refl
    true_where (true ∷ xs) (true ∷ ys) = ap (λ l. false ∷ l) (true_where xs ys)
    true_where (true ∷ xs) (false ∷ ys) = ap (λ l. true ∷ l) (true_where xs ys)
    true_where (false ∷ xs) (true ∷ ys) = ap (λ l. false ∷ l) (true_where xs ys)
    true_where (false ∷ xs) (false ∷ ys) = ap (λ l. false ∷ l) (true_where xs ys)

    false_where : (xs ys : List Bool) → zip2 neither xs ys ≡ map is_false (zip2 known xs ys)
    false_where [] ys = refl
    false_where (x ∷ xs) [] = refl
    false_where (true ∷ xs) (true ∷ ys) = ap (λ l. false ∷ l) (false_where xs ys)
    false_where (true ∷ xs) (false ∷ ys) = ap (λ l. false ∷ l) (false_where xs ys)
    false_where (false ∷ xs) (true ∷ ys) = ap (λ l. false ∷ l) (false_where xs ys)
    false_where (false ∷ xs) (false ∷ ys) = ap (λ l. true ∷ l) (false_where xs ys)

-- a place is True where the plane of those that are True has it
pub true_at : {ts fs : List Bool} {ms : List Truth} → Shows ts fs ms → (i : ℕ) → get_or ts i false ≡ is_true (get_or ms i Unknown)
true_at {ts} {fs} {ms} h i = ap (λ l. get_or l i false) h.trues ∙ get_or-map is_true ms i Unknown

-- a test that is known everywhere has its answers for truths
pub Shows-tested : (xs : List Bool) → Shows xs (zip2 neither xs xs) (map truth_of xs)
Shows-tested xs = record { trues = true_where xs; falses = false_where xs }
  where
    true_where : (xs : List Bool) → xs ≡ map is_true (map truth_of xs)
    true_where [] = refl
    true_where (true ∷ xs) = ap (λ l. true ∷ l) (true_where xs)
    true_where (false ∷ xs) = ap (λ l. false ∷ l) (true_where xs)

    false_where : (xs : List Bool) → zip2 neither xs xs ≡ map is_false (map truth_of xs)
    false_where [] = refl
    false_where (true ∷ xs) = ap (λ l. false ∷ l) (false_where xs)
    false_where (false ∷ xs) = ap (λ l. true ∷ l) (false_where xs)

-- one truth in each place is one flag in each place of both planes
pub Shows-replicate : (n : ℕ) (truth : Truth) → Shows (replicate n (is_true truth)) (replicate n (is_true (not_truth truth))) (replicate n truth)
Shows-replicate n truth = record { trues = true_in n truth; falses = false_in n truth }
  where
    true_in : (n : ℕ) (truth : Truth) → replicate n (is_true truth) ≡ map is_true (replicate n truth)
    true_in zero truth = refl
    true_in (suc n) truth = ap (λ l. is_true truth ∷ l) (true_in n truth)

    turned : (truth : Truth) → is_true (not_truth truth) ≡ is_false truth
    turned True = refl
    turned False = refl
    turned Unknown = refl

    false_in : (n : ℕ) (truth : Truth) → replicate n (is_true (not_truth truth)) ≡ map is_false (replicate n truth)
    false_in zero truth = refl
    false_in (suc n) truth = ap₂ (λ b l. b ∷ l) (turned truth) (false_in n truth)
