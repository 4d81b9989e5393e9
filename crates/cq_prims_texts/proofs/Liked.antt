-- LIKE over lists of values.
use Rattle.std.proofs.Common.{◌≡◌, ℕ, ◌<◌, ◌≤◌, ◌+◌, Bor, arith, Bool, true, false, List, [], map, length, get_or, refl, sym, ap, ◌∙◌}
use Rattle.std.specs.List.{range_with_len}
use Rattle.std.proofs.lemmas.List.FromFn.{length-map-range_with_len, get_or-map-range_with_len}
use Rattle.std.proofs.lemmas.Simd.{zip2-map, get_or-chunk}
use Rattle.std.specs.Str.{chars}
use lib.Lanes.{zip2, chunk}
use lib.Seq.{ext_get_or}
use Rattle.cq_vectors_stored.specs.Columns.{texts_of}
use lib.ListN.{get_or-map}
use Rattle.cq_values.specs.declared.value.Value.{Value}
use Rattle.cq_values.specs.declared.value.Value.TheVariants.{Null, Number, Text, Day}
use Rattle.cq_values.specs.Truth.{truth_of, is_true}
use Rattle.cq_model.specs.Condition.{is_null, liked}
use Rattle.cq_values.specs.Order.{bytes}
use Rattle.cq_prims_texts.specs.Kinds.{is_of_kind, ShowsTexts}
use Rattle.cq_model.specs.Like.{like}
use Rattle.cq_vectors_masks.specs.TruthMask.{known}
use Rattle.cq_prims_texts.specs.NoText.{is_no_text}
use Rattle.cq_prims_lanes.proofs.Places.{map-all_places}
use Rattle.cq_model_bags.proofs.Lists.{map-same}

known_truth : (b : Bool) → known (is_true (truth_of b)) false ≡ truth_of b
known_truth true = refl
known_truth false = refl

liked_known : (pattern : List ℕ) (v : Value) → known (is_true (liked v pattern)) (is_no_text v) ≡ liked v pattern
liked_known pattern (Text t) = known_truth (like (chars pattern) (chars t))
liked_known pattern (Number n) = refl
liked_known pattern (Day d) = refl
liked_known pattern Null = refl

-- the answers, not known where there is no text, are the truths of LIKE
pub by_liked : (pattern : List ℕ) (xs : List Value) (flags : List Bool) → flags ≡ map (λ i. is_no_text (get_or xs i Null)) (range_with_len 0 (length xs))
    → zip2 known (map (λ i. is_true (liked (get_or xs i Null) pattern)) (range_with_len 0 (length flags))) flags ≡ map (λ v. liked v pattern) xs
by_liked pattern xs flags is =
    let answer = λ (i : ℕ). is_true (liked (get_or xs i Null) pattern) in
    let none = λ (i : ℕ). is_no_text (get_or xs i Null) in
    let places = range_with_len 0 (length xs) in
    ap (λ l. zip2 known (map answer (range_with_len 0 (length l))) l) is
    ∙ ap (λ (n : ℕ). zip2 known (map answer (range_with_len 0 n)) (map none places)) (length-map-range_with_len none 0 (length xs))
    ∙ zip2-map known answer none places
    ∙ map-same (λ i. known (answer i) (none i)) (λ i. liked (get_or xs i Null) pattern) (λ i. liked_known pattern (get_or xs i Null)) places
    ∙ map-all_places (λ v. liked v pattern) Null xs (length xs) refl

liked_text : (pattern : List ℕ) (v : Value) → is_of_kind 2 v ≡ true → known (like (chars pattern) (chars (bytes v))) (is_null v) ≡ liked v pattern
liked_text pattern (Text t) kind = refl
liked_text pattern (Number n) kind = absurd (cc kind)
liked_text pattern (Day d) kind = absurd (cc kind)
liked_text pattern Null kind = refl

-- the answers for texts, not known where NULL stands, are the truths of LIKE
pub by_liked_texts : (pattern : List ℕ) (xs : List Value) (texts : List (List ℕ)) (nulls : List Bool) → ShowsTexts texts xs → nulls ≡ map is_null xs
    → zip2 known (map (λ i. like (chars pattern) (chars (get_or texts i []))) (range_with_len 0 (length nulls))) nulls ≡ map (λ v. liked v pattern) xs
by_liked_texts pattern xs texts nulls shows is =
    let answer = λ (i : ℕ). like (chars pattern) (chars (get_or texts i [])) in
    let null = λ (i : ℕ). is_null (get_or xs i Null) in
    let places = range_with_len 0 (length xs) in
    let text_at : (i : ℕ) → get_or texts i [] ≡ bytes (get_or xs i Null) = λ i. ap (λ (l : List (List ℕ)). get_or l i []) shows.0 ∙ get_or-map bytes xs i Null in
    let flags : nulls ≡ map null places = is ∙ sym (map-all_places is_null Null xs (length xs) refl) in
    ap (λ l. zip2 known (map answer (range_with_len 0 (length l))) l) flags
    ∙ ap (λ (n : ℕ). zip2 known (map answer (range_with_len 0 n)) (map null places)) (length-map-range_with_len null 0 (length xs))
    ∙ zip2-map known answer null places
    ∙ map-same (λ i. known (answer i) (null i)) (λ i. liked (get_or xs i Null) pattern) (λ i. ap (λ (t : List ℕ). known (like (chars pattern) (chars t)) (null i)) (text_at i) ∙ liked_text pattern (get_or xs i Null) (shows.1 i)) places
    ∙ map-all_places (λ v. liked v pattern) Null xs (length xs) refl

-- the answers for a part of some texts are those for all of them from a place on
pub places_behind : (test : List ℕ → Bool) (texts : List (Bor (List ℕ))) (from n k : ℕ) → n ≤ k
    → map (λ i. test (get_or (texts_of (chunk from k texts)) i [])) (range_with_len 0 n) ≡ map (λ i. test (get_or (texts_of texts) i [])) (range_with_len from n)
places_behind test texts from n k many =
    let part = λ (i : ℕ). test (get_or (texts_of (chunk from k texts)) i []) in
    let all = λ (i : ℕ). test (get_or (texts_of texts) i []) in
    let none : Bor (List ℕ) = record { ref_ptr = (0, 0); now = [] } in
    let bytes_of = λ (t : Bor (List ℕ)). t.now in
    ext_get_or false _ _ (length-map-range_with_len part 0 n ∙ sym (length-map-range_with_len all from n)) (λ i lt.
    let within : i < n = omega (arith, lt, length-map-range_with_len part 0 n) in
    get_or-map-range_with_len part 0 n i i false within (omega arith)
    ∙ ap test (get_or-map bytes_of (chunk from k texts) i none ∙ ap bytes_of (get_or-chunk from k texts i none (omega (arith, within, many))) ∙ sym (get_or-map bytes_of texts (from + i) none))
    ∙ sym (get_or-map-range_with_len all from n i (from + i) false within refl))
