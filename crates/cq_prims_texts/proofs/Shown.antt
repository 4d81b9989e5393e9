-- The texts of vectors whose values are all of one kind.
use Rattle.std.proofs.Common.{◌≡◌, ℕ, zero, suc, Bool, true, false, List, [], ◌∷◌, map, length, get_or, replicate, refl, sym, ap, subst, ◌∙◌}
use lib.Lanes.{zip2}
use Rattle.cq_values.specs.declared.value.Value.{Value}
use Rattle.cq_values.specs.declared.value.Value.TheVariants.{Null}
use Rattle.cq_values.specs.Order.{bytes}
use Rattle.cq_model.specs.Condition.{is_null}
use Rattle.cq_vectors_stored.specs.Columns.{text_unless}
use Rattle.cq_vectors_stored.specs.LentColumns.{entries_at, entry_unless, part_of, texts_from}
use Rattle.cq_prims_texts.specs.Bytes.{entry_bytes, run_bytes}
use Rattle.cq_prims_texts.specs.Kinds.{is_of_kind, AreOfKind, ShowsTexts}
use Rattle.cq_prims_lanes.proofs.Places.{map-replicate}

-- what is made of one kind is of this kind in each place
pub zip2-of_kind : {X : Type 0} (k : ℕ) (make : X → Bool → Value) → ((x : X) (b : Bool) → is_of_kind k (make x b) ≡ true) → (xs : List X) (bs : List Bool) (i : ℕ) → is_of_kind k (get_or (zip2 make xs bs) i Null) ≡ true
zip2-of_kind k make h [] bs i = refl
zip2-of_kind k make h (x ∷ xs) [] i = refl
zip2-of_kind k make h (x ∷ xs) (b ∷ bs) zero = h x b
zip2-of_kind k make h (x ∷ xs) (b ∷ bs) (suc i) = zip2-of_kind k make h xs bs i

-- one value is of its kind in each place
pub replicate-of_kind : (k n : ℕ) (v : Value) → is_of_kind k v ≡ true → (i : ℕ) → is_of_kind k (get_or (replicate n v) i Null) ≡ true
replicate-of_kind k zero v h i = refl
replicate-of_kind k (suc n) v h zero = h
replicate-of_kind k (suc n) v h (suc i) = replicate-of_kind k n v h i

text_of_kind : (t : List ℕ) (b : Bool) → is_of_kind 2 (text_unless t b) ≡ true
text_of_kind t true = refl
text_of_kind t false = refl

pub column_shows_texts : (ts us : List (List ℕ)) (vs : List Value) → ts ≡ map bytes vs → vs ≡ zip2 text_unless us (map is_null vs) → ShowsTexts ts vs
column_shows_texts ts us vs texts whole = (texts, subst (AreOfKind 2) (sym whole) (zip2-of_kind 2 text_unless text_of_kind us (map is_null vs)))

-- the bytes of a part of a run are those of its values
pub run_shows_texts : (texts : List (List ℕ)) (start : ℕ) (vs : List Value) → vs ≡ texts_from texts start (map is_null vs) → (flags : List Bool) → flags ≡ map is_null vs → ShowsTexts (run_bytes texts start flags) vs
run_shows_texts texts start vs whole flags is =
    column_shows_texts (run_bytes texts start flags) (part_of texts start (length (map is_null vs))) vs (ap (λ (fs : List Bool). run_bytes texts start fs) is ∙ sym (ap (map bytes) whole)) whole

-- the bytes of the entries that codes name are those of the values
pub codes_show_texts : (entries : List (List ℕ)) (codes : List ℕ) (vs : List Value) → vs ≡ entries_at entries codes (map is_null vs) → (flags : List Bool) → flags ≡ map is_null vs → ShowsTexts (entry_bytes entries codes flags) vs
codes_show_texts entries codes vs whole flags is = (
  ap (λ (fs : List Bool). entry_bytes entries codes fs) is ∙ sym (ap (map bytes) whole),
  subst (AreOfKind 2) (sym whole) (zip2-of_kind 2 (entry_unless entries) (λ code b. text_of_kind (get_or entries code []) b) codes (map is_null vs)),
)

module _ (n : ℕ) (v : Value) where
  pub constant_shows_texts : is_of_kind 2 v ≡ true → (ts : List (List ℕ)) → ts ≡ replicate n (bytes v) → ShowsTexts ts (replicate n v)
  constant_shows_texts h ts is = (is ∙ sym (map-replicate bytes n v), replicate-of_kind 2 n v h)
