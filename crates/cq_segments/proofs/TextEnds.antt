-- The ends of texts, none of which is NULL.
use Rattle.std.proofs.Common.{◌≡◌, ◌⊎◌, ◌∙◌, ℕ, zero, suc, ◌+◌, ◌<◌, Bool, true, false, if◌then◌else◌, List, [], ◌∷◌, ◌++◌, None, Some, get_or, length, take, inl, inr, refl, sym, ap, ap₂, subst, arith}
use Rattle.std.specs.List.{All, AllByRecursion, fold, list_any}
use Rattle.std.specs.Simd.Lanes.{zip2}
use Rattle.std.specs.Str.{bytes_eq}
use Rattle.std.proofs.lemmas.List.{get_or-map, length-map, take-map}
use Rattle.std.proofs.lemmas.List.Elements.{All-head, All-tail}
use Rattle.cq_model.specs.Group.{higher, lower}
use Rattle.cq_model_bags.proofs.Lists.{all-at}
use Rattle.cq_encodings.specs.Dict.{coded, different_texts, with_text}
use Rattle.cq_encodings.specs.Texts.{text_values}
use Rattle.cq_values.specs.Value.{is_null}
use Rattle.cq_values.specs.declared.value.Value.{Value}
use Rattle.cq_values.specs.declared.value.Value.TheVariants.{Day, Null, Number, Text}
use Rattle.cq_vectors_stored.specs.Columns.{text_unless}
use Rattle.cq_encodings_numbers.specs.Bounds.{AreBounds, Ends, IsAmong, IsBounded}
use Rattle.cq_segments.specs.Texts.{AreTextEnds}
use Rattle.cq_segments.proofs.Ends.{ends_among, with_value}

-- ---- text by text

module _ (texts : List (List ℕ)) (i : ℕ) (t : List ℕ) (lt : i < length texts) (is : get_or texts i [] ≡ t) where
  there : Text t ≡ get_or (text_values texts) i (Text t)
  there = sym (get_or-map Text texts i [] (Text t) lt ∙ ap Text is)

  within : i < length (text_values texts)
  within = omega (arith, lt, length-map texts Text)

  -- the better ones of the ends so far and the next text
  pub next_text_ends : (least greatest low high : List ℕ) → Text low ≡ lower (Text least) (Text t) → Text high ≡ higher (Text greatest) (Text t)
      → AreTextEnds (Some (Text least, Text greatest)) (take i texts) → AreTextEnds (Some (Text low, Text high)) (take (i + 1) texts)
  next_text_ends least greatest low high is_low is_high so_far =
      let old = subst (λ (vs : List Value). AreBounds false (Some (Text least, Text greatest)) vs) (sym (take-map Text i texts)) so_far in
      let new = with_value (text_values texts) i (Text t) within there false (Some (Text least, Text greatest)) old refl in
      subst (λ (vs : List Value). AreBounds false (Some (Text low, Text high)) vs) (take-map Text (i + 1) texts)
      (subst (λ (ends : Ends). AreBounds false ends (take (i + 1) (text_values texts))) (ap₂ (λ (v w : Value). Some (v, w)) (sym is_low) (sym is_high)) new)

-- the first text is both ends
pub first_text_ends : (texts : List (List ℕ)) (t : List ℕ) → 0 < length texts → get_or texts 0 [] ≡ t → AreTextEnds (Some (Text t, Text t)) (take 1 texts)
first_text_ends [] t some is = absurd (omega (arith, some))
first_text_ends (x ∷ texts) t some is =
    with_value (Text x ∷ []) 0 (Text t) (omega arith) (ap Text (sym is)) false None (record { all = tt; known = tt; among = tt; null = refl }) refl

-- ---- by the different texts

-- no text is NULL
pub none_null : (texts : List (List ℕ)) → list_any is_null (text_values texts) ≡ false
none_null [] = refl
none_null (t ∷ texts) = none_null texts

-- what bounds the entries bounds the texts that stand for them
pub bounded_coded : (ends : Ends) (entries : List (List ℕ)) → AllByRecursion (IsBounded false ends) (text_values entries) → (texts : List (List ℕ)) (codes : List ℕ) (nulls : List Bool)
    → text_values texts ≡ zip2 text_unless (coded entries codes) nulls → All (λ code. code < length entries) codes → AllByRecursion (IsBounded false ends) (text_values texts)
bounded_coded ends entries bounded [] codes nulls same known = tt
bounded_coded ends entries bounded (t ∷ texts) [] nulls same known = absurd (cc same)
bounded_coded ends entries bounded (t ∷ texts) (code ∷ codes) [] same known = absurd (cc same)
bounded_coded ends entries bounded (t ∷ texts) (code ∷ codes) (true ∷ nulls) same known = absurd (cc same)
bounded_coded ends entries bounded (t ∷ texts) (code ∷ codes) (false ∷ nulls) same known =
    let lt : code < length entries = All-head (λ code. code < length entries) code codes known in
    let head : Text (get_or entries code []) ≡ Text t = cc same in
    let rest : text_values texts ≡ zip2 text_unless (coded entries codes) nulls = cc same in
    let here = all-at (IsBounded false ends) (text_values entries) code Null (omega (arith, lt, length-map entries Text)) bounded in (
      subst (IsBounded false ends) (get_or-map Text entries code [] Null lt ∙ head) here,
      bounded_coded ends entries bounded texts codes nulls rest (All-tail (λ code. code < length entries) code codes known),
    )

-- a value among values is so behind one more
among_behind : (w : Value) (values : List Value) (v : Value) → IsAmong values v → IsAmong (w ∷ values) v
among_behind w values v among = (suc among.0, omega (arith, among.1), among.2)

-- a text of some with one more is among those, or is that one
among_last : (known : List (List ℕ)) (t : List ℕ) (v : Value) → IsAmong (text_values (known ++ t ∷ [])) v → IsAmong (text_values known) v ⊎ (Text t ≡ v)
among_last [] t v (zero, lt, is) = inr is
among_last [] t v (suc place, lt, is) = absurd (omega (arith, lt))
among_last (x ∷ known) t v (zero, lt, is) = inl (0, omega arith, is)
among_last (x ∷ known) t v (suc place, lt, is) = by_rest (among_last known t v (place, omega (arith, lt), is))
  where
    by_rest : IsAmong (text_values known) v ⊎ (Text t ≡ v) → IsAmong (text_values (x ∷ known)) v ⊎ (Text t ≡ v)
    by_rest (inl among) = inl (among_behind (Text x) (text_values known) v among)
    by_rest (inr e) = inr e

-- a text that is known with a value more was known, or is that value
among_one : (known : List (List ℕ)) (w v : Value) → IsAmong (text_values (with_text known w)) v → IsAmong (text_values known) v ⊎ (w ≡ v)
among_one known (Number n) v among = inl among
among_one known (Day n) v among = inl among
among_one known Null v among = inl among
among_one known (Text t) v among = by_known (list_any (bytes_eq t) known) among
  where
    by_known : (b : Bool) → IsAmong (text_values (if b then known else known ++ t ∷ [])) v → IsAmong (text_values known) v ⊎ (Text t ≡ v)
    by_known true among = inl among
    by_known false among = among_last known t v among

-- and with all values it was known, or is one of them
among_met : (values : List Value) (known : List (List ℕ)) (v : Value) → IsAmong (text_values (fold with_text known values)) v → IsAmong (text_values known) v ⊎ IsAmong values v
among_met [] known v among = inl among
among_met (w ∷ values) known v among = by_rest (among_met values (with_text known w) v among)
  where
    by_one : IsAmong (text_values known) v ⊎ (w ≡ v) → IsAmong (text_values known) v ⊎ IsAmong (w ∷ values) v
    by_one (inl before) = inl before
    by_one (inr e) = inr (0, omega arith, e)

    by_rest : IsAmong (text_values (with_text known w)) v ⊎ IsAmong values v → IsAmong (text_values known) v ⊎ IsAmong (w ∷ values) v
    by_rest (inl before) = by_one (among_one known w v before)
    by_rest (inr behind) = inr (among_behind w values v behind)

among_different : (values : List Value) (v : Value) → IsAmong (text_values (different_texts values)) v → IsAmong values v
among_different values v among = by_met (among_met values [] v among)
  where
    by_met : IsAmong [] v ⊎ IsAmong values v → IsAmong values v
    by_met (inl none) = absurd (omega (arith, none.1))
    by_met (inr there) = there

-- the ends of the different texts are those of all that they stand for
pub different_ends : (ends : Ends) (entries : List (List ℕ)) (texts : List (List ℕ)) (codes : List ℕ) (nulls : List Bool) → entries ≡ different_texts (text_values texts)
    → text_values texts ≡ zip2 text_unless (coded entries codes) nulls → All (λ code. code < length entries) codes → AreTextEnds ends entries → AreTextEnds ends texts
different_ends ends entries texts codes nulls different same known so = record {
  all = bounded_coded ends entries so.all texts codes nulls same known;
  known = so.known;
  among = ends_among (text_values entries) (text_values texts) ends
      (λ w among. among_different (text_values texts) w (subst (λ (ts : List (List ℕ)). IsAmong (text_values ts) w) different among)) so.among;
  null = sym (none_null texts);
}

-- ends that are copied bound what the others do
pub copied_bounds : (has_null : Bool) (ends told : Ends) (values : List Value) → (has_null ≡ false) × (ends ≡ told) → AreBounds false told values → AreBounds has_null ends values
copied_bounds has_null ends told values is bounds =
    subst (λ (b : Bool). AreBounds b ends values) (sym is.0) (subst (λ (e : Ends). AreBounds false e values) (sym is.1) bounds)
