-- Where a run stands in a text that stands in other bytes.
use Rattle.std.proofs.Common.{Bor, ◌≡◌, ℕ, ◌<◌, ◌≤◌, ◌+◌, ◌-◌, ◌^◌, Option, ◌⊎◌, inl, inr, List, [], ◌∷◌, ◌++◌, length, take, drop, get_or, sym, ap, subst, ◌∙◌, arith, append-nil, append_assoc, length-append, length-drop}
use Rattle.std.specs.Prelude.{Some, None, IfSome, set}
use Rattle.std.specs.List.{concat}
use Rattle.std.proofs.lemmas.Bool.{cases_lt}
use Rattle.std.proofs.lemmas.List.Folds.{concat-append}
use Rattle.std.proofs.lemmas.List.{length-map, take_more, get_or-set_same, get_or-set_other, take-append-drop, take-append-le, drop-append-le, length-take-le}
use Rattle.std.proofs.Math.Seq.{drop-append-add}
use lib.ListN.{get_or-map}
use Rattle.memchr.specs.Find.{FindsNeedle, OccursAt}
use Rattle.memchr.proofs.lemmas.MatchLemmas.{OccursAt-part, OccursAt-from_part}
use Rattle.cq_vectors_stored.specs.Columns.{texts_of}
use Rattle.cq_prims_like.specs.Patterns.{FindsWithin}

module _ (run front text rest bytes : List ℕ) (is : bytes ≡ front ++ (text ++ rest)) where
  same_part : (place : ℕ) → place + length run ≤ length text → take (length run) (drop (length front + place) bytes) ≡ take (length run) (drop place text)
  same_part place room =
      ap (λ l. take (length run) (drop (length front + place) l)) is
      ∙ ap (take (length run)) (drop-append-add front (text ++ rest) place ∙ drop-append-le place text rest (omega (arith, room)))
      ∙ take-append-le (length run) (drop place text) rest (omega (arith, length-drop place text, room))

  -- a place in the text is one in the bytes, so far behind the text's start
  pub occurs_behind : (place : ℕ) → OccursAt text run place → OccursAt bytes run (length front + place)
  occurs_behind place there =
      let room = there.fits in
      OccursAt-from_part bytes run (length front + place) (omega (arith, room, ap {B = ℕ} length is, length-append front (text ++ rest), length-append text rest))
      (same_part place room ∙ OccursAt-part text run place there)

  -- and the other way round, where the run ends within the text
  pub occurs_alone : (place : ℕ) → OccursAt bytes run (length front + place) → place + length run ≤ length text → OccursAt text run place
  occurs_alone place there room = OccursAt-from_part text run place room (sym (same_part place room) ∙ OccursAt-part bytes run (length front + place) there)

-- ---- a search that begins at a place
module _ (run bytes : List ℕ) (from : ℕ) (within : from ≤ length bytes) where
  split : bytes ≡ take from bytes ++ (drop from bytes ++ [])
  split = sym (take-append-drop from bytes) ∙ ap (λ l. take from bytes ++ l) (sym (append-nil (drop from bytes)))

  behind : (place : ℕ) → OccursAt (drop from bytes) run place → OccursAt bytes run (from + place)
  behind place there =
      subst (λ (n : ℕ). OccursAt bytes run (n + place)) (length-take-le from bytes within) (occurs_behind run (take from bytes) (drop from bytes) [] bytes split place there)

  -- the place in the rest
  in_rest : (place : ℕ) → from ≤ place → OccursAt bytes run place → OccursAt (drop from bytes) run (place - from)
  in_rest place late there =
      let room = there.fits in
      let far : length (take from bytes) + (place - from) ≡ place = omega (arith, late, length-take-le from bytes within) in
      occurs_alone run (take from bytes) (drop from bytes) [] bytes split (place - from) (subst (OccursAt bytes run) (sym far) there)
      (omega (arith, late, room, length-drop from bytes))

  pub none_from : FindsNeedle (drop from bytes) run 0 None → FindsNeedle bytes run from None
  none_from none place late below there =
      none (place - from) (omega arith) (omega (arith, late, below, length-drop from bytes)) (in_rest place late there)

  pub first_from : (at : ℕ) → FindsNeedle (drop from bytes) run 0 (Some at) → FindsNeedle bytes run from (Some (from + at))
  first_from at found = (
    record {
      low = omega arith;
      high = (let room = (behind at found.1).fits in omega (arith, room));
      before = λ place late below there. found.0.before (place - from) (omega arith) (omega (arith, late, below)) (in_rest place late there);
    },
    behind at found.1,
  )

-- ---- a search that goes on from a later place
module _ (run bytes : List ℕ) (from start : ℕ) (later : from ≤ start) where
  pub none_later : FindsNeedle bytes run from None → FindsNeedle bytes run start None
  none_later none place low below there = none place (omega (arith, low, later)) below there

  pub first_later : (place : ℕ) → start ≤ place → FindsNeedle bytes run from (Some place) → FindsNeedle bytes run start (Some place)
  first_later place late found = (
    record {
      low = late;
      high = found.0.high;
      before = λ k low below there. found.0.before k (omega (arith, low, later)) below there;
    },
    found.1,
  )

-- ---- a text in bytes, from a place on
module _ (run front text rest : List ℕ) (start : ℕ) (far : length front ≡ start) where
  abbrev bytes : List ℕ
  bytes = front ++ (text ++ rest)

  there_behind : (place : ℕ) → OccursAt text run place → OccursAt (front ++ (text ++ rest)) run (start + place)
  there_behind place there = subst (λ (n : ℕ). OccursAt bytes run (n + place)) far (occurs_behind run front text rest bytes (λ i. bytes) place there)

  pub none_within : FindsNeedle (front ++ (text ++ rest)) run start None → FindsNeedle text run 0 None
  none_within none place low below there =
      let at = there_behind place there in
      let room = at.fits in
      none (start + place) (omega arith) (omega (arith, room)) at

  pub first_within : (place : ℕ) → FindsNeedle (front ++ (text ++ rest)) run start (Some place) → place + length run ≤ start + length text
      → FindsNeedle text run 0 (Some (place - start))
  first_within place found room =
      let late = found.0.low in
      let same : length front + (place - start) ≡ place = omega (arith, far, late) in
      let short : place - start + length run ≤ length text = omega (arith, late, room) in (
        record {
          low = omega arith;
          high = omega (arith, short);
          before = λ k low below there. found.0.before (start + k) (omega arith) (omega (arith, below, late)) (there_behind k there);
        },
        occurs_alone run front text rest bytes (λ i. bytes) (place - start) (subst (OccursAt bytes run) (sym same) found.1) short,
      )

  -- where the first from a place before the text ends behind it, the text has none
  passed_within : (from place : ℕ) → from ≤ start → FindsNeedle (front ++ (text ++ rest)) run from (Some place) → start + length text < place + length run → FindsNeedle text run 0 None
  passed_within from place later found late k low below there =
      let room = there.fits in
      found.0.before (start + k) (omega (arith, later)) (omega (arith, room, late)) (there_behind k there)

  pub late_within : (place : ℕ) → FindsNeedle (front ++ (text ++ rest)) run start (Some place) → start + length text < place + length run → FindsNeedle text run 0 None
  late_within place found late = passed_within start place (omega arith) found late

  -- where none from there on ends within the text, the text has none
  pub nowhere_within : (from : ℕ) (next : Option ℕ) → from ≤ start → FindsNeedle (front ++ (text ++ rest)) run from next
      → IfSome next (λ place. start + length text < place + length run) → FindsNeedle text run 0 None
  nowhere_within from None later found late = none_within (none_later run bytes from start later found)
  nowhere_within from (Some place) later found late = passed_within from place later found late

-- a place that is found leaves room for the run
pub room_of_found : (run bytes : List ℕ) (start : ℕ) (next : Option ℕ) → length bytes ≤ 4096 → FindsNeedle bytes run start next
    → IfSome next (λ place. (start ≤ place) × (place + length run < 2 ^ 64))
room_of_found run bytes start None few found = tt
room_of_found run bytes start (Some place) few found = let room = found.1.fits in (found.0.low, omega (arith, room, few))

-- ---- texts one behind the other
pub concat_more : (texts : List (List ℕ)) (i : ℕ) → i < length texts → concat (take (i + 1) texts) ≡ concat (take i texts) ++ get_or texts i []
concat_more texts i below =
    ap concat (take_more texts i [] below) ∙ concat-append (take i texts) (get_or texts i [] ∷ []) ∙ ap (λ l. concat (take i texts) ++ l) (append-nil (get_or texts i []))

pub concat_split : (texts : List (List ℕ)) (i : ℕ) → i < length texts → concat texts ≡ concat (take i texts) ++ (get_or texts i [] ++ concat (drop (i + 1) texts))
concat_split texts i below =
    ap concat (sym (take-append-drop (i + 1) texts)) ∙ concat-append (take (i + 1) texts) (drop (i + 1) texts)
    ∙ ap (λ l. l ++ concat (drop (i + 1) texts)) (concat_more texts i below)
    ∙ append_assoc (concat (take i texts)) (get_or texts i []) (concat (drop (i + 1) texts))

-- ---- one text more of those that are laid
module _ (texts : List (List ℕ)) (i : ℕ) (below : i < length texts) (text bytes : List ℕ) (start : ℕ) where
  module _ (is : get_or texts i [] ≡ text) (laid : bytes ≡ concat texts) (far : start ≡ length (concat (take i texts))) where
    pub whole : bytes ≡ concat (take i texts) ++ (text ++ concat (drop (i + 1) texts))
    whole = laid ∙ concat_split texts i below ∙ ap (λ t. concat (take i texts) ++ (t ++ concat (drop (i + 1) texts))) is

    pub end_within : start + length text ≤ length bytes
    end_within = omega (arith, far, ap {B = ℕ} length whole, length-append (concat (take i texts)) (text ++ concat (drop (i + 1) texts)), length-append text (concat (drop (i + 1) texts)))

    pub next_start : start + length text ≡ length (concat (take (i + 1) texts))
    next_start = omega (arith, far, ap {B = ℕ} length (concat_more texts i below), length-append (concat (take i texts)) (get_or texts i []), ap {B = ℕ} length is)

    pub place_found : (run : List ℕ) (next place : Option ℕ) → FindsWithin run start (start + length text) next place → FindsNeedle bytes run start next
        → FindsNeedle (get_or texts i []) run 0 place
    place_found run next place within found =
        subst (λ t. FindsNeedle t run 0 place) (sym is)
        (within (concat (take i texts)) text (concat (drop (i + 1) texts)) (sym far) (λ j. start + length text) (subst (λ b. FindsNeedle b run start next) whole found))

-- and of texts that are lent
module _ (texts : List (Bor (List ℕ))) (i : ℕ) (inside : i < length texts) (bytes : List ℕ) (start : ℕ) (laid : bytes ≡ concat (texts_of texts)) (far : start ≡ length (concat (take i (texts_of texts)))) where
  abbrev here : List ℕ
  here = (get_or texts i (record { ref_ptr = (0, 0); now = [] })).now

  below : i < length (texts_of texts)
  below = omega (arith, inside, length-map texts (λ t. t.now))

  is : get_or (texts_of texts) i [] ≡ here
  is = get_or-map (λ (t : Bor (List ℕ)). t.now) texts i (record { ref_ptr = (0, 0); now = [] })

  pub lent_within : start + length here ≤ length bytes
  lent_within = end_within (texts_of texts) i below here bytes start is laid far

  pub lent_start : start + length here ≡ length (concat (take (i + 1) (texts_of texts)))
  lent_start = next_start (texts_of texts) i below here bytes start is laid far

  pub lent_found : (run : List ℕ) (next place : Option ℕ) → FindsWithin run start (start + length here) next place → FindsNeedle bytes run start next
      → FindsNeedle (get_or (texts_of texts) i []) run 0 place
  lent_found = place_found (texts_of texts) i below here bytes start is laid far

-- one more of the first places
pub found_more : (P : ℕ → Option ℕ → Type 0) (places : List (Option ℕ)) (i : ℕ) (place : Option ℕ) → i < length places
    → ((j : ℕ) → j < i → P j (get_or places j None)) → P i place → (j : ℕ) → j < i + 1 → P j (get_or (set places i place) j None)
found_more P places i place room before here j below = by_order (cases_lt j i)
  where
    by_order : (j < i) ⊎ (i ≤ j) → P j (get_or (set places i place) j None)
    by_order (inl lt) = subst (P j) (sym (get_or-set_other places i j place None (λ e. omega (arith, e, lt)))) (before j lt)
    by_order (inr le) =
        let same : i ≡ j = omega (arith, le, below) in
        subst (λ (k : ℕ). P k (get_or (set places i place) k None)) same (subst (P i) (sym (get_or-set_same places i place None room)) here)
