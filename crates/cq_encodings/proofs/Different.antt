-- The different texts among values.
use Rattle.std.proofs.Common.{◌≡◌, slice_get, Some, ℕ, zero, suc, arith, ◌+◌, ◌<◌, Bool, true, false, if◌then◌else◌, ◌||◌, Bor, List, [], ◌∷◌, ◌++◌, length, get_or, map, take, drop, refl, sym, ap, ◌∙◌}
use Rattle.std.specs.List.{fold, list_any}
use Rattle.std.specs.Str.{bytes_eq}
use Rattle.std.proofs.lemmas.List.{drop_more, get_or_append_left, length-append, length-map, map-append, take-append-drop}
use Rattle.std.proofs.lemmas.Option.{slice_get_within}
use Rattle.std.proofs.lemmas.List.Sums.{fold-append, fold_push}
use Rattle.std.proofs.lemmas.Slice.Eq.{bytes_eq-Decides}
use Rattle.cq_values.specs.declared.value.Value.{Value}
use Rattle.cq_values.specs.declared.value.Value.TheVariants.{Null, Text}
use Rattle.cq_values.specs.declared.lent.Lent.{Lent}
use Rattle.cq_values.specs.declared.lent.Lent.TheVariants as lent
use Rattle.cq_values.specs.Lent.{owned}
use Rattle.cq_vectors_stored.specs.Columns.{texts_of}
use Rattle.cq_encodings_plain.proofs.Zipped.{owned_more}
use Rattle.cq_encodings.proofs.Coded.{text_found}
use Rattle.cq_encodings.specs.Dict.{HasText, IsNumbered, Keeps, different_texts, with_text}

any-map : (text : List ℕ) (keys : List (Bor (List ℕ))) → list_any (λ key. bytes_eq text key.now) keys ≡ list_any (bytes_eq text) (texts_of keys)
any-map text [] = refl
any-map text (key ∷ keys) = ap (λ (b : Bool). bytes_eq text key.now || b) (any-map text keys)

-- a key is put behind the others where its text is not among theirs
pub texts-insert : (keys : List (Bor (List ℕ))) (key : Bor (List ℕ)) → texts_of (if list_any (λ other. bytes_eq key.now other.now) keys then keys else keys ++ key ∷ []) ≡ with_text (texts_of keys) (Text key.now)
texts-insert keys key = by_known (list_any (λ other. bytes_eq key.now other.now) keys) ∙ ap (λ (b : Bool). if b then texts_of keys else texts_of keys ++ key.now ∷ []) (any-map key.now keys)
  where
    by_known : (b : Bool) → texts_of (if b then keys else keys ++ key ∷ []) ≡ (if b then texts_of keys else texts_of keys ++ key.now ∷ [])
    by_known true = refl
    by_known false = map-append (λ text. text.now) keys (key ∷ [])

-- one value more
pub met_more : (values : List Lent) (known : List (List ℕ)) (i : ℕ) (value : Lent) → i < length values → value ≡ get_or values i lent.Null → fold with_text known (map owned (take (i + 1) values)) ≡ with_text (fold with_text known (map owned (take i values))) (owned value)
met_more values known i value lt there = ap (fold with_text known) (owned_more values i value lt there) ∙ fold_push with_text known (map owned (take i values)) (owned value)

same_text : (text : List ℕ) → bytes_eq text text ≡ true
same_text text = (bytes_eq-Decides text text).1 refl

-- where no text stands before the first one, it may be known from the start
pub first_met : (values : List Value) (i : ℕ) (value : Value) (text : List ℕ) → i < length values → get_or values i Null ≡ value → value ≡ Text text → ((known : List (List ℕ)) → fold with_text known (take i values) ≡ known)
    → fold with_text (text ∷ []) values ≡ different_texts values
first_met values i value text lt there is none =
    ap (fold with_text (text ∷ [])) split ∙ fold-append with_text (text ∷ []) (take i values) (Text text ∷ drop (i + 1) values)
    ∙ ap (λ (known : List (List ℕ)). fold with_text known (Text text ∷ drop (i + 1) values)) (none (text ∷ []))
    ∙ ap (λ (b : Bool). fold with_text (if b || false then text ∷ [] else text ∷ text ∷ []) (drop (i + 1) values)) (same_text text)
    ∙ sym (ap (fold with_text []) split ∙ fold-append with_text [] (take i values) (Text text ∷ drop (i + 1) values)
    ∙ ap (λ (known : List (List ℕ)). fold with_text known (Text text ∷ drop (i + 1) values)) (none []))
  where
    split : values ≡ take i values ++ Text text ∷ drop (i + 1) values
    split = sym (take-append-drop i values) ∙ ap (λ (rest : List Value). take i values ++ rest) (drop_more values i Null lt ∙ ap (λ (v : Value). v ∷ drop (i + 1) values) (there ∙ is))

-- a text that has a number among the known ones is one of them
among_known : (known : List (List ℕ)) (number : ℕ) (text : List ℕ) → number < length known → get_or known number [] ≡ text → list_any (bytes_eq text) known ≡ true
among_known [] number text lt is = absurd (omega (arith, lt))
among_known (first ∷ known) zero text lt is = ap (λ (b : Bool). b || list_any (bytes_eq text) known) (ap (bytes_eq text) is ∙ same_text text)
among_known (first ∷ known) (suc number) text lt is = ap (λ (b : Bool). bytes_eq text first || b) (among_known known number text (omega (arith, lt)) is) ∙ or_true (bytes_eq text first)
  where
    or_true : (b : Bool) → (b || true) ≡ true
    or_true true = refl
    or_true false = refl

-- and keeps its number
pub numbered_before : (known : List (List ℕ)) (number : ℕ) (text : List ℕ) → HasText known number text → IsNumbered text number known known
numbered_before known number text has =
    record {
      kept = record { long = omega arith; there = λ code lt. refl };
      met = sym (ap (λ (b : Bool). if b then known else known ++ text ∷ []) (among_known known number text has.within has.is));
      has = has;
    }

-- a text that is put behind the others leaves them their numbers
pub keeps_with : (known : List (List ℕ)) (text : List ℕ) → Keeps known (with_text known (Text text))
keeps_with known text = by_known (list_any (bytes_eq text) known)
  where
    by_known : (b : Bool) → Keeps known (if b then known else known ++ text ∷ [])
    by_known true = record { long = omega arith; there = λ code lt. refl }
    by_known false = record { long = omega (arith, length-append known (text ∷ [])); there = λ code lt. get_or_append_left known (text ∷ []) [] code lt }

-- a key that was found has its text's number
pub key_has : (keys : List (Bor (List ℕ))) (number : ℕ) (key : Bor (List ℕ)) (text : List ℕ) → slice_get keys number ≡ Some key → key.now ≡ text → HasText (texts_of keys) number text
key_has keys number key text found same =
    record {
      within = omega (arith, slice_get_within keys number key found, length-map keys (λ (text : Bor (List ℕ)). text.now));
      is = text_found keys number key found ∙ same;
    }
