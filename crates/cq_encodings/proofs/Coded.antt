-- Texts as their numbers among the different ones.
use Rattle.std.proofs.Common.{◌≡◌, ℕ, ◌+◌, ◌<◌, ◌≤◌, Bor, List, [], ◌∷◌, ◌++◌, length, get_or, map, slice_get, subst, take, Some, refl, ap, ap₂, ◌∙◌, arith}
use Rattle.std.specs.List.{All, fold}
use Rattle.std.specs.Simd.Lanes.{zip2}
use Rattle.std.proofs.lemmas.List.{get_or-map, length-map, map-append, take_all}
use Rattle.std.proofs.lemmas.List.Elements.{All-head, All-push, All-tail, All-weaker}
use Rattle.std.proofs.lemmas.Option.{get_or_from_slice_get, slice_get_within}
use Rattle.cq_vectors_stored.specs.Columns.{text_unless, texts_of}
use Rattle.cq_values.specs.declared.lent.Lent.{Lent}
use Rattle.cq_values.specs.declared.lent.Lent.TheVariants as lent
use Rattle.cq_values.specs.Lent.{owned}
use Rattle.cq_encodings_plain.specs.Nulls.{NothingWhere}
use Rattle.cq_encodings_plain.specs.Parts.{Makes, nulls_of}
use Rattle.cq_encodings_plain.proofs.Zipped.{length-nulls_of, zipped_more}
use Rattle.cq_encodings.specs.Dict.{AreCodesOf, IsFirstText, Keeps, coded, with_text}

-- the text of a key that was found
pub text_found : (keys : List (Bor (List ℕ))) (code : ℕ) (key : Bor (List ℕ)) → slice_get keys code ≡ Some key → get_or (texts_of keys) code [] ≡ key.now
text_found keys code key found =
    get_or-map (λ (text : Bor (List ℕ)). text.now) keys code key [] (slice_get_within keys code key found)
    ∙ ap (λ (text : Bor (List ℕ)). text.now) (get_or_from_slice_get keys code key key found)

-- numbers within the entries so far stand for what they stood for
pub same_coded : (old new : List (List ℕ)) (codes : List ℕ) → Keeps old new → All (λ code. code < length old) codes → coded new codes ≡ coded old codes
same_coded old new [] keeps all = refl
same_coded old new (code ∷ codes) keeps all =
    ap₂ (λ (t : List ℕ) (ts : List (List ℕ)). t ∷ ts) (keeps.there code (All-head (λ code. code < length old) code codes all))
    (same_coded old new codes keeps (All-tail (λ code. code < length old) code codes all))

-- one number more
pub coded_more : (old new : List (List ℕ)) (codes : List ℕ) (code : ℕ) → Keeps old new → All (λ code. code < length old) codes → coded new (codes ++ code ∷ []) ≡ coded old codes ++ get_or new code [] ∷ []
coded_more old new codes code keeps all =
    map-append (λ code. get_or new code []) codes (code ∷ []) ∙ ap (λ (ts : List (List ℕ)). ts ++ get_or new code [] ∷ []) (same_coded old new codes keeps all)

pub within_more : (old new : List (List ℕ)) (codes : List ℕ) (code : ℕ) → Keeps old new → code < length new → All (λ code. code < length old) codes → All (λ code. code < length new) (codes ++ code ∷ [])
within_more old new codes code keeps lt all =
    All-push (λ code. code < length new) codes code (All-weaker (λ code. code < length old) (λ code. code < length new) (λ code lt. omega (arith, lt, keeps.long)) codes all) lt

pub length-coded : (entries : List (List ℕ)) (codes : List ℕ) → length (coded entries codes) ≡ length codes
length-coded entries codes = length-map codes (λ code. get_or entries code [])

pub coded_at : (entries : List (List ℕ)) (codes : List ℕ) (place code : ℕ) → place < length codes → get_or codes place 0 ≡ code → get_or (coded entries codes) place [] ≡ get_or entries code []
coded_at entries codes place code lt is = get_or-map (λ code. get_or entries code []) codes place 0 [] lt ∙ ap (λ code. get_or entries code []) is

-- one number and one value more
pub coded_so_far : (old new : List (List ℕ)) (codes : List ℕ) (code : ℕ) (values : List Lent) (i : ℕ) (value : Lent) → i < length values → value ≡ get_or values i lent.Null → length codes ≡ i
    → Keeps old new → All (λ code. code < length old) codes → Makes text_unless (get_or new code []) value → zip2 text_unless (coded old codes) (nulls_of (take i values)) ≡ map owned (take i values)
    → zip2 text_unless (coded new (codes ++ code ∷ [])) (nulls_of (take (i + 1) values)) ≡ map owned (take (i + 1) values)
coded_so_far old new codes code values i value lt there long keeps within is so_far =
    ap (λ (ts : List (List ℕ)). zip2 text_unless ts (nulls_of (take (i + 1) values))) (coded_more old new codes code keeps within)
    ∙ zipped_more text_unless (coded old codes) (get_or new code []) values i value lt there (length-coded old codes ∙ long) is so_far

-- what was written of all values are their numbers
pub codes_are : (entries : List (List ℕ)) (codes : List ℕ) (values : List Lent) (i : ℕ) → length values ≤ i → i ≤ length values → length codes ≡ i
    → NothingWhere 0 (nulls_of (take i values)) codes → All (λ code. code < length entries) codes → (known : List (List ℕ)) → IsFirstText known values → entries ≡ fold with_text known (map owned (take i values))
    → zip2 text_unless (coded entries codes) (nulls_of (take i values)) ≡ map owned (take i values) → AreCodesOf entries codes values
codes_are entries codes values i all few long clear within known first met same =
    let whole : take i values ≡ values = take_all i values all in
    record {
      are = record {
        long = omega (arith, length-nulls_of values, long, all, few);
        clear = subst (λ (vs : List Lent). NothingWhere 0 (nulls_of vs) codes) whole clear;
        known = within;
      };
      different = met ∙ ap (λ (vs : List Lent). fold with_text known (map owned vs)) whole ∙ first.same;
      same = subst (λ (vs : List Lent). zip2 text_unless (coded entries codes) (nulls_of vs) ≡ map owned vs) whole same;
    }
