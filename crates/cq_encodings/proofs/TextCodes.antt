-- Texts as their numbers among the different ones, none of which is NULL.
use Rattle.std.proofs.Common.{◌≡◌, ℕ, zero, suc, ◌<◌, Bool, false, Bor, List, [], ◌∷◌, ◌++◌, length, get_or, replicate, refl, sym, subst, ap, ◌∙◌, arith}
use Rattle.std.specs.List.{fold}
use Rattle.std.specs.Simd.Lanes.{zip2}
use Rattle.std.proofs.lemmas.List.{length-map, length-replicate, map-append}
use Rattle.std.proofs.lemmas.List.Sums.{fold_push}
use Rattle.cq_values.specs.declared.value.Value.{Value}
use Rattle.cq_values.specs.declared.value.Value.TheVariants.{Text}
use Rattle.cq_vectors_stored.specs.Columns.{text_unless, texts_of}
use Rattle.cq_encodings_plain.specs.Nulls.{NothingWhere}
use Rattle.cq_encodings.specs.Dict.{IsDict, coded, different_texts, with_text}
use Rattle.cq_encodings.specs.Texts.{AreTextCodes, IsFirst, text_values}
use Rattle.cq_encodings.proofs.Coded.{length-coded}
use Rattle.cq_encodings.proofs.Different.{first_met}

-- with no flag set, each text is its value
pub texts_clear : (texts : List (List ℕ)) → zip2 text_unless texts (replicate (length texts) false) ≡ text_values texts
texts_clear [] = refl
texts_clear (t ∷ texts) = ap (λ (vs : List Value). Text t ∷ vs) (texts_clear texts)

-- and nothing needs to be where one is
nothing_clear : {A : Type 0} (nothing : A) (count : ℕ) (parts : List A) → NothingWhere nothing (replicate count false) parts
nothing_clear nothing zero parts k set = absurd (cc set)
nothing_clear nothing (suc count) parts zero set = absurd (cc set)
nothing_clear nothing (suc count) [] (suc k) set = refl
nothing_clear nothing (suc count) (part ∷ parts) (suc k) set = nothing_clear nothing count parts k set

-- one text more is now known
pub known_more : (known : List (List ℕ)) (texts : List (List ℕ)) (text : List ℕ) → fold with_text known (text_values (texts ++ text ∷ [])) ≡ with_text (fold with_text known (text_values texts)) (Text text)
known_more known texts text = ap (fold with_text known) (map-append Text texts (text ∷ [])) ∙ fold_push with_text known (text_values texts) (Text text)

-- with the first text known from the start, the different ones are the same
pub first_known : (texts : List (Bor (List ℕ))) (first : Bor (List ℕ)) → 0 < length texts → first ≡ get_or texts 0 first → IsFirst (first.now ∷ []) (texts_of texts)
first_known [] first some is = absurd (omega (arith, some))
first_known (text ∷ texts) first some is =
    first_met (text_values (texts_of (text ∷ texts))) 0 (Text text.now) first.now (omega arith) refl (ap (λ (t : Bor (List ℕ)). Text t.now) (sym is)) (λ known. refl)

-- the same numbers of the same entries are those of the texts too
pub same_codes : (known entries : List (List ℕ)) (written codes : List ℕ) (texts : List (List ℕ)) → entries ≡ known → codes ≡ written → AreTextCodes known written texts → AreTextCodes entries codes texts
same_codes known entries written codes texts e f are =
    subst (λ (ks : List (List ℕ)). AreTextCodes ks codes texts) (sym e) (subst (λ (ns : List ℕ). AreTextCodes known ns texts) (sym f) are)

module _ (entries : List (List ℕ)) (codes : List ℕ) (nulls : List Bool) (texts : List (Bor (List ℕ))) (clear : nulls ≡ replicate (length texts) false) (are : AreTextCodes entries codes (texts_of texts)) where
  flags : nulls ≡ replicate (length (texts_of texts)) false
  flags = clear ∙ ap (λ (n : ℕ). replicate n false) (sym (length-map texts (λ (text : Bor (List ℕ)). text.now)))

  -- numbers of all texts make their values
  pub coded_texts : zip2 text_unless (coded entries codes) nulls ≡ text_values (texts_of texts)
  coded_texts = ap (zip2 text_unless (coded entries codes)) flags ∙ ap (λ (ts : List (List ℕ)). zip2 text_unless ts (replicate (length (texts_of texts)) false)) are.same ∙ texts_clear (texts_of texts)

  -- and are those of a dictionary
  pub text_dict : IsDict entries codes nulls
  text_dict = (
    record {
      long = ap length clear ∙ length-replicate (length texts) false ∙ sym (length-map texts (λ (text : Bor (List ℕ)). text.now))
          ∙ sym (ap length are.same) ∙ length-coded entries codes;
      clear = subst (λ (fs : List Bool). NothingWhere 0 fs codes) (sym clear) (nothing_clear 0 (length texts) codes);
      known = are.within;
    },
    are.different ∙ ap different_texts (sym coded_texts),
  )
