-- What is found of texts, as one more is put in.
use Rattle.std.proofs.Common.{◌≡◌, ℕ, ℤ, false, List, [], ◌∷◌, refl, sym, ◌∙◌, ap}
use Rattle.std.specs.Map.{lookup}
use Rattle.std.specs.Str.{bytes_eq}
use Rattle.std.proofs.lemmas.Slice.Eq.{bytes_eq-Decides}
use Rattle.indexmap.specs.IndexMap.{insert_entry}
use Rattle.cq_values.specs.declared.value.Value.{Value}
use Rattle.cq_values.specs.declared.value.Value.TheVariants.{Null, Number, Text, Day}
use Rattle.cq_model_bags.proofs.Totals.{by_test}
use Rattle.cq_hash_keys_values.specs.declared.dictionary.Dictionary.{Dictionary}
use Rattle.cq_hash_keys_values.specs.Dictionary.{PutsAt, number_in}
use Rattle.cq_hash_keys_values.specs.Texts.{PutsText}

-- the test of texts tells two that are not one apart
pub apart-unequal : (t key : List ℕ) → (t ≡ key → ⊥) → bytes_eq t key ≡ false
apart-unequal t key apart = by_test (bytes_eq t key) (λ s. absurd (apart ((bytes_eq-Decides t key).0 s))) (λ s. s)

module _ {K : Type 0} (bytes : K → List ℕ) (key : K) (n : ℕ) where
  -- another text is found as before
  pub lookup-others : (t : List ℕ) (entries : List (K × ℕ)) → bytes_eq t (bytes key) ≡ false
      → lookup (λ k. bytes_eq t (bytes k)) (insert_entry (λ a b. bytes_eq (bytes a) (bytes b)) entries key n) ≡ lookup (λ k. bytes_eq t (bytes k)) entries
  lookup-others t [] apart = rw apart refl
  lookup-others t (e ∷ entries) apart = by_test (bytes_eq (bytes key) (bytes e.0))
      (λ s.
      let is : bytes key ≡ bytes e.0 = (bytes_eq-Decides (bytes key) (bytes e.0)).0 s in
      let here : bytes_eq t (bytes e.0) ≡ false = sym (ap (bytes_eq t) is) ∙ apart in
      rw (s, here) refl)
      (λ s. rw (s, lookup-others t entries apart) refl)

-- a text that is put in, where nothing else is another
pub puts-text : (old new : Dictionary) (key : List ℕ) (n : ℕ) → ((m : ℤ) → number_in new (Number m) ≡ number_in old (Number m)) → ((d : ℤ) → number_in new (Day d) ≡ number_in old (Day d))
    → number_in new Null ≡ number_in old Null → PutsText old.texts key n new.texts → PutsAt old (Text key) n new
puts-text old new key n numbers days null puts = record { there = puts.there; others = others }
  where
    others : (other : Value) → (other ≡ Text key → ⊥) → number_in new other ≡ number_in old other
    others (Number m) apart = numbers m
    others (Day d) apart = days d
    others Null apart = null
    others (Text t) apart = puts.others t (λ e. apart (ap Text e))
