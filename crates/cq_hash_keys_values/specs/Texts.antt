-- The numbers of texts.
use Rattle.std.specs.Prelude.{◌≡◌, ℕ, List, Option, Some}
use Rattle.std.specs.HashMap.{get_by_text}
use Rattle.cq_hash_keys_values.specs.declared.texts.TextNumbers.{TextNumbers}

-- the number of a text
abbrev pub number_of : TextNumbers → List ℕ → Option ℕ
number_of t text = get_by_text t.numbers text

-- new has this number for a text, and that of old for each other one
pub record PutsText (old : TextNumbers) (text : List ℕ) (number : ℕ) (new : TextNumbers) : Type 0 where
  pub there : number_of new text ≡ Some number
  pub others : (other : List ℕ) → (other ≡ text → ⊥) → number_of new other ≡ number_of old other

-- the same number for each text
abbrev pub AgreeOn : TextNumbers → TextNumbers → Type 0
AgreeOn old new = (text : List ℕ) → number_of new text ≡ number_of old text
