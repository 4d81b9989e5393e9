-- Texts of a whole column by codes that are copied at some places.
use Rattle.std.proofs.Common.{◌≡◌, ◌<◌, ◌∙◌, ℕ, Bool, List, [], length, get_or, refl, sym, ap, subst}
use Rattle.std.specs.Simd.Lanes.{zip2}
use Rattle.cq_values.specs.declared.value.Value.{Value}
use Rattle.cq_encodings.specs.Dict as dict
use Rattle.cq_encodings_plain.specs.Nulls.{NothingWhere}
use Rattle.cq_vectors_stored.specs.Columns.{text_unless}
use Rattle.cq_vectors_stored.specs.LentColumns.{AreCodes, entries_at, entry_unless}
use Rattle.cq_encodings_vectors.specs.Places.{AreBelow, flags_at, items_at, values_at}
use Rattle.cq_encodings_vectors.proofs.CopiedAt.{copied-clear, copied-made}
use Rattle.cq_encodings_vectors.proofs.OffsetsAt.{known-at}
use Rattle.cq_encodings_vectors.proofs.PartsLemmas.{length-made, zip2-made}

module _ (entries : List (List ℕ)) (all : List ℕ) (nulls : List Bool) (are : dict.AreCodes entries all nulls) (values : List Value)
    (whole : values ≡ zip2 text_unless (dict.coded entries all) nulls) (places : List ℕ) (below : AreBelow (length values) places) {codes : List ℕ} (lent : codes ≡ all) where
  -- the places are those of codes
  pub codes-below : AreBelow (length codes) places
  codes-below =
      subst (λ (n : ℕ). AreBelow n places)
      (ap length whole ∙ length-made text_unless (λ code. get_or entries code []) all nulls are.long ∙ sym (ap length lent)) below

  clear : NothingWhere 0 nulls codes
  clear = subst (NothingWhere 0 nulls) (sym lent) are.clear

  module _ {xs : List ℕ} {flags : List Bool} (copied : xs ≡ items_at codes places 0) (shown : flags ≡ flags_at nulls places) where
    pub codes-clear : NothingWhere 0 flags xs
    codes-clear = copied-clear 0 codes nulls places clear copied shown

    -- each is that of an entry
    pub codes-known : AreCodes entries xs
    codes-known =
        subst (AreCodes entries) (sym copied)
        (known-at (λ (code : ℕ). code < length entries) codes places (subst (AreCodes entries) (sym lent) are.known) codes-below)

    -- and they make the texts at the places
    pub codes-made : entries_at entries xs flags ≡ values_at values places
    codes-made =
        copied-made 0 codes nulls places clear copied shown (entry_unless entries) (λ x y. refl) (are.long ∙ sym (ap length lent)) codes-below
        ∙ ap (λ os. values_at (zip2 (entry_unless entries) os nulls) places) lent
        ∙ ap (λ vs. values_at vs places) (sym (whole ∙ zip2-made text_unless (λ code. get_or entries code []) all nulls))
