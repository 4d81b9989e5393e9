-- Texts that fit a pattern of LIKE.
use Rattle.std.specs.Prelude.{ℕ, ◌+◌, ◌≡◌, Bool, IfSome, List, [], Option, map, slice_index_or}
use Rattle.std.specs.List.{range_with_len}
use Rattle.std.specs.Simd.Lanes.{mask_l}
use Rattle.std.specs.Str.{chars}
use Rattle.cq_model.specs.Like.{like}
use Rattle.cq_prims_like.specs.Patterns.{answers_of}
use Rattle.cq_vectors_stored.specs.Columns.{texts_of}
use Rattle.cq_prims_texts.specs.declared.fits_texts.FitsTexts.{FitsTexts}

-- whether the text of the place fits the pattern
abbrev pub fits_at : List ℕ → List (List ℕ) → ℕ → Bool
fits_at pattern texts place = like (chars pattern) (chars (slice_index_or texts place []))

-- whether the text of the place fits the pattern, where the first text has a place of its own
abbrev pub fits_behind : List ℕ → List (List ℕ) → ℕ → ℕ → Bool
fits_behind pattern texts start place = fits_at pattern texts (start + place)

-- the answers for 64 texts of a column from a place on, the first in the lowest bit
abbrev pub column_answers : FitsTexts → ℕ → ℕ
column_answers test from = answers_of test.pattern.now (texts_of test.texts.now) from

-- the answers for 64 texts of a run from a place on, the first in the lowest bit
abbrev pub run_answers : List ℕ → List (List ℕ) → ℕ → ℕ → ℕ
run_answers pattern texts start from = mask_l (map (fits_behind pattern texts start) (range_with_len from 64))

-- the word, if there is one, has the answers for 64 texts of a run
abbrev pub GivesAnswers : List ℕ → List (List ℕ) → ℕ → ℕ → Option ℕ → Type 0
GivesAnswers pattern texts start from answered = IfSome answered (λ word. word ≡ run_answers pattern texts start from)
