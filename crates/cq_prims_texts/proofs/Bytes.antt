-- The bytes of texts that are lent, place by place.
use Rattle.std.proofs.Common.{◌≡◌, ℕ, ◌+◌, ◌<◌, ◌≤◌, Bool, false, List, [], length, get_or, sym, ap, ◌∙◌, arith}
use Rattle.std.proofs.lemmas.List.{length-map}
use Rattle.std.proofs.lemmas.Simd.{get_or-zip2, length-zip2}
use lib.ListN.{get_or-map}
use Rattle.cq_values.specs.declared.value.Value.TheVariants.{Null}
use Rattle.cq_values.specs.Order.{bytes}
use Rattle.cq_vectors_stored.specs.Columns.{text_unless}
use Rattle.cq_vectors_stored.specs.LentColumns.{entries_at, entry_unless, part_of, texts_from}
use Rattle.cq_vectors_stored.proofs.LentLemmas.{length-part_of, part_of-at}
use Rattle.cq_prims_texts.specs.Bytes.{entry_bytes, run_bytes}

module _ (texts : List (List ℕ)) (start : ℕ) (flags : List Bool) (there : start + length flags ≤ length texts) where
  long : length (part_of texts start (length flags)) ≡ length flags
  long = length-part_of texts start (length flags) there

  pub length-run_bytes : length (run_bytes texts start flags) ≡ length flags
  length-run_bytes = length-map (texts_from texts start flags) bytes ∙ length-zip2 text_unless (part_of texts start (length flags)) flags long ∙ long

  -- a place has the bytes of its text, and none where NULL stands
  pub run_bytes-at : (i : ℕ) → i < length flags → get_or (run_bytes texts start flags) i [] ≡ bytes (text_unless (get_or texts (start + i) []) (get_or flags i false))
  run_bytes-at i lt =
      get_or-map bytes (texts_from texts start flags) i Null
      ∙ ap bytes (get_or-zip2 text_unless (part_of texts start (length flags)) flags i [] false Null (omega (arith, lt, long)) lt)
      ∙ ap (λ (t : List ℕ). bytes (text_unless t (get_or flags i false))) (part_of-at texts start (length flags) i there lt)

module _ (entries : List (List ℕ)) (codes : List ℕ) (flags : List Bool) (long : length flags ≡ length codes) where
  pub length-entry_bytes : length (entry_bytes entries codes flags) ≡ length codes
  length-entry_bytes = length-map (entries_at entries codes flags) bytes ∙ length-zip2 (entry_unless entries) codes flags (sym long)

  -- a place has the bytes of the entry that its code names, and none where NULL stands
  pub entry_bytes-at : (i : ℕ) → i < length codes → get_or (entry_bytes entries codes flags) i [] ≡ bytes (entry_unless entries (get_or codes i 0) (get_or flags i false))
  entry_bytes-at i lt =
      get_or-map bytes (entries_at entries codes flags) i Null
      ∙ ap bytes (get_or-zip2 (entry_unless entries) codes flags i 0 false Null lt (omega (arith, lt, long)))

  -- each of their places has a code, and is what the flag there makes of it
  pub code_there : (i : ℕ) → i < length (entry_bytes entries codes flags) → i < length codes
  code_there i inside = omega (arith, inside, length-entry_bytes)

  pub flagged-at : (i : ℕ) → i < length (entry_bytes entries codes flags) → (flag : Bool) → flag ≡ get_or flags i false → bytes (entry_unless entries (get_or codes i 0) flag) ≡ get_or (entry_bytes entries codes flags) i []
  flagged-at i inside flag is = ap (λ (b : Bool). bytes (entry_unless entries (get_or codes i 0) b)) is ∙ sym (entry_bytes-at i (code_there i inside))
