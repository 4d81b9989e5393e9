-- What `csv`'s writer writes is the text of a line.
use Rattle.std.proofs.Common.{◌≡◌, ◌≢◌, ◌==◌, ◌||◌, ◌∙◌, ◌++◌, ◌+◌, ◌-◌, ◌^◌, ◌<◌, ◌∷◌, [], ℕ, List, Bool, true, false, not, refl, sym, ap, length, append_assoc, length-append, arith}
use Rattle.std.proofs.lemmas.Bool.{eqb-true, ne_eqb}
use Rattle.std.proofs.lemmas.List.{append-nil}
use Rattle.std.specs.Prelude.{if◌then◌else◌, min, Vec}
use Rattle.std.specs.Global.{Global}
use Rattle.std.specs.List.{flat_map, list_any}
use Rattle.csv.specs.Writing as csv
use Rattle.csv.specs.declared.writer.Writer.{Writer}
use Rattle.csv.specs.declared.writer.QuoteStyle.TheVariants as style
use Rattle.csv.proofs.WriteFacts.{blank-more, row-more}
use Rattle.cq_values.specs.Printed.{field_text, in_quotes, line_text, wants_quotes}
use Rattle.cq_csvio.specs.Lines.{Holds, setup}

four : (p q r s : Bool) → (p || q || (r || s) || false || false) ≡ (p || q || r || s)
four true q r s = refl
four false true r s = refl
four false false true s = refl
four false false false true = refl
four false false false false = refl

-- `csv` sets the same bytes apart
same_byte : (b : ℕ) → csv.needs_byte setup b ≡ wants_quotes b
same_byte b = four (b == 44) (b == 34) (b == 13) (b == 10)

same_wants : (field : List ℕ) → csv.needs_quotes setup field ≡ list_any wants_quotes field
same_wants [] = refl
same_wants (b ∷ field) = rw (same_byte b, same_wants field) refl

-- a byte between quotes, and what follows it
inside_one : (b : ℕ) (rest : List ℕ) (t : Bool) → (b == 34) ≡ t
    → (if t then 34 ∷ b ∷ rest else b ∷ rest) ≡ (if t then 34 ∷ 34 ∷ [] else b ∷ []) ++ rest
inside_one b rest true is = rw (eqb-true b 34 is) refl
inside_one b rest false is = refl

-- `csv` doubles the same bytes
same_inside : (field : List ℕ) → csv.escaped setup field ≡ flat_map (λ b. if b == 34 then 34 ∷ 34 ∷ [] else b ∷ []) field
unfolding csv.escaped
same_inside [] = refl
same_inside (b ∷ field) = rw (same_inside field) (inside_one b _ (b == 34) refl)

same_field : (field : List ℕ) → csv.field_text setup field ≡ field_text field
same_field field = rw (same_wants field, same_inside field) refl

same_rest : (fields : List (List ℕ)) → csv.fields_text setup fields ≡ flat_map (λ h. 44 ∷ field_text h) fields
unfolding csv.fields_text
same_rest [] = refl
same_rest (f ∷ fields) = rw (same_field f, same_rest fields) refl

-- a text that is shown has no quotes behind it
shown : (text : List ℕ) (n : ℕ) → (length text ≡ 0 → ⊥) → (n ≡ 0 → ⊥)
    → text ++ ((if length text == 0 then 34 ∷ 34 ∷ [] else []) ++ 10 ∷ []) ≡ (if n == 0 then 34 ∷ 34 ∷ [] else text) ++ 10 ∷ []
shown text n some more =
    let here : (length text == 0) ≡ false = ne_eqb (length text) 0 some in
    let there : (n == 0) ≡ false = ne_eqb n 0 more in
    rw (here, there) refl

-- a field alone is empty just where nothing is written for it
alone : (f : List ℕ) (t : Bool) → list_any wants_quotes f ≡ t
    → (if t then in_quotes f else f) ++ ((if length (if t then in_quotes f else f) == 0 then 34 ∷ 34 ∷ [] else []) ++ 10 ∷ [])
    ≡ (if length f == 0 then 34 ∷ 34 ∷ [] else if t then in_quotes f else f) ++ 10 ∷ []
alone [] true is = absurd (cc is)
alone [] false is = refl
alone (b ∷ f) true is = shown (in_quotes (b ∷ f)) (length (b ∷ f)) (λ e. cc e) (λ e. cc e)
alone (b ∷ f) false is = shown (b ∷ f) (length (b ∷ f)) (λ e. cc e) (λ e. cc e)

pub same_line : (fields : List (List ℕ)) → csv.row_text setup fields ≡ line_text fields
unfolding csv.fields_text csv.is_blank line_text
same_line [] = refl
same_line (f ∷ []) = rw (same_field f, append-nil (field_text f)) (alone f (list_any wants_quotes f) refl)
same_line (f ∷ g ∷ fields) = rw (same_field f, same_rest (g ∷ fields)) refl

-- a field that the writer took stands in the line
pub adds : (field : List ℕ) (old new : Writer (Vec ℕ Global))
    → ((csv.writer_setup old).style ≢ style.NonNumeric
    → (csv.writer_under new).items ++ csv.writer_pending new
    ≡ ((csv.writer_under old).items ++ csv.writer_pending old)
    ++ (csv.next_sep (csv.writer_setup old) (csv.fields_written old) ++ csv.field_text (csv.writer_setup old) field))
    → csv.writer_setup new ≡ csv.writer_setup old
    → csv.fields_written new ≡ min (csv.fields_written old + 1) (2 ^ 64 - 1)
    → (csv.has_written old ≡ false → (csv.writer_setup old).style ≢ style.NonNumeric
    → csv.has_written new ≡ not (length (csv.field_text (csv.writer_setup old) field) == 0))
    → (csv.has_written old ≡ true → csv.has_written new ≡ true)
    → (text : List ℕ) (fields : List (List ℕ)) → Holds old text fields → length fields + 1 < 2 ^ 64 → Holds new text (fields ++ field ∷ [])
adds field old new bytes same count wrote stays text fields (is, stands, many, blank) few =
    let plain : (csv.writer_setup old).style ≢ style.NonNumeric = rw is (λ e. cc e) in
    let size = length-append fields (field ∷ []) in (
      same ∙ is,
      rw (is, many, stands) at (bytes plain) ∙ append_assoc text (csv.row_body setup fields) _ ∙ ap (λ (xs : List ℕ). text ++ xs) (sym (row-more setup fields field)),
      count ∙ rw many (omega (arith, size, few)),
      rw size (blank-more setup fields field (csv.has_written old) (csv.has_written new) blank (λ no. rw is at (wrote no plain)) stays),
    )

-- a line that the writer ended is the line of its fields
pub ends : (old new : Writer (Vec ℕ Global))
    → (csv.writer_under new).items ++ csv.writer_pending new
    ≡ ((csv.writer_under old).items ++ csv.writer_pending old)
    ++ csv.tail_text (csv.writer_setup old) (csv.has_written old) (csv.fields_written old)
    → csv.fields_written new ≡ 0
    → csv.has_written new ≡ false
    → csv.writer_setup new ≡ csv.writer_setup old
    → (text : List ℕ) (fields : List (List ℕ)) → Holds old text fields → Holds new (text ++ line_text fields) []
unfolding csv.is_blank
ends old new bytes none clean same text fields (is, stands, many, blank) =
    let tail = append_assoc text (csv.row_body setup fields) (csv.tail_text setup (csv.has_written old) (length fields)) in
    let line : csv.row_body setup fields ++ csv.tail_text setup (csv.has_written old) (length fields) ≡ line_text fields = rw blank at (same_line fields) in (
      same ∙ is,
      rw (is, many, stands) at bytes ∙ tail ∙ ap (λ (xs : List ℕ). text ++ xs) line ∙ sym (append-nil (text ++ line_text fields)),
      none,
      rw clean refl,
    )
