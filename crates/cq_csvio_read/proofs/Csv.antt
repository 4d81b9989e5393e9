-- Which records the reader of `csv` has left after it took one.
use Rattle.std.proofs.Common.{◌≡◌, ◌==◌, ◌||◌, ◌++◌, ◌∷◌, ◌∙◌, ◌+◌, ◌<◌, ◌≤◌, [], ℕ, zero, suc, List, Bool, Option, Some, None, length, refl, sym, ap, inl, inr, true, false, arith, unwrap_or}
use Rattle.std.proofs.lemmas.Bool.{cases_Bool}
use Rattle.std.specs.Prelude.{if◌then◌else◌}
use Rattle.csv.specs.Machine.{Read, ends_at_end, field_after, fields_after, in_field, is_end, next_record, start_field, start_record, step}
use Rattle.std.specs.Borrow.{Bor}
use Rattle.csv.specs.Reading.{NextIs, ReadRecord, ReadsNext, default_config, is_flexible, reader_state, records_from, took_first}
use Rattle.csv.specs.declared.parser.State.{State}
use Rattle.csv.specs.declared.parser.State.TheVariants as st
use Rattle.csv.specs.declared.parser.Action.{Action}
use Rattle.cq_csvio_read.specs.Records.{FileReader, IsReading, Takes, records_in, records_left, source}

-- after the byte that ends a record the next has not begun
abbrev IsBetween : State × Action → Type 0
IsBetween p = is_end p.1 ≡ true → ends_at_end p.0 ≡ false

either : (b : Bool) (p q : State × Action) → IsBetween p → IsBetween q → IsBetween (if b then p else q)
either true p q here there = here
either false p q here there = there

after_line : (b : Bool) → ends_at_end (if b then st.AfterCr else st.StartRecord) ≡ false
after_line true = refl
after_line false = refl

field_between : (c : ℕ) → IsBetween (in_field default_config c)
field_between c = either (c == 44) _ _ (λ e. absurd (cc e)) (either ((c == 13) || (c == 10)) _ _ (λ e. after_line (c == 13)) (λ e. absurd (cc e)))

start_between : (c : ℕ) → IsBetween (start_field default_config c)
start_between c = either (c == 34) _ _ (λ e. absurd (cc e)) (field_between c)

record_between : (c : ℕ) → IsBetween (start_record default_config c)
record_between c = either ((c == 13) || (c == 10)) _ _ (λ e. absurd (cc e)) (start_between c)

between : (s : State) (c : ℕ) → IsBetween (step default_config s c)
between st.StartRecord c = record_between c
between st.StartField c = start_between c
between st.InField c = field_between c
between st.InQuoted c = either (c == 34) _ _ (λ e. absurd (cc e)) (λ e. absurd (cc e))
between st.InEscape c = λ e. absurd (cc e)
between st.AfterQuote c = either (c == 34) _ _ (λ e. absurd (cc e)) (field_between c)
between st.InComment c = either (c == 10) _ _ (λ e. absurd (cc e)) (λ e. absurd (cc e))
between st.AfterCr c = either (c == 10) _ _ (λ e. absurd (cc e)) (record_between c)

same_read : (p q : Read) → Some p ≡ Some q → p ≡ q
same_read p q e = cc e

-- where the text ends, a record that has begun ends too
at_end : (b : Bool) (fields : List (List ℕ)) (p : Read) → (if b then Some (fields, st.StartRecord, []) else None) ≡ Some p → (ends_at_end p.1 ≡ false) × (length p.2 ≡ 0)
at_end true fields p e =
    let same = sym (same_read (fields, st.StartRecord, []) p e) in
    (ap (λ (q : Read). ends_at_end q.1) same, ap (λ (q : Read). length q.2) same)
at_end false fields p e = absurd (cc e)

-- a record that was read has ended, and no bytes came behind it
read_between : (s : State) (fields : List (List ℕ)) (field xs : List ℕ) (p : Read)
    → next_record default_config s fields field xs ≡ Some p → (ends_at_end p.1 ≡ false) × (length p.2 ≤ length xs)
unfolding next_record
read_between s fields field [] p e =
    let end = at_end (ends_at_end s) (fields ++ (field ∷ [])) p e in
    (end.0, omega (arith, end.1))
read_between s fields field (c ∷ rest) p e = elim (cases_Bool (is_end (step default_config s c).1)) [
  | inl ends ↦
      let same = sym (same_read _ p (rw ends at e)) in
      (ap (λ (q : Read). ends_at_end q.1) same ∙ between s c ends, let size : length p.2 ≡ length rest = ap (λ (q : Read). length q.2) same in omega (arith, size))
  | inr goes ↦
      let more = read_between (step default_config s c).0 (fields_after (step default_config s c).1 fields field) (field_after (step default_config s c).1 c field) rest p (rw goes at e) in
      (more.0, omega (arith, more.1))
]

-- a record takes at least one byte
read_shorter : (s : State) (xs : List ℕ) (p : Read) → ends_at_end s ≡ false → next_record default_config s [] [] xs ≡ Some p → length p.2 < length xs
unfolding next_record
read_shorter s [] p idle e = absurd (cc (rw idle at e))
read_shorter s (c ∷ rest) p idle e = elim (cases_Bool (is_end (step default_config s c).1)) [
  | inl ends ↦ let size : length p.2 ≡ length rest = ap (λ (q : Read). length q.2) (sym (same_read _ p (rw ends at e))) in omega (arith, size)
  | inr goes ↦ let more = read_between (step default_config s c).0 (fields_after (step default_config s c).1 [] []) (field_after (step default_config s c).1 c []) rest p (rw goes at e) in omega (arith, more.1)
]

-- so as many records are enough as there are bytes, and one more
enough : (n m : ℕ) (s : State) (xs : List ℕ) → length xs < n → length xs < m → ends_at_end s ≡ false → records_from default_config n s xs ≡ records_from default_config m s xs
unfolding records_from
enough zero m s xs few less idle = absurd (omega (arith, few))
enough (suc n) zero s xs few less idle = absurd (omega (arith, less))
enough (suc n) (suc m) s xs few less idle =
    by_read (next_record default_config s [] [] xs) refl (λ (p : Read) e. let size = read_shorter s xs p idle e in enough n m p.1 p.2 (omega (arith, few, size)) (omega (arith, less, size)) (read_between s [] [] xs p e).0)
  where
    by_read : (o : Option Read) → next_record default_config s [] [] xs ≡ o
        → ((p : Read) → next_record default_config s [] [] xs ≡ Some p → records_from default_config n p.1 p.2 ≡ records_from default_config m p.1 p.2)
        → records_from default_config (suc n) s xs ≡ records_from default_config (suc m) s xs
    by_read None e later = rw e refl
    by_read (Some p) e later = rw e (ap (λ (rest : List (List (List ℕ))). p.0 ∷ rest) (later p e))

first_read : (n : ℕ) (s : State) (xs : List ℕ) (p : Read) → next_record default_config s [] [] xs ≡ Some p → records_from default_config (suc n) s xs ≡ p.0 ∷ records_from default_config n p.1 p.2
unfolding records_from
first_read n s xs p e = rw e refl

none_read : (n : ℕ) (s : State) (xs : List ℕ) → next_record default_config s [] [] xs ≡ None → records_from default_config (suc n) s xs ≡ []
unfolding records_from
none_read n s xs e = rw e refl

-- the records of a text are the first, and then those of the rest
pub records_more : (n : ℕ) (s : State) (xs : List ℕ) (p : Read) → length xs < n → ends_at_end s ≡ false → next_record default_config s [] [] xs ≡ Some p
    → records_from default_config n s xs ≡ p.0 ∷ records_in p.1 p.2
records_more zero s xs p few idle e = absurd (omega (arith, few))
records_more (suc n) s xs p few idle e =
    let size = read_shorter s xs p idle e in
    first_read n s xs p e
    ∙ ap (λ (rest : List (List (List ℕ))). p.0 ∷ rest) (enough n (length p.2 + 1) p.1 p.2 (omega (arith, few, size)) (omega arith) (read_between s [] [] xs p e).0)

-- a text has no records where none is next
pub records_none : (n : ℕ) (s : State) (xs : List ℕ) → next_record default_config s [] [] xs ≡ None → records_from default_config n s xs ≡ []
unfolding records_from
records_none zero s xs e = refl
records_none (suc n) s xs e = none_read n s xs e

-- a read of `csv` that finds a record
took : (s t : State) (xs : List ℕ) (fields : List (List ℕ)) (k : Option (List ℕ)) → ends_at_end s ≡ false → ReadsNext default_config s (Some xs) k true fields t
    → (ys : List ℕ) × (k ≡ Some ys) × (ends_at_end t ≡ false)
    × (records_in s xs ≡ fields ∷ records_in t ys)
took s t xs fields None idle r = absurd r
took s t xs fields (Some ys) idle r = by_read (next_record default_config s [] [] xs) refl r
  where
    by_read : (o : Option Read) → next_record default_config s [] [] xs ≡ o → NextIs o true fields t ys
        → (zs : List ℕ) × (Some ys ≡ Some zs) × (ends_at_end t ≡ false)
        × (records_in s xs ≡ fields ∷ records_in t zs)
    by_read None e n = absurd (cc n)
    by_read (Some p) e n =
        (ys, refl, rw n.2 (read_between s [] [] xs p e).0, rw (n.1, n.2, n.3) (records_more (length xs + 1) s xs p (omega arith) idle e))

-- a read that finds none
took_none : (s t : State) (xs : List ℕ) (fields : List (List ℕ)) (k : Option (List ℕ)) → ReadsNext default_config s (Some xs) k false fields t
    → records_in s xs ≡ []
took_none s t xs fields None r = absurd r
took_none s t xs fields (Some ys) r = by_read (next_record default_config s [] [] xs) refl r
  where
    by_read : (o : Option Read) → next_record default_config s [] [] xs ≡ o → NextIs o false fields t ys → records_in s xs ≡ []
    by_read None e n = records_none (length xs + 1) s xs e
    by_read (Some p) e n = absurd (cc n.0)

-- what a reader has left is what its bytes hold
left_of : (reader : FileReader) (xs : List ℕ) → source reader ≡ Some xs → records_left reader ≡ records_in (reader_state reader) xs
left_of reader xs e = ap (λ (o : Option (List ℕ)). records_in (reader_state reader) (unwrap_or o [])) e

-- a read of a file's reader
pub takes : (old new : FileReader) (found : Bool) (fields : List (List ℕ)) → IsReading old → ReadRecord (λ (bytes : Bor (List ℕ)). Some bytes.now) old new found fields
    → took_first new ≡ true → is_flexible new ≡ is_flexible old → Takes old new found fields
takes old new true fields reading r first same =
    let t = took old.state new.state reading.4.0 fields _ reading.3 (rw (reading.2, reading.4.1) at r.0) in
    let rest : source new ≡ Some t.0 = rw r.1 t.1 in
    let here : records_left old ≡ records_in old.state reading.4.0 = left_of old reading.4.0 reading.4.1 in
    let more : records_left new ≡ records_in new.state t.0 = left_of new t.0 rest in
    ((r.3 ∙ reading.0, inl first, r.2 ∙ reading.2, t.2, (t.0, rest, same ∙ reading.4.2)), step (records_left old) (records_in old.state reading.4.0) (records_in new.state t.0) (records_left new) fields here t.3 more)
  where
    step : (a b c d : List (List (List ℕ))) (f : List (List ℕ)) → a ≡ b → b ≡ f ∷ c → d ≡ c → a ≡ f ∷ d
    step a b c d f e g h = e ∙ g ∙ rw h refl
takes old new false fields reading r first same =
    left_of old reading.4.0 reading.4.1 ∙ took_none old.state new.state reading.4.0 fields _ (rw (reading.2, reading.4.1) at r.0)
