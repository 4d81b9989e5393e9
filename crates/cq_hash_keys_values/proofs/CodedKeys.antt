-- Numbers of entries that are noted while texts are read by their codes.
use Rattle.std.proofs.Common.{◌≡◌, ℕ, zero, suc, ap₂, map, take, replicate, ◌+◌, ◌-◌, ◌<◌, ◌≤◌, Bool, true, false, true≢false, cond, List, [], ◌∷◌, set, length, get_or, nat_eq, Some, None, refl, sym, ◌∙◌, ap, subst, arith}
use lib.Lanes.{zip2}
use Rattle.std.proofs.lemmas.Bool.{cases_lt, eq-eqb}
use Rattle.std.proofs.lemmas.List.{get_or-set_other, get_or-set_same, length-map, take_all}
use Rattle.std.proofs.lemmas.Simd.{get_or-zip2, length-zip2}
use Rattle.indexmap.specs.IndexSet.{insert_key}
use Rattle.cq_values.specs.declared.value.Value.{Value}
use Rattle.cq_values.specs.declared.value.Value.TheVariants.{Null}
use Rattle.cq_model.specs.Condition.{is_null}
use Rattle.cq_vectors_stored.specs.LentColumns.{entries_at, entry_unless}
use Rattle.cq_model_bags.proofs.Totals.{by_test}
use Rattle.cq_hash_keys_values.specs.Coded.{AreNoted, IsNotedRun, noted_in, slot_for, slot_value}
use Rattle.cq_hash_keys_values.specs.Met.{AreNumbersOf, IsNumberIn, IsToldTo, with_new}
use Rattle.cq_hash_keys_values.specs.Values.{same_value}
use Rattle.cq_hash_keys_values.proofs.Choices.{by-sum}
use Rattle.cq_hash_keys_values.proofs.Runs.{all-are_told, one-and-known, still-number}
use Rattle.cq_hash_keys_values.proofs.ValueKeys.{value-itself, value-same}

-- before, at or behind a place
pub by-place : {P : Type 0} (k at : ℕ) → ((k ≡ at → ⊥) → P) → (k ≡ at → P) → P
by-place k at other here = by-sum (cases_lt k at)
    (λ before. other (λ e. omega (arith, e, before)))
    (λ past. by-sum (cases_lt at k) (λ behind. other (λ e. omega (arith, e, behind))) (λ within. here (omega (arith, past, within))))

zeros : (n k none : ℕ) → none ≡ 0 → get_or (replicate n none) k none ≡ 0
zeros zero k none is = is
zeros (suc n) zero none is = is
zeros (suc n) (suc k) none is = zeros n k none is

-- a slot that tells a number has one more than it
noted-some : (slots : List ℕ) (slot n : ℕ) → noted_in slots slot ≡ Some n → (get_or slots slot 0 ≡ 0 → ⊥) × (get_or slots slot 0 - 1 ≡ n)
noted-some slots slot n is = by_test (nat_eq (get_or slots slot 0) 0)
    (λ s. let none : None ≡ Some n = rw s at is in absurd (cc none))
    (λ s. let some : Some (get_or slots slot 0 - 1) ≡ Some n = rw s at is in ((λ z. true≢false (sym (eq-eqb (get_or slots slot 0) 0 z) ∙ s)), cc some))

-- where no flag is set each slot stands behind its code
pub slots-clear : (codes : List ℕ) (flags : List Bool) → length flags ≡ length codes → ((k : ℕ) → get_or flags k false ≡ false) → zip2 slot_for codes flags ≡ map (λ (code : ℕ). code + 1) codes
slots-clear [] flags same clear = refl
slots-clear (code ∷ codes) [] same clear = absurd (omega arith)
slots-clear (code ∷ codes) (true ∷ flags) same clear = absurd (cc (clear 0))
slots-clear (code ∷ codes) (false ∷ flags) same clear = ap (λ (slots : List ℕ). (code + 1) ∷ slots) (slots-clear codes flags (omega arith) (λ k. clear (suc k)))

module _ (entries : List (List ℕ)) where
  entry-slot : (code : ℕ) (flag : Bool) → entry_unless entries code flag ≡ slot_value entries (cond flag 0 (code + 1))
  entry-slot code true = refl
  entry-slot code false = let e : suc code ≡ code + 1 = omega arith in ap (slot_value entries) e

  -- the slot of a place has its value
  pub slot-at : (codes : List ℕ) (flags : List Bool) (i : ℕ) → i < length codes → length flags ≡ length codes
      → slot_value entries (cond (get_or flags i false) 0 (get_or codes i 0 + 1)) ≡ get_or (entries_at entries codes flags) i Null
  slot-at codes flags i lt same =
      sym (get_or-zip2 (entry_unless entries) codes flags i 0 false Null lt (omega (arith, lt, same)) ∙ entry-slot (get_or codes i 0) (get_or flags i false))

  -- what is noted stays so as a value is put in
  pub noted-more : (old new : List Value) (v : Value) (slots : List ℕ) → new ≡ insert_key same_value old v → AreNoted entries old slots → AreNoted entries new slots
  noted-more old new v slots made noted k some = still-number same_value Null value-same value-itself old new (slot_value entries k) v (get_or slots k 0 - 1) made (noted k some)

  -- one number more is noted
  pub noted-at : (met : List Value) (slots : List ℕ) (slot n : ℕ) → slot < length slots → IsNumberIn Null met (slot_value entries slot) n → AreNoted entries met slots → AreNoted entries met (set slots slot (n + 1))
  noted-at met slots slot n lt is noted k some = by-place k slot
      (λ apart.
      let e : get_or (set slots slot (n + 1)) k 0 ≡ get_or slots k 0 = get_or-set_other slots slot k (n + 1) 0 (λ e. apart (omega (arith, e))) in
      subst (λ (m : ℕ). IsNumberIn Null met (slot_value entries k) (m - 1)) (sym e) (noted k (λ z. some (e ∙ z))))
      (λ here.
      let e : get_or (set slots slot (n + 1)) k 0 - 1 ≡ n = ap (λ (j : ℕ). get_or (set slots slot (n + 1)) j 0 - 1) here ∙ ap (λ (m : ℕ). m - 1) (get_or-set_same slots slot (n + 1) 0 lt) ∙ omega arith in
      subst (IsNumberIn Null met (slot_value entries k)) (sym e) (subst (λ (j : ℕ). IsNumberIn Null met (slot_value entries j) n) (sym here) is))

  -- nothing is noted in slots of 0
  pub none-noted : (met : List Value) (n : ℕ) → AreNoted entries met (replicate n 0)
  none-noted met n k some = absurd (some (zeros n k 0 refl))

  -- and the slot that is read of a place has its value
  pub read-slot : (texts : List Value) (codes : List ℕ) (i slot code : ℕ) (flag : Bool) → texts ≡ entries_at entries codes (map is_null texts) → length codes ≡ length texts → i < length texts
      → flag ≡ get_or (map is_null texts) i false → code ≡ get_or codes i 0 → slot ≡ cond flag 0 (code + 1) → slot_value entries slot ≡ get_or texts i Null
  read-slot texts codes i slot code flag whole long lt is_flag is_code is_slot =
      ap (slot_value entries) (is_slot ∙ ap₂ (λ (b : Bool) (n : ℕ). cond b 0 (n + 1)) is_flag is_code)
      ∙ slot-at codes (map is_null texts) i (omega (arith, lt, long)) (length-map texts is_null ∙ sym long)
      ∙ ap (λ (vs : List Value). get_or vs i Null) (sym whole)

  -- what a run of slots tells are the numbers of the texts
  pub noted-told : (met : List Value) (slots codes : List ℕ) (flags : List Bool) (from upto : ℕ) (old new : List ℕ) → length flags ≡ length codes → upto ≤ length codes → AreNoted entries met slots
      → IsNotedRun slots codes flags from upto old new → (i : ℕ) → from ≤ i → i < upto → IsNumberIn Null met (get_or (entries_at entries codes flags) i Null) (get_or new i 0)
  noted-told met slots codes flags from upto old new same end noted run i above below =
      let lt : i < length codes = omega (arith, below, end) in
      let slot : ℕ = slot_for (get_or codes i 0) (get_or flags i false) in
      let is_slot : get_or (zip2 slot_for codes flags) i 0 ≡ slot = get_or-zip2 slot_for codes flags i 0 false 0 lt (omega (arith, lt, same)) in
      let has = noted-some slots slot (get_or new i 0) (ap (noted_in slots) (sym is_slot) ∙ run.found i above below) in
      subst (λ (v : Value). IsNumberIn Null met v (get_or new i 0)) (slot-at codes flags i lt same)
      (subst (IsNumberIn Null met (slot_value entries slot)) has.1 (noted slot has.0))

  -- a text that may be new, and then those of a run of slots
  pub coded-next : (start old new : List Value) (slots codes : List ℕ) (flags : List Bool) (i upto slot n : ℕ) (numbers last : List ℕ) → i < length codes → length flags ≡ length codes → length numbers ≡ length codes
      → slot ≡ slot_for (get_or codes i 0) (get_or flags i false) → old ≡ with_new same_value start (take i (entries_at entries codes flags)) → IsToldTo Null old (entries_at entries codes flags) i numbers
      → new ≡ insert_key same_value old (slot_value entries slot) → IsNumberIn Null new (slot_value entries slot) n → AreNoted entries new slots → i + 1 ≤ upto → upto ≤ length codes → IsNotedRun slots codes flags (i + 1) upto (set numbers i n) last
      → (new ≡ with_new same_value start (take upto (entries_at entries codes flags))) × (IsToldTo Null new (entries_at entries codes flags) upto last × (length last ≡ length codes))
  coded-next start old new slots codes flags i upto slot n numbers last lt same as_many slot_is met told made number noted from end run =
      let long : length (entries_at entries codes flags) ≡ length codes = length-zip2 (entry_unless entries) codes flags (sym same) in
      let is : slot_value entries slot ≡ get_or (entries_at entries codes flags) i Null = ap (slot_value entries) slot_is ∙ slot-at codes flags i lt same in
      let r = one-and-known same_value Null value-same value-itself start old new (entries_at entries codes flags) i upto numbers (set numbers i n) last (slot_value entries slot) n (omega (arith, lt, long)) is (as_many ∙ sym long) met told made number refl from
      (omega (arith, end, long)) run.same run.kept (noted-told new slots codes flags (i + 1) upto (set numbers i n) last same end noted run) in
      (r.0, (r.1.0, r.1.1 ∙ long))

  -- at the end all texts are told
  pub coded-end : (start met : List Value) (codes : List ℕ) (flags : List Bool) (upto : ℕ) (numbers : List ℕ) → length flags ≡ length codes → length numbers ≡ length codes → upto ≡ length codes
      → met ≡ with_new same_value start (take upto (entries_at entries codes flags)) → IsToldTo Null met (entries_at entries codes flags) upto numbers
      → (met ≡ with_new same_value start (entries_at entries codes flags)) × AreNumbersOf Null met (entries_at entries codes flags) numbers
  coded-end start met codes flags upto numbers same as_many end made told =
      let long : length (entries_at entries codes flags) ≡ length codes = length-zip2 (entry_unless entries) codes flags (sym same) in
      (made ∙ ap (λ (vs : List Value). with_new same_value start vs) (take_all upto (entries_at entries codes flags) (omega (arith, end, long))), all-are_told Null met (entries_at entries codes flags) upto numbers (as_many ∙ sym long) (end ∙ sym long) told)
