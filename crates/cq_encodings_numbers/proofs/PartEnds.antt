-- Parts of offsets with their ends, and the bounds of the values that these stand for.
use Rattle.std.proofs.Common.{◌≡◌, ◌∙◌, ⊎_elim, ℕ, ◌+◌, ◌-◌, ◌*◌, ◌<◌, ◌≤◌, ℤ, pos, ◌+ℤ◌, Bool, true, false, not, List, [], ◌∷◌, ◌++◌, Option, Some, None, IfSome, drop, get_or, length, max, min, take, inl, inr, refl, sym, ap, ap₂, subst, arith, Less, Equal, Greater, cond}
use Rattle.std.specs.Prelude.{int_lt}
use Rattle.std.specs.Bool.{OnFalse, OnTrue}
use Rattle.std.specs.List.{list_any}
use Rattle.std.specs.Simd.Lanes.{zip2}
use Rattle.std.specs.Ordering.{is_gt, ordering_then}
use Rattle.std.proofs.lemmas.Int.{ints}
use Rattle.std.proofs.lemmas.Bool.Decides.{leb_tells}
use Rattle.std.proofs.lemmas.List.{get_or-drop, get_or-take, get_or_append_left, get_or_at, get_or_default, get_or_past, length-append, length-drop, length-take}
use Rattle.std.proofs.lemmas.List.Elements.{All-from_recursion}
use Rattle.std.proofs.lemmas.List.Folds.{list_any_at, list_any_none}
use Rattle.cq_model_bags.proofs.Lists.{all-listed}
use Rattle.cq_model_bags.proofs.Totals.{by_test}
use Rattle.cq_values.specs.Order.{value_cmp}
use Rattle.cq_values.specs.Value.{is_null}
use Rattle.cq_values.specs.declared.value.Value.{Value}
use Rattle.cq_values.specs.declared.value.Value.TheVariants.{Null}
use Rattle.cq_encodings_plain.specs.declared.kind.Kind.{Kind}
use Rattle.cq_encodings_plain.specs.declared.kind.Kind.TheVariants.{Days, Numbers}
use Rattle.cq_encodings_numbers.specs.Bounds.{AreBounds, Ends, IsAmong, IsBounded}
use Rattle.cq_encodings_plain.specs.Kind.{IsOf, datum}
use Rattle.cq_encodings_numbers.proofs.Datums.{day_datum, number_known}
use Rattle.cq_encodings_numbers.specs.Ends.{AreClear, AreEnds, HaveEnds, IsBetween, IsPlace, IsThere, ends_above, no_ends, with_offset}
use Rattle.cq_encodings_numbers.specs.Packed.{AreOffsets, above}
use Rattle.cq_encodings_numbers.specs.declared.ends.PartEnds.{PartEnds}
use Rattle.cq_encodings_numbers.proofs.Above.{length-packed, packed_at}

-- ---- ends with one offset more

-- what holds of two numbers holds of the lesser and of the greater one
lesser : (P : ℕ → Type 0) (a b : ℕ) → P a → P b → P (min a b)
lesser P a b at_a at_b = ⊎_elim (λ h. subst P {x = a} {y = min a b} (omega (arith, h.1)) at_a) (λ h. subst P {x = b} {y = min a b} (omega (arith, h.1)) at_b) (leb_tells a b)

greater : (P : ℕ → Type 0) (a b : ℕ) → P a → P b → P (max a b)
greater P a b at_a at_b = ⊎_elim (λ h. subst P {x = b} {y = max a b} (omega (arith, h.1)) at_b) (λ h. subst P {x = a} {y = max a b} (omega (arith, h.1)) at_a) (leb_tells a b)

-- ends with an offset more have between them what was between those before
wider_still : (ends : Option (ℕ × ℕ)) (n m : ℕ) → IsBetween ends m → IsBetween (Some (with_offset ends n)) m
wider_still None n m between = absurd between
wider_still (Some e) n m between = (omega (arith, between.0), omega (arith, between.1))

-- and that offset
wider_itself : (ends : Option (ℕ × ℕ)) (n : ℕ) → IsBetween (Some (with_offset ends n)) n
wider_itself None n = (omega arith, omega arith)
wider_itself (Some e) n = (omega arith, omega arith)

-- and are there, where it is
wider_there : (P : ℕ → Type 0) (ends : Option (ℕ × ℕ)) (n : ℕ) → P n → IfSome ends (λ e. P e.0 × P e.1) → P (with_offset ends n).0 × P (with_offset ends n).1
wider_there P None n here there = (here, here)
wider_there P (Some e) n here there = (lesser P e.0 n there.0 here, greater P e.1 n there.1 here)

-- what is there by one notion is there by a weaker one
there_too : (P Q : ℕ → Type 0) → ((n : ℕ) → P n → Q n) → (ends : Option (ℕ × ℕ)) → IfSome ends (λ e. P e.0 × P e.1) → IfSome ends (λ e. Q e.0 × Q e.1)
there_too P Q weaker None there = tt
there_too P Q weaker (Some e) there = (weaker e.0 there.0, weaker e.1 there.1)

module _ (start : ℕ) (offsets : List ℕ) (nulls : List Bool) where
  -- at no place there is nothing
  pub nothing_yet : AreEnds start start offsets nulls no_ends
  nothing_yet = record {
    between = λ k at. absurd (omega (arith, at.from, at.below));
    there = tt;
    null = λ k at. absurd (omega (arith, at.from, at.below));
    some_null = λ e. absurd (cc e);
  }

  module _ (end : ℕ) where
    -- places up to another end, which is farther on or behind all offsets
    moved : (stop : ℕ) (flag : Bool) (k : ℕ) → (k < length offsets → k < stop) → IsPlace start end offsets nulls flag k → IsPlace start stop offsets nulls flag k
    moved stop flag k below at = record { from = at.from; below = below at.there; there = at.there; is = at.is }

    there_moved : (stop : ℕ) → end ≤ stop → (n : ℕ) → IsThere start end offsets nulls n → IsThere start stop offsets nulls n
    there_moved stop le n at = (at.0, moved stop false at.0 (λ lt. omega (arith, le, at.1.below)) at.1, at.2)

    -- the ends are those up to the end of the part
    pub whole_part : (stop : ℕ) (known : PartEnds) → end ≤ stop → min (length offsets) stop ≤ end → AreEnds start end offsets nulls known → AreEnds start stop offsets nulls known
    whole_part stop known le whole so_far = record {
      between = λ k at. so_far.between k (back false k at);
      there = there_too (IsThere start end offsets nulls) (IsThere start stop offsets nulls) (there_moved stop le) known.ends so_far.there;
      null = λ k at. so_far.null k (back true k at);
      some_null = λ e. let old = so_far.some_null e in (old.0, moved stop true old.0 (λ lt. omega (arith, le, old.1.below)) old.1);
    }
      where
        back : (flag : Bool) (k : ℕ) → IsPlace start stop offsets nulls flag k → IsPlace start end offsets nulls flag k
        back flag k at = record { from = at.from; below = omega (arith, whole, at.below, at.there); there = at.there; is = at.is }

    module _ (from : start ≤ end) (lt : end < length offsets) (known : PartEnds) (so_far : AreEnds start end offsets nulls known) where
      here : (flag : Bool) → get_or nulls end false ≡ flag → IsPlace start (end + 1) offsets nulls flag end
      here flag is = record { from = from; below = omega arith; there = lt; is = is }

      -- a place is one of those before, or the last one
      by_place : (P : Type 0) (flag : Bool) (k : ℕ) → IsPlace start (end + 1) offsets nulls flag k → (IsPlace start end offsets nulls flag k → P) → (k ≡ end → P) → P
      by_place P flag k at earlier last =
          ⊎_elim (λ h. last (omega (arith, at.below, h.1))) (λ h. earlier (record { from = at.from; below = omega (arith, h.1); there = at.there; is = at.is })) (leb_tells end k)

      -- the last place has one flag
      not_both : (P : Type 0) (flag other : Bool) (k : ℕ) → get_or nulls end false ≡ other → (flag ≡ other → ⊥) → IsPlace start (end + 1) offsets nulls flag k → k ≡ end → P
      not_both P flag other k is differ at same = absurd (differ (sym at.is ∙ ap (λ (i : ℕ). get_or nulls i false) same ∙ is))

      -- the ends with an offset that is not NULL's
      pub with_known : (n : ℕ) → get_or offsets end 0 ≡ n → get_or nulls end false ≡ false → AreEnds start (end + 1) offsets nulls (record { has_null = known.has_null; ends = Some (with_offset known.ends n) })
      with_known n is clear = record {
        between = λ k at.
            by_place (IsBetween (Some (with_offset known.ends n)) (get_or offsets k 0)) false k at (λ old. wider_still known.ends n (get_or offsets k 0) (so_far.between k old))
            (λ same. subst (IsBetween (Some (with_offset known.ends n))) (sym (ap (λ (i : ℕ). get_or offsets i 0) same ∙ is)) (wider_itself known.ends n));
        there = wider_there (IsThere start (end + 1) offsets nulls) known.ends n (end, here false clear, is)
            (there_too (IsThere start end offsets nulls) (IsThere start (end + 1) offsets nulls) (there_moved (end + 1) (omega arith)) known.ends so_far.there);
        null = λ k at. by_place (known.has_null ≡ true) true k at (so_far.null k) (not_both (known.has_null ≡ true) true false k clear (λ e. cc e) at);
        some_null = λ e. let old = so_far.some_null e in (old.0, moved (end + 1) true old.0 (λ lt. omega (arith, old.1.below)) old.1);
      }

      -- and with NULL
      pub with_null : get_or nulls end false ≡ true → AreEnds start (end + 1) offsets nulls (record { has_null = true; ends = known.ends })
      with_null set = record {
        between = λ k at. by_place (IsBetween known.ends (get_or offsets k 0)) false k at (so_far.between k) (not_both (IsBetween known.ends (get_or offsets k 0)) false true k set (λ e. cc e) at);
        there = there_too (IsThere start end offsets nulls) (IsThere start (end + 1) offsets nulls) (there_moved (end + 1) (omega arith)) known.ends so_far.there;
        null = λ k at. refl;
        some_null = λ e. (end, here true set);
      }

-- ---- parts

-- past the end there is nothing
none_past : (offsets : List ℕ) (nulls : List Bool) (start end : ℕ) → length offsets ≤ start → AreEnds start end offsets nulls no_ends
none_past offsets nulls start end past = record {
  between = λ k at. absurd (omega (arith, past, at.from, at.there));
  there = tt;
  null = λ k at. absurd (omega (arith, past, at.from, at.there));
  some_null = λ e. absurd (cc e);
}

module _ (offsets : List ℕ) (nulls : List Bool) where
  -- item k has the ends of its part
  abbrev pub Part : ℕ → PartEnds → Type 0
  Part k known = AreEnds (1024 * k) (1024 * k + 1024) offsets nulls known

  abbrev pub Parts : List PartEnds → Type 0
  Parts ends = (k : ℕ) → k < length ends → Part k (get_or ends k no_ends)

  -- the ends of one part more
  pub parts_more : (ends : List PartEnds) (known : PartEnds) (part : ℕ) → length ends ≡ part → Parts ends → Part part known → Parts (ends ++ known ∷ [])
  parts_more ends known part long made here k lt =
      ⊎_elim (λ h. last (omega (arith, h.1, lt, length-append ends (known ∷ [])))) (λ h. earlier (omega (arith, h.1))) (leb_tells (length ends) k)
    where
      earlier : k < length ends → Part k (get_or (ends ++ known ∷ []) k no_ends)
      earlier before = subst (Part k) (sym (get_or_append_left ends (known ∷ []) no_ends k before)) (made k before)

      last : length ends ≡ k → Part k (get_or (ends ++ known ∷ []) k no_ends)
      last is = subst (Part k) (sym (get_or_at ends known [] no_ends k is)) (subst (λ (n : ℕ). Part n known) (sym long ∙ is) here)

  -- all parts
  pub all_parts : (ends : List PartEnds) → length offsets ≤ 1024 * length ends → Parts ends → HaveEnds ends offsets nulls
  all_parts ends whole made k =
      ⊎_elim (λ h. subst (Part k) (sym (get_or_past ends k no_ends (omega (arith, h.1)))) (none_past offsets nulls (1024 * k) (1024 * k + 1024) (omega (arith, whole, h.1))))
      (λ h. made k (omega (arith, h.1))) (leb_tells (length ends) k)

-- where a plane of 1,024 flags is clear, so are these
pub part_clear : (flags plane : List Bool) (start : ℕ) (clear : Bool) → plane ≡ take 1024 (drop start flags) → OnTrue clear ((place : ℕ) → get_or plane place false ≡ false) → OnFalse (not clear) (AreClear start (start + 1024) flags)
part_clear flags plane start clear is facts = by_test clear (λ h. rw h (each (rw h at facts))) (λ h. rw h tt)
  where
    each : ((place : ℕ) → get_or plane place false ≡ false) → AreClear start (start + 1024) flags
    each all place from below =
        let i = place - start in
        ap (λ (k : ℕ). get_or flags k false) {x = place} {y = start + (place - start)} (omega (arith, from))
        ∙ sym (get_or-drop start flags i false) ∙ sym (get_or-take 1024 (drop start flags) i false (omega (arith, below)))
        ∙ ap (λ (l : List Bool). get_or l i false) (sym is) ∙ all i

-- ---- the values that they stand for

-- a number up to another one is not after it
not_after : (a b : Bool) → b ≡ false → is_gt (ordering_then (cond a Less (cond b Greater Equal)) Equal) ≡ false
not_after true b e = refl
not_after false true e = absurd (cc e)
not_after false false e = refl

raised_up_to : (least : ℤ) (m n : ℕ) → m ≤ n → int_lt (least +ℤ pos n) (least +ℤ pos m) ≡ false
raised_up_to least m n le = by_test (int_lt (least +ℤ pos n) (least +ℤ pos m)) (λ k. absurd (omega (arith, ints, le, k))) (λ k. k)

up_to : (kind : Kind) (a b : ℤ) → IsOf kind a → IsOf kind b → int_lt b a ≡ false → is_gt (value_cmp (datum kind a false) (datum kind b false)) ≡ false
up_to Numbers a b of_a of_b le = not_after (int_lt a b) (int_lt b a) le
up_to Days a b of_a of_b le =
    ap₂ (λ (v w : Value). is_gt (value_cmp v w)) (day_datum a of_a) (day_datum b of_b) ∙ not_after (int_lt a b) (int_lt b a) le

-- NULL is bounded where it may be there
null_bounded : (has_null : Bool) (ends : Ends) → has_null ≡ true → IsBounded has_null ends Null
null_bounded has_null None set = (refl, set)
null_bounded has_null (Some e) set = inl (refl, set)

module _ (kind : Kind) (least : ℤ) (offsets : List ℕ) (nulls : List Bool) (are : AreOffsets kind least offsets nulls) (start : ℕ) (known : PartEnds) (have : AreEnds start (start + 1024) offsets nulls known) where
  abbrev values : List Value
  values = zip2 (datum kind) (above least offsets) nulls

  abbrev part : List Value
  part = take 1024 (drop start values)

  abbrev raised : ℕ → ℤ
  raised offset = least +ℤ pos offset

  abbrev There : ℕ → Type 0
  There n = IsThere start (start + 1024) offsets nulls n

  abbrev flag_at : ℕ → Bool
  flag_at i = get_or nulls (start + i) false

  -- what stands at a place of the part
  few : (i : ℕ) → i < length part → i < 1024
  few i lt = omega (arith, lt, length-take 1024 (drop start values))

  within : (i : ℕ) → i < length part → start + i < length offsets
  within i lt = omega (arith, lt, length-take 1024 (drop start values), length-drop start values, length-packed kind least offsets nulls are.long)

  read : (i : ℕ) (d : Value) → i < length part → get_or part i d ≡ datum kind (raised (get_or offsets (start + i) 0)) (flag_at i)
  read i d lt =
      let long = length-packed kind least offsets nulls are.long in
      get_or-take 1024 (drop start values) i d (few i lt) ∙ get_or-drop start values i d ∙ get_or_default values (start + i) d Null (omega (arith, within i lt, long))
      ∙ packed_at kind least offsets nulls are.long (start + i) (get_or offsets (start + i) 0) (flag_at i) (within i lt) refl refl

  place_of : (i : ℕ) → i < length part → (flag : Bool) → flag_at i ≡ flag → IsPlace start (start + 1024) offsets nulls flag (start + i)
  place_of i lt flag is = record { from = omega arith; below = omega (arith, few i lt); there = within i lt; is = is }

  -- and where a place stands in it
  behind : (flag : Bool) (k : ℕ) → IsPlace start (start + 1024) offsets nulls flag k → (i : ℕ) × (i < length part) × (start + i ≡ k)
  behind flag k at =
      let long = length-packed kind least offsets nulls are.long in
      (k - start, omega (arith, at.from, at.below, at.there, long, length-take 1024 (drop start values), length-drop start values), omega (arith, at.from))

  fits : (n : ℕ) → There n → IsOf kind (raised n)
  fits n there = subst (λ (k : ℕ). IsOf kind (raised k)) there.2 (are.fit there.0)

  -- an offset between the ends stands for a value between theirs
  between_bounded : (ends : Option (ℕ × ℕ)) (n : ℕ) → IfSome ends (λ e. There e.0 × There e.1) → IsOf kind (raised n) → IsBetween ends n → IsBounded known.has_null (ends_above kind least ends) (datum kind (raised n) false)
  between_bounded None n there of between = absurd between
  between_bounded (Some e) n there of between =
      inr (up_to kind (raised e.0) (raised n) (fits e.0 there.0) of (raised_up_to least e.0 n between.0), up_to kind (raised n) (raised e.1) of (fits e.1 there.1) (raised_up_to least n e.1 between.1))

  abbrev Bounded : Value → Type 0
  Bounded value = IsBounded known.has_null (ends_above kind least known.ends) value

  bounded_at : (i : ℕ) → i < length part → (flag : Bool) → flag_at i ≡ flag → Bounded (datum kind (raised (get_or offsets (start + i) 0)) flag)
  bounded_at i lt true is = null_bounded known.has_null (ends_above kind least known.ends) (have.null (start + i) (place_of i lt true is))
  bounded_at i lt false is = between_bounded known.ends (get_or offsets (start + i) 0) have.there (are.fit (start + i)) (have.between (start + i) (place_of i lt false is))

  ends_known : (ends : Option (ℕ × ℕ)) → IfSome ends (λ e. There e.0 × There e.1) → IfSome (ends_above kind least ends) (λ e. (is_null e.0 ≡ false) × (is_null e.1 ≡ false))
  ends_known None there = tt
  ends_known (Some e) there = (number_known kind (raised e.0) (fits e.0 there.0), number_known kind (raised e.1) (fits e.1 there.1))

  among : (n : ℕ) → There n → IsAmong part (datum kind (raised n) false)
  among n there =
      let at = behind false there.0 there.1 in
      let same = ap (λ (k : ℕ). get_or offsets k 0) at.2 ∙ there.2 in
      let clear = ap (λ (k : ℕ). get_or nulls k false) at.2 ∙ there.1.is in
      (at.0, at.1, read at.0 Null at.1 ∙ ap₂ (λ (k : ℕ) (b : Bool). datum kind (raised k) b) same clear)

  ends_among : (ends : Option (ℕ × ℕ)) → IfSome ends (λ e. There e.0 × There e.1) → IfSome (ends_above kind least ends) (λ e. IsAmong part e.0 × IsAmong part e.1)
  ends_among None there = tt
  ends_among (Some e) there = (among e.0 there.0, among e.1 there.1)

  -- NULL is there where it is told
  null_there : known.has_null ≡ true → list_any is_null part ≡ true
  null_there set =
      let found = have.some_null set in
      let at = behind true found.0 found.1 in
      let flag = ap (λ (k : ℕ). get_or nulls k false) at.2 ∙ found.1.is in
      list_any_at is_null part at.0 Null at.1 (ap is_null (read at.0 Null at.1) ∙ ap (λ (b : Bool). is_null (datum kind (raised (get_or offsets (start + at.0) 0)) b)) flag)

  -- and nowhere else
  none_there : known.has_null ≡ false → list_any is_null part ≡ false
  none_there clear =
      list_any_none is_null part
      (All-from_recursion (λ v. is_null v ≡ false) part (all-listed (λ v. is_null v ≡ false) part (λ i d lt. ap is_null (read i d lt) ∙ each i lt (flag_at i) refl)))
    where
      each : (i : ℕ) → i < length part → (flag : Bool) → flag_at i ≡ flag → is_null (datum kind (raised (get_or offsets (start + i) 0)) flag) ≡ false
      each i lt true is = absurd (cc (sym clear ∙ have.null (start + i) (place_of i lt true is)))
      each i lt false is = number_known kind (raised (get_or offsets (start + i) 0)) (are.fit (start + i))

  -- so the ends are the bounds of the values
  pub part_bounds : AreBounds known.has_null (ends_above kind least known.ends) part
  part_bounds = record {
    all = all-listed Bounded part (λ i d lt. subst Bounded (sym (read i d lt)) (bounded_at i lt (flag_at i) refl));
    known = ends_known known.ends have.there;
    among = ends_among known.ends have.there;
    null = by_test known.has_null (λ h. h ∙ sym (null_there h)) (λ h. h ∙ sym (none_there h));
  }
