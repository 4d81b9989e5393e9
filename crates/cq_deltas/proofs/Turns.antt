-- What is kept of a group while the arguments of a row are put in, one after the other.
use Rattle.std.proofs.Common.{◌≡◌, ℕ, zero, suc, ◌+◌, ◌<◌, ◌≤◌, ◌^◌, ℤ, nat_abs, List, [], ◌∷◌, map, take, length, get_or, set, Option, refl, sym, ◌∙◌, ap, subst, min, add-one, arith}
use Rattle.std.specs.List.{AllByRecursion}
use Rattle.std.proofs.lemmas.List.{length-map, get_or-map, map-set}
use Rattle.cq_values.specs.declared.value.Value.{Value}
use Rattle.cq_model_bags.specs.Bag.{weight_of}
use Rattle.cq_views_model.specs.Kept.{Kept, Counted, Totalled, Listed}
use Rattle.cq_deltas.specs.Extremes.{alone}
use Rattle.cq_deltas.specs.declared.change.Addend.{Addend}
use Rattle.cq_deltas.specs.declared.kept.Kept.{Kept as Stored}
use Rattle.cq_deltas.specs.Kept.{seen, kept_with, all_kept_with, total_move, total_moves, HasRoomFor, HaveRoom, KeepRoom, KeepsRoomFor, KeptHolds}
use Rattle.cq_model_bags.proofs.Lists.{all-at}

-- what holds while much moves holds while less does
pub holds-less : (counts totals c t : ℕ) (k : Kept) → c ≤ counts → t ≤ totals → KeptHolds counts totals k → KeptHolds c t k
holds-less counts totals c t (Counted n) x y h = omega (arith, x, h)
holds-less counts totals c t (Totalled n total) x y h = (omega (arith, x, h.0), omega (arith, y, h.1))
holds-less counts totals c t (Listed values) x y h = λ v. less v (h v)
  where
    less : (v : Value) → nat_abs (weight_of values (alone v)) + counts < 2 ^ 127 → nat_abs (weight_of values (alone v)) + c < 2 ^ 127
    less v e = omega (arith, x, e)

-- an argument moves its total no further than any may
move-within : (w : ℤ) (vs : List (Option Addend)) (i : ℕ) (v : Option Addend) → i < length vs → total_move w (get_or vs i v) ≤ total_moves w vs
move-within w [] i v h = absurd (omega (arith, h))
move-within w (u ∷ vs) zero v h = omega arith
move-within w (u ∷ vs) (suc i) v h = omega (arith, move-within w vs i v (omega (arith, h)))

-- ---- room
-- where there is room for all, there is at each place
at-place : (vs : List (Option Addend)) (ks : List Stored) (i : ℕ) (v : Option Addend) (d : Stored) → i < length vs → i < length ks → HaveRoom vs ks → HasRoomFor (get_or vs i v) (get_or ks i d)
at-place [] ks i v d g h room = absurd (omega (arith, g))
at-place (u ∷ vs) [] i v d g h room = absurd (omega (arith, h))
at-place (u ∷ vs) (k ∷ ks) zero v d g h room = room.0
at-place (u ∷ vs) (k ∷ ks) (suc i) v d g h room = at-place vs ks i v d (omega (arith, g)) (omega (arith, h)) room.1

pub room-at : (vs : List (Option Addend)) (ks : List Stored) (i : ℕ) (v : Option Addend) (d : Stored) → v ≡ get_or vs i v → i < length vs → i < length ks → HaveRoom vs ks → HasRoomFor v (get_or ks i d)
room-at vs ks i v d is g h room = subst (λ (u : Option Addend). HasRoomFor u (get_or ks i d)) (sym is) (at-place vs ks i v d g h room)

keep-behind : (x : Stored) (old new : List Stored) → KeepRoom old new → KeepRoom (x ∷ old) (x ∷ new)
keep-behind x old new keeps [] room = tt
keep-behind x old new keeps (v ∷ vs) room = (room.0, keeps vs room.1)

-- where a place is written that keeps its room, all have room still
keep-at : (ks : List Stored) (i : ℕ) (k d : Stored) → i < length ks → KeepsRoomFor (get_or ks i d) k → KeepRoom ks (set ks i k)
keep-at [] i k d h keeps = absurd (omega (arith, h))
keep-at (x ∷ ks) zero k d h keeps = first
  where
    first : KeepRoom (x ∷ ks) (k ∷ ks)
    first [] room = tt
    first (v ∷ vs) room = (keeps v room.0, room.1)
keep-at (x ∷ ks) (suc i) k d h keeps = keep-behind x ks (set ks i k) (keep-at ks i k d (omega (arith, h)) keeps)

pub keep-more : (initial now : List Stored) (i : ℕ) (k d : Stored) → i < length now → KeepRoom initial now → KeepsRoomFor (get_or now i d) k → KeepRoom initial (set now i k)
keep-more initial now i k d h so_far keeps vs room = keep-at now i k d h keeps vs (so_far vs room)

-- with room made at one place more, there is room up to there
one-more-room : (vs : List (Option Addend)) (ks : List Stored) (i : ℕ) (v : Option Addend) (k : Stored) → i < length vs → i < length ks → HaveRoom (take i vs) ks
    → HasRoomFor (get_or vs i v) k → HaveRoom (take (suc i) vs) (set ks i k)
one-more-room [] ks i v k g h so_far here = absurd (omega (arith, g))
one-more-room (u ∷ vs) [] i v k g h so_far here = absurd (omega (arith, h))
one-more-room (u ∷ vs) (l ∷ ks) zero v k g h so_far here = (here, tt)
one-more-room (u ∷ vs) (l ∷ ks) (suc i) v k g h so_far here = (so_far.0, one-more-room vs ks i v k (omega (arith, g)) (omega (arith, h)) so_far.1 here)

pub room-more : (vs : List (Option Addend)) (ks : List Stored) (i : ℕ) (v : Option Addend) (k : Stored) → v ≡ get_or vs i v → i < length vs → i < length ks → HaveRoom (take i vs) ks
    → HasRoomFor v k → HaveRoom (take (i + 1) vs) (set ks i k)
room-more vs ks i v k is g h so_far here = rw (add-one i) (one-more-room vs ks i v k g h so_far (subst (λ (u : Option Addend). HasRoomFor u k) is here))

-- when one of the lists is at its end, there is room for all
pub room-done : (vs : List (Option Addend)) (ks : List Stored) (n : ℕ) → min (length ks) (length vs) ≤ n → HaveRoom (take n vs) ks → HaveRoom vs ks
room-done [] ks n h room = tt
room-done (v ∷ vs) [] n h room = tt
room-done (v ∷ vs) (k ∷ ks) zero h room = absurd (omega (arith, h))
room-done (v ∷ vs) (k ∷ ks) (suc n) h room = (room.0, room-done vs ks n (omega (arith, h)) room.1)

-- ---- a place is written that shows the same
pub same-seen : (initial now : List Stored) (i : ℕ) (k d : Stored) → i < length now → map seen now ≡ map seen initial → seen k ≡ seen (get_or now i d) → map seen (set now i k) ≡ map seen initial
same-seen initial now i k d h so_far same = set-same now i k d h same ∙ so_far
  where
    set-same : (ks : List Stored) (i : ℕ) (k d : Stored) → i < length ks → seen k ≡ seen (get_or ks i d) → map seen (set ks i k) ≡ map seen ks
    set-same [] i k d h e = absurd (omega (arith, h))
    set-same (x ∷ ks) zero k d h e = ap (λ (y : Kept). y ∷ map seen ks) e
    set-same (x ∷ ks) (suc i) k d h e = ap (λ (ys : List Kept). seen x ∷ ys) (set-same ks i k d (omega (arith, h)) e)

-- ---- arguments are put in
module _ (w : ℤ) where
  -- a turn leaves what comes after it
  not_yet : (vs : List (Option Addend)) (ks : List Kept) (i : ℕ) (d : Kept) → get_or (all_kept_with w (take i vs) ks) i d ≡ get_or ks i d
  not_yet [] ks zero d = refl
  not_yet [] ks (suc i) d = refl
  not_yet (v ∷ vs) [] zero d = refl
  not_yet (v ∷ vs) [] (suc i) d = refl
  not_yet (v ∷ vs) (k ∷ ks) zero d = refl
  not_yet (v ∷ vs) (k ∷ ks) (suc i) d = not_yet vs ks i d

  -- a turn writes its place
  one_more : (vs : List (Option Addend)) (ks : List Kept) (i : ℕ) (v : Option Addend) (d : Kept) → i < length vs → i < length ks
      → all_kept_with w (take (suc i) vs) ks ≡ set (all_kept_with w (take i vs) ks) i (kept_with w (get_or vs i v) (get_or ks i d))
  one_more [] ks i v d g h = absurd (omega (arith, g))
  one_more (u ∷ vs) [] i v d g h = absurd (omega (arith, h))
  one_more (u ∷ vs) (k ∷ ks) zero v d g h = refl
  one_more (u ∷ vs) (k ∷ ks) (suc i) v d g h = ap (λ l. kept_with w u k ∷ l) (one_more vs ks i v d (omega (arith, g)) (omega (arith, h)))

  length-all_kept_with : (vs : List (Option Addend)) (ks : List Kept) → length (all_kept_with w vs ks) ≡ length ks
  length-all_kept_with [] ks = refl
  length-all_kept_with (v ∷ vs) [] = refl
  length-all_kept_with (v ∷ vs) (k ∷ ks) = ap suc (length-all_kept_with vs ks)

  -- when one of the lists is at its end, all arguments are put in
  all_done : (vs : List (Option Addend)) (ks : List Kept) (n : ℕ) → min (length ks) (length vs) ≤ n → all_kept_with w (take n vs) ks ≡ all_kept_with w vs ks
  all_done [] ks zero h = refl
  all_done [] ks (suc n) h = refl
  all_done (v ∷ vs) [] zero h = refl
  all_done (v ∷ vs) [] (suc n) h = refl
  all_done (v ∷ vs) (k ∷ ks) zero h = absurd (omega (arith, h))
  all_done (v ∷ vs) (k ∷ ks) (suc n) h = ap (λ l. kept_with w v k ∷ l) (all_done vs ks n (omega (arith, h)))

  -- the same of what is stored
  module _ (vs : List (Option Addend)) (now initial : List Stored) (i : ℕ) (d : Stored) (so_far : map seen now ≡ all_kept_with w (take i vs) (map seen initial)) where
    pub same_length : length now ≡ length initial
    same_length = sym (length-map now seen) ∙ ap length so_far ∙ length-all_kept_with (take i vs) (map seen initial) ∙ length-map initial seen

    pub seen_at : i < length now → seen (get_or now i d) ≡ get_or (map seen initial) i (seen d)
    seen_at h = sym (get_or-map seen now i d (seen d) h) ∙ ap (λ l. get_or l i (seen d)) so_far ∙ not_yet vs (map seen initial) i (seen d)

    pub holds_at : (v : Option Addend) → v ≡ get_or vs i v → i < length now → i < length vs → AllByRecursion (KeptHolds (nat_abs w) (total_moves w vs)) (map seen initial)
        → KeptHolds (nat_abs w) (total_move w v) (seen (get_or now i d))
    holds_at v is h g holds =
        subst (λ (u : Option Addend). KeptHolds (nat_abs w) (total_move w u) (seen (get_or now i d))) (sym is) (rw (seen_at h)
        (holds-less (nat_abs w) (total_moves w vs) (nat_abs w) (total_move w (get_or vs i v)) (get_or (map seen initial) i (seen d)) (omega arith) (move-within w vs i v g)
        (all-at (KeptHolds (nat_abs w) (total_moves w vs)) (map seen initial) i (seen d) (omega (arith, h, same_length, length-map initial seen)) holds)))

    pub turn : (v : Option Addend) (k : Stored) → v ≡ get_or vs i v → i < length now → i < length vs → seen k ≡ kept_with w v (seen (get_or now i d))
        → map seen (set now i k) ≡ all_kept_with w (take (i + 1) vs) (map seen initial)
    turn v k is h g e =
        map-set seen now i k ∙ ap (λ l. set l i (seen k)) so_far
        ∙ ap (λ x. set (all_kept_with w (take i vs) (map seen initial)) i x) (e ∙ ap (λ (u : Option Addend). kept_with w u (seen (get_or now i d))) is ∙ ap (kept_with w (get_or vs i v)) (seen_at h))
        ∙ rw (add-one i) (sym (one_more vs (map seen initial) i v (seen d) g (omega (arith, h, same_length, length-map initial seen))))

    pub turns_done : min (length now) (length vs) ≤ i → map seen now ≡ all_kept_with w vs (map seen initial)
    turns_done h = so_far ∙ all_done vs (map seen initial) i (omega (arith, h, same_length, length-map initial seen))
