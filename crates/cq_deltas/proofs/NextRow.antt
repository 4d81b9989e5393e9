-- The next row of a change is put into its group.
use Rattle.std.proofs.Common.{◌≡◌, ℕ, ◌+◌, List, Some, slice_get, subst, sym, take}
use Rattle.cq_deltas.specs.Additions.{Addition}
use Rattle.cq_deltas.specs.Keyed.{ArePut, HasKeys, HoldsFor, HoldsOne, IsPut, KeepPlaces, KeyedGroups, addition_at, additions_at}
use Rattle.cq_deltas.specs.Placed.{Placed}
use Rattle.cq_deltas.proofs.MetKeys.{put-more}
use Rattle.cq_deltas.proofs.Places.{addition-is, addition-within, next-key}
use Rattle.cq_deltas.proofs.Ranges.{next-holds}

-- the rows in front of it are put in, and the groups stand where they stood
module _ (old : KeyedGroups) (rows : List Placed) (i : ℕ) (x : Placed) (at : slice_get rows i ≡ Some x) (now : KeyedGroups) (keys : HasKeys rows old) (keep : KeepPlaces old now) where
  -- it leaves its group in range
  pub holds-next : HoldsFor (additions_at old rows) old → ArePut old (take i (additions_at old rows)) now → HoldsOne (addition_at now x) now
  holds-next holds put =
      subst (λ (a : Addition). HoldsOne a now) (sym (next-key old rows i x at now keys keep))
      (next-holds old now (additions_at old rows) i (addition_at old x) holds (addition-within old rows i x at) (addition-is old rows i x at) put)

  -- and then one row more is put in
  pub put-next : (new : KeyedGroups) → ArePut old (take i (additions_at old rows)) now → IsPut now (addition_at now x) new → ArePut old (take (i + 1) (additions_at old rows)) new
  put-next new put one =
      put-more (additions_at old rows) i (addition_at old x) old now new (addition-within old rows i x at) (addition-is old rows i x at) put
      (subst (λ (a : Addition). IsPut now a new) (next-key old rows i x at now keys keep) one)
