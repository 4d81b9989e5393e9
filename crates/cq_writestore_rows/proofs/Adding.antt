-- Rows that come behind others.
use Rattle.std.proofs.Common.{◌≡◌, ◌∙◌, ℕ, ◌+◌, ◌<◌, List, [], ◌∷◌, ◌++◌, length, take, get_or, refl, sym, ap, subst}
use Rattle.std.proofs.lemmas.List.{append-nil, append_assoc, take_more}
use Rattle.cq_model_bags.proofs.Lists.{all-at, all-back, all-front}
use Rattle.cq_values.specs.Value.{Row}
use Rattle.cq_segments_pieces.specs.Columns.{AreWide}
use Rattle.cq_writestore_rows.specs.Filling.{Adds, CanTake, Filled, IsEmpty}

-- rows as wide as the columns can come first
pub is_ready : (rows : List Row) (width : ℕ) (filled : Filled) → IsEmpty width filled → AreWide width rows → CanTake rows filled
is_ready rows width filled is wide = record {
  none = ap (λ (f : Filled). f.begun) is;
  wide = subst (λ (n : ℕ). AreWide n rows) (sym (ap (λ (f : Filled). f.width) is)) wide;
}

-- the first of them can come alone
pub can-front : (xs ys : List Row) (now : Filled) → CanTake (xs ++ ys) now → CanTake xs now
can-front xs ys now can = record { none = can.none; wide = all-front (λ (r : Row). length r ≡ now.width) xs ys can.wide }

-- none
pub adds-none : (filled : Filled) → filled.begun ≡ [] → Adds [] filled filled
adds-none filled none = record { put = sym (append-nil filled.rows); none = none; wide = refl }

module _ (xs ys : List Row) (old now : Filled) (adds : Adds xs old now) where
  -- others can follow, if they are as wide
  pub can_follow : AreWide old.width ys → CanTake ys now
  can_follow wide = record { none = adds.none; wide = subst (λ (n : ℕ). AreWide n ys) (sym adds.wide) wide }

  -- and are there then too
  pub adds-more : (new : Filled) → Adds ys now new → Adds (xs ++ ys) old new
  adds-more new more = record {
    put = more.put ∙ ap (λ l. l ++ ys) adds.put ∙ append_assoc old.rows xs ys;
    none = more.none;
    wide = more.wide ∙ adds.wide;
  }

module _ (rows : List Row) (place : ℕ) (row : Row) (lt : place < length rows) (is : row ≡ get_or rows place row) (old now : Filled) (adds : Adds (take place rows) old now) where
  -- the next one of them can follow
  pub can_follow-next : CanTake rows old → CanTake (row ∷ []) now
  can_follow-next can =
      can_follow (take place rows) (row ∷ []) old now adds
      (subst (λ (r : Row). length r ≡ old.width) (sym is) (all-at (λ (r : Row). length r ≡ old.width) rows place row lt can.wide), tt)

  -- and is there then too
  pub adds-next : (new : Filled) → Adds (row ∷ []) now new → Adds (take (place + 1) rows) old new
  adds-next new more =
      subst (λ (l : List Row). Adds l old new) (sym (take_more rows place row lt ∙ ap (λ (r : Row). take place rows ++ r ∷ []) (sym is)))
      (adds-more (take place rows) (row ∷ []) old now adds new more)

-- of those that are left the first have come
module _ (left xs ys : List Row) (is : left ≡ xs ++ ys) (now new : Filled) (adds : Adds xs now new) where
  pub left-rows : (all : List Row) → now.rows ++ left ≡ all → new.rows ++ ys ≡ all
  left-rows all are = ap (λ l. l ++ ys) adds.put ∙ append_assoc now.rows xs ys ∙ ap (λ l. now.rows ++ l) (sym is) ∙ are

  pub left-can : CanTake left now → CanTake ys new
  left-can can = can_follow xs ys now new adds (all-back (λ (r : Row). length r ≡ now.width) xs ys (subst (AreWide now.width) is can.wide))
