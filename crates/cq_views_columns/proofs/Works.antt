-- The joins of narrower rows do no more work than those of the whole rows.
use Rattle.std.proofs.Common.{◌≡◌, ℕ, ◌+◌, ◌<◌, ◌≤◌, ℤ, Bool, List, [], ◌∷◌, ◌++◌, map, length, sym, ◌∙◌, ap, ap₂, arith}
use Rattle.std.proofs.lemmas.List.{map-append}
use Rattle.std.specs.List.{AllByRecursion}
use Rattle.cq_values.specs.Value.{Row}
use Rattle.cq_model_bags.specs.Bag.{Weighted, joined, projected}
use Rattle.cq_model_bags.specs.Join.{HasWidth, join_change}
use Rattle.cq_model_bags.proofs.Widths.{append-width, joined-width}
use Rattle.cq_model.specs.Pushed.{HaveWidths}
use Rattle.cq_model.specs.Group.{key_of}
use Rattle.cq_model.specs.Meaning.{Tables, meets}
use Rattle.cq_model.specs.declared.query.Join.{Join}
use Rattle.cq_model.specs.declared.query.Source.{Source}
use Rattle.cq_views_model.specs.Delta.{chain_work, join_work}
use Rattle.cq_model_terms.specs.Places.{place_in}
use Rattle.cq_views_columns.specs.Narrow.{renamed_join}
use Rattle.cq_views_columns.specs.Places.{behind, places_from}
use Rattle.cq_views_columns.proofs.Fewer.{pairs-images, size-images}
use Rattle.cq_views_columns.proofs.Joined.{AreCovered, HasRead, IsCovered, all_places, has_read-more, meets-narrow, more-places, next-narrow}
use Rattle.cq_views_columns.proofs.Rows.{below-joined}

-- the work of one join of images is no larger where these go together as their rows do
join_work-images : (on also : Row → Row → Bool) (f g : Row → Row) (n m : ℕ) → ((r s : Row) → length r ≡ n → length s ≡ m → on (f r) (g s) ≡ also r s)
    → (a da b db : Weighted) → HasWidth n a → HasWidth n da → HasWidth m b → HasWidth m db
    → join_work on (projected f a) (projected f da) (projected g b) (projected g db) ≤ join_work also a da b db
join_work-images on also f g n m same a da b db v w x y =
    omega (arith, size-images f da, size-images g db, pairs-images on also f g n m same da b w x, pairs-images on also f g n m same a db v y, pairs-images on also f g n m same da db w y)

-- what changes add to a join is as wide as both rows
change-width : (on : Row → Row → Bool) (n m : ℕ) (a da b db : Weighted) → HasWidth n a → HasWidth n da → HasWidth m b → HasWidth m db → HasWidth (n + m) (join_change on a da b db)
change-width on n m a da b db v w x y =
    append-width (n + m) (joined on da b ++ joined on a db) (joined on da db)
    (append-width (n + m) (joined on da b) (joined on a db) (joined-width on n m da b w x) (joined-width on n m a db v y))
    (joined-width on n m da db w y)

-- columns for each source, for tables and changes of these widths
module _ (read : ℕ → Bool) (columns : Source → List ℕ) (width : Source → ℕ) (tables changes : Tables) (wide : HaveWidths width tables) (more : HaveWidths width changes) where
  abbrev narrower : Tables → Tables
  narrower bags source = projected (key_of (columns source)) (bags source)

  -- the places of the columns behind the first sources
  abbrev later : ℕ → List Join → List ℕ
  later n js = places_from columns n (map (λ j. j.source) js) (map width (map (λ j. j.source) js))

  -- what changes add to a join of narrower rows
  change-narrow : (kept front : List ℕ) (n : ℕ) (xs dxs : Weighted) (j : Join) (js : List Join) → kept ≡ all_places read columns width front n (j ∷ js) → HasWidth n xs → HasWidth n dxs
      → AllByRecursion (λ c. c < n) front → HasRead read columns width n front → AllByRecursion (IsCovered read columns width j.source) j.on
      → join_change (meets (renamed_join (place_in kept) columns j).on) (projected (key_of front) xs) (projected (key_of front) dxs) (narrower tables j.source) (narrower changes j.source)
      ≡ projected (key_of (front ++ behind n (columns j.source))) (join_change (meets j.on) xs dxs (tables j.source) (changes j.source))
  change-narrow kept front n xs dxs j js are v w below h on =
      let image : Row × ℤ → Row × ℤ = λ z. (key_of (front ++ behind n (columns j.source)) z.0, z.1) in
      let one = joined (meets j.on) dxs (tables j.source) in
      let two = joined (meets j.on) xs (changes j.source) in
      let both = joined (meets j.on) dxs (changes j.source) in
      let one-same = next-narrow read columns width tables wide kept front (later n (j ∷ js)) n dxs j are w below h on in
      let two-same = next-narrow read columns width changes more kept front (later n (j ∷ js)) n xs j are v below h on in
      let both-same = next-narrow read columns width changes more kept front (later n (j ∷ js)) n dxs j are w below h on in
      (λ i. one-same i ++ two-same i ++ both-same i)
      ∙ ap (λ (zs : Weighted). zs ++ map image both) (sym (map-append image one two)) ∙ sym (map-append image (one ++ two) both)

  -- so in one join no more work is done
  join_work-narrow : (kept front : List ℕ) (n : ℕ) (xs dxs : Weighted) (j : Join) (js : List Join) → kept ≡ all_places read columns width front n (j ∷ js) → HasWidth n xs → HasWidth n dxs
      → HasRead read columns width n front → AllByRecursion (IsCovered read columns width j.source) j.on
      → join_work (meets (renamed_join (place_in kept) columns j).on) (projected (key_of front) xs) (projected (key_of front) dxs) (narrower tables j.source) (narrower changes j.source)
      ≤ join_work (meets j.on) xs dxs (tables j.source) (changes j.source)
  join_work-narrow kept front n xs dxs j js are v w h on =
      join_work-images (meets (renamed_join (place_in kept) columns j).on) (meets j.on) (key_of front) (key_of (columns j.source)) n (width j.source)
      (meets-narrow read columns width kept front (later n (j ∷ js)) n j are h on) xs dxs (tables j.source) (changes j.source) v w (wide j.source) (more j.source)

  -- nor in a chain of them
  pub work-narrow : (kept front : List ℕ) (n : ℕ) (xs dxs : Weighted) (js : List Join) → kept ≡ all_places read columns width front n js → HasWidth n xs → HasWidth n dxs
      → AllByRecursion (λ c. c < n) front → HasRead read columns width n front → AreCovered read columns width n js
      → chain_work (narrower tables) (narrower changes) (projected (key_of front) xs) (projected (key_of front) dxs) (map (renamed_join (place_in kept) columns) js) ≤ chain_work tables changes xs dxs js
  work-narrow kept front n xs dxs [] are v w below h c = size-images (key_of front) dxs
  work-narrow kept front n xs dxs (j ∷ js) are v w below h c =
      let s = j.source in
      let rest = work-narrow kept (front ++ behind n (columns s)) (n + width s) (joined (meets j.on) xs (tables s)) (join_change (meets j.on) xs dxs (tables s) (changes s)) js
      (are ∙ more-places read columns width front n j js c.0.within) (joined-width (meets j.on) n (width s) xs (tables s) v (wide s))
      (change-width (meets j.on) n (width s) xs dxs (tables s) (changes s) v w (wide s) (more s))
      (below-joined n (width s) front (columns s) below c.0.within) (has_read-more read columns width n s front h c.0) c.2 in
      let same = ap₂ (λ (ys dys : Weighted). chain_work (narrower tables) (narrower changes) ys dys (map (renamed_join (place_in kept) columns) js))
      (next-narrow read columns width tables wide kept front (later n (j ∷ js)) n xs j are v below h c.1) (change-narrow kept front n xs dxs j js are v w below h c.1) in
      omega (arith, join_work-narrow kept front n xs dxs j js are v w h c.1, same, rest)
