-- What stored rows are as a bag, when they are moved.
use Rattle.std.proofs.Common.{◌≡◌, ℕ, List, [], ◌++◌, take, drop, sym, ap, ◌∙◌, arith}
use Rattle.std.proofs.lemmas.List.{append_assoc, take-append-drop}
use Rattle.cq_values.specs.Value.{Row}
use Rattle.cq_model_bags.specs.Canonical.{bag_of}
use Rattle.cq_model_bags.proofs.Canonicals.{bag_of-same, times_in-append, times_in-bag_of}
use Rattle.cq_model_bags.proofs.Listings.{times_in}
use Rattle.cq_segments_pieces.specs.Marked.{MarkedRow, live}
use Rattle.cq_segments_pieces.proofs.Marks.{live-append}

-- rows of one bag are there as often
pub as_often : (xs ys : List Row) → bag_of xs ≡ bag_of ys → (r : Row) → times_in r xs ≡ times_in r ys
as_often xs ys same r = sym (times_in-bag_of xs r) ∙ ap (times_in r) same ∙ times_in-bag_of ys r

-- behind the same rows, and before the same rows
pub bag_between : (front xs ys back : List Row) → bag_of xs ≡ bag_of ys → bag_of (front ++ (xs ++ back)) ≡ bag_of (front ++ (ys ++ back))
bag_between front xs ys back same =
    bag_of-same (front ++ (xs ++ back)) (front ++ (ys ++ back))
    (λ r. omega (arith, times_in-append front (xs ++ back) r, times_in-append front (ys ++ back) r, times_in-append xs back r, times_in-append ys back r, as_often xs ys same r))

-- rows that leave the front of the write store and stand in segments are the same bag
pub bag-moved : (segments made written : List MarkedRow) (n : ℕ) → bag_of (live made) ≡ bag_of (live (take n written))
    → bag_of (live ((segments ++ made) ++ drop n written)) ≡ bag_of (live (segments ++ written))
bag-moved segments made written n same =
    let back = live (drop n written) in
    let split : live written ≡ live (take n written) ++ back = ap live (sym (take-append-drop n written)) ∙ live-append (take n written) (drop n written) in
    ap bag_of (live-append (segments ++ made) (drop n written) ∙ ap (λ (rs : List Row). rs ++ back) (live-append segments made) ∙ append_assoc (live segments) (live made) back)
    ∙ bag_between (live segments) (live made) (live (take n written)) back same
    ∙ sym (ap bag_of (live-append segments written ∙ ap (λ (rs : List Row). live segments ++ rs) split))

-- and so are those of segments that are made anew
pub bag-merged : (segments made written : List MarkedRow) → bag_of (live made) ≡ bag_of (live segments) → bag_of (live (made ++ written)) ≡ bag_of (live (segments ++ written))
bag-merged segments made written same =
    ap bag_of (live-append made written)
    ∙ bag_between [] (live made) (live segments) (live written) same
    ∙ sym (ap bag_of (live-append segments written))
