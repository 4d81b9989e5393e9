use Rattle.std.proofs.Common.{◌≡◌, drop}
use Rattle.cq_model_bags.specs.Listing.{listing_cmp}
use Rattle.cq_operators_listing.proofs.comparing.cmp_listed.Given as goal

-- the keys that are left decide
abbrev pub invariant-loop-key : goal.invariant-loop-key
invariant-loop-key l = listing_cmp (drop l.key-index l.keys) l.a l.b ≡ listing_cmp l.keys l.a l.b
