use Rattle.std.proofs.Common.{◌≡◌, ◌∙◌, ◌<◌, ◌∷◌, ◌++◌, ℕ, [], map, length, get_or, take, Option, None, ap, arith, rules}
use Rattle.std.proofs.Math.Seq.{take-length}
use Rattle.std.specs.List.{zip}
use Rattle.cq_hash_keys.specs.Pairs.{place_of_both}
use Rattle.cq_hash_keys_values.proofs.Meeting.{found-next}
use Rattle.cq_hash_keys.proofs.Zips.{length-zip, zip-at}
use Rattle.cq_hash_keys.proofs.pairs.Pairs.find.Goals as goal

pub loop-place-preserved : goal.loop-place-preserved
loop-place-preserved c =
    let firsts = c.args.firsts.now in
    let seconds = c.args.seconds.now in
    let pairs = zip firsts seconds in
    let i = c.loop-place.place in
    let pair : Option ℕ × Option ℕ = (get_or firsts i None, get_or seconds i None) in
    let lt : i < length firsts = first_of (omega arith, search rules) in
    let long : i < length pairs = omega (arith, lt, length-zip firsts seconds c.requires) in
    let is : pair ≡ get_or pairs i (None, None) = zip-at firsts seconds i None None c.requires lt in
    let appended : c.push_reserved.new.self.items ≡ c.loop-place.numbers.items ++ c.place.result ∷ [] = search rules in
    record {
      found = appended ∙ found-next (place_of_both c.args.self.now) pairs i pair (None, None) c.loop-place.numbers.items c.place.result long is c.place.ensures c.loop-place.invariant.found;
      room = first_of (search rules, omega arith, grind arith);
    }

pub returns : goal.returns
returns c =
    let pairs = zip c.args.firsts.now c.args.seconds.now in
    let end : c.loop-place.place ≡ length pairs = let long = length-zip c.args.firsts.now c.args.seconds.now c.requires in first_of (omega (arith, long), search rules) in
    c.loop-place.invariant.found ∙ ap (map (place_of_both c.args.self.now)) (ap (λ (n : ℕ). take n pairs) end ∙ take-length pairs)
