use Rattle.std.proofs.Common.{◌≡◌, ◌∙◌, ◌<◌, ◌∷◌, ◌++◌, ℕ, List, [], length, get_or, take, Some, sym, ap, rules}
use Rattle.std.proofs.Math.Seq.{take-length}
use Rattle.std.proofs.lemmas.List.{take_more}
use Rattle.cq_hash_keys.specs.Grid.{pair_in, same_pair}
use Rattle.cq_hash_keys.specs.Pairs.{place_of_pair}
use Rattle.cq_hash_keys.proofs.Grids.{pair-itself, pair-same}
use Rattle.cq_hash_keys_values.proofs.Meeting.{finds-more, first-time}
use Rattle.cq_hash_keys.proofs.pairs.Pairs.lay_anew.Goals as goal

pub put-requires : goal.put-requires
put-requires c =
    let met = c.self.inside.met.items in
    let i = c.loop-number.number in
    let pair = c.index.result.now in
    let lt : i < length met = search rules in
    let read : get_or met i pair ≡ pair = search rules in
    c.loop-number.invariant pair
    ∙ ap (λ (p : ℕ × ℕ). place_of_pair (take i met) p) (sym read)
    ∙ first-time same_pair pair pair-same pair-itself met i c.self.invariant.once lt

pub loop-number-preserved : goal.loop-number-preserved
loop-number-preserved c =
    let met = c.self.inside.met.items in
    let i = c.loop-number.number in
    let pair = c.index.result.now in
    let lt : i < length met = search rules in
    let read : get_or met i pair ≡ pair = search rules in
    let absent =
    ap (λ (p : ℕ × ℕ). place_of_pair (take i met) p) (sym read) ∙ first-time same_pair pair pair-same pair-itself met i c.self.invariant.once lt in
    let puts = c.in_ok-put.ensures.ok in
    let len : i ≡ length (take i met) = search rules in
    λ p.
    finds-more same_pair pair pair-same pair-itself (pair_in c.loop-number.grid) (pair_in c.put.new.self) (take i met) pair
    c.loop-number.invariant (c.loop-number.invariant pair ∙ absent) (puts.there ∙ ap Some len) puts.others p
    ∙ ap (λ (ps : List (ℕ × ℕ)). place_of_pair ps p) (ap (λ q. take i met ++ q ∷ []) (sym read) ∙ sym (take_more met i pair lt))

pub invariant_of-self : goal.invariant_of-self
invariant_of-self c =
    let met = c.self.inside.met.items in
    let end : c.loop-number.number ≡ length met = search rules in
    let all : take c.loop-number.number met ≡ met = ap (λ (n : ℕ). take n met) end ∙ take-length met in
    record {
      once = c.self.invariant.once;
      found = λ p. c.loop-number.invariant p ∙ ap (λ (ps : List (ℕ × ℕ)). place_of_pair ps p) all;
    }
