use Rattle.std.proofs.Common.{◌*◌, ◌+◌, ◌++◌, ◌≡◌, ◌∙◌, ℕ, List, ap, arith, get_or}
use Rattle.std.specs.List.{filter, range_with_len}
use Rattle.cq_vectors_masks.specs.Plane.{is_set}
use Rattle.cq_vectors_masks.specs.Walk.{set_bits, all_places}
use Rattle.cq_vectors_masks.proofs.WalkLemmas.{words_step}
use Rattle.cq_vectors_masks.proofs.walk.walk_words.Goals as goal

pub loop-k-preserved : goal.loop-k-preserved
loop-k-preserved c =
    let i = c.loop-k.invariant in
    let k = c.loop-k.k in
    let word = set_bits 64 (64 * k) (get_or c.args.words.now k 0) in
    let next : 64 * (k + 1) ≡ 64 * (k + 1) = omega arith in
    (omega (arith, i.0, c.walk_word-n.ensures.few), c.walk_word-n.auto.to ∙ i.1, c.walk_word-n.ensures.walked ∙ ap (λ (l : List ℕ). l ++ word) i.2 ∙ words_step c.args.words.now k (64 * (k + 1)) next)

pub returns-clause-places : goal.returns-clause-places
unfolding all_places
returns-clause-places c =
    let all : 64 * c.loop-k.k ≡ 1024 = omega arith in
    c.loop-k.invariant.2 ∙ ap (λ (n : ℕ). filter (is_set c.args.words.now) (range_with_len 0 n)) all
