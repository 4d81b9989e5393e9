use Rattle.std.proofs.Common.{◌++◌, ◌∷◌, [], subst, sym}
use Rattle.cq_vectors_masks.specs.Plane.{Packs}
use Rattle.cq_vectors_masks.proofs.PushLemmas.{Packs-push_clear, Packs-push_flag}
use Rattle.cq_vectors_masks.proofs.plane.push_bit.Goals as goal

pub returns-then-not-flag : goal.returns-then-not-flag
returns-then-not-flag c = λ bs same packs. subst (λ b. Packs c.args.words.now (bs ++ b ∷ [])) (sym c.if-not-flag.true) (Packs-push_clear c.args.words.now bs packs)

pub returns : goal.returns
returns c = λ bs same packs. Packs-push_flag c.args.words.now bs c.args.flag c.args.place c.if-not-flag.false c.told-words c.requires same packs
