use Rattle.std.proofs.Common.{ℕ, List, Option, ◌∙◌, ap, map}
use Rattle.std.specs.List.{zip}
use Rattle.std.proofs.lemmas.Result.{on_ok_weaker}
use Rattle.cq_hash_keys.specs.Pairs.{place_of_both}
use Rattle.cq_hash_keys_values.specs.Values.{place_in}
use Rattle.cq_hash_keys.proofs.Zips.{zip-second}
use Rattle.cq_hash_keys.proofs.stage.Stage.find.Goals as goal

pub returns : goal.returns
returns c =
    let stage = c.args.self.now in
    let firsts = c.args.firsts.now in
    on_ok_weaker c.find-2.result
    (λ is.
    is ∙ ap (λ (ns : List (Option ℕ)). map (place_of_both stage.pairs) (zip firsts ns)) (c.as_slice.ensures.value ∙ c.in_ok-find.ensures)
    ∙ zip-second (place_in stage.values) (place_of_both stage.pairs) firsts c.args.column.now)
    c.find-2.ensures
