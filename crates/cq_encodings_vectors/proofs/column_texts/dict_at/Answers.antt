use Rattle.std.proofs.Common.{◌∙◌}
use Rattle.cq_encodings_vectors.proofs.CodesAt.{codes-below, codes-clear, codes-known, codes-made}
use Rattle.cq_encodings_vectors.proofs.column_texts.dict_at.Goals as goal

pub offsets_at-requires : goal.offsets_at-requires
offsets_at-requires c =
    let p = c.parts in
    codes-below p.result.0.now p.result.1.now p.result.2.now p.ensures.parts c.args.dict.now p.ensures.whole c.args.places.now c.requires.there c.in-Some.ensures

pub own-requires-clause-clear : goal.own-requires-clause-clear
own-requires-clause-clear c =
    let p = c.parts in
    codes-clear p.result.0.now p.result.1.now p.result.2.now p.ensures.parts c.args.dict.now p.ensures.whole c.args.places.now c.requires.there c.in-Some.ensures
    c.in_ok-copied.ensures c.flags_of-flags.ensures

pub own-requires-clause-known : goal.own-requires-clause-known
own-requires-clause-known c =
    let p = c.parts in
    codes-known p.result.0.now p.result.1.now p.result.2.now p.ensures.parts c.args.dict.now p.ensures.whole c.args.places.now c.requires.there c.in-Some.ensures
    c.in_ok-copied.ensures c.flags_of-flags.ensures

pub returns : goal.returns
returns c =
    let p = c.parts in
    c.in_ok-texts.ensures
    ∙ codes-made p.result.0.now p.result.1.now p.result.2.now p.ensures.parts c.args.dict.now p.ensures.whole c.args.places.now c.requires.there c.in-Some.ensures
    c.in_ok-copied.ensures c.flags_of-flags.ensures
