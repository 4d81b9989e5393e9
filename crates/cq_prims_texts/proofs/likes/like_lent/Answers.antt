use Rattle.std.proofs.Common.{◌≡◌, ◌∙◌, arith, ap, map, get_or, ℕ, length}
use Rattle.std.specs.List.{range_with_len}
use Rattle.std.proofs.lemmas.List.FromFn.{length-map-range_with_len}
use Rattle.cq_values.specs.declared.value.Value.TheVariants.{Null}
use Rattle.cq_prims_texts.specs.NoText.{is_no_text}
use Rattle.cq_prims_texts.proofs.Liked.{by_liked}
use Rattle.cq_prims_texts.proofs.likes.like_lent.Goals as goal

pub set_known_by-requires : goal.set_known_by-requires
set_known_by-requires c =
    let long : length c.set_where.new.self ≡ length c.args.a.now =
    ap length c.set_where.ensures ∙ length-map-range_with_len (λ i. is_no_text (get_or c.args.a.now i Null)) 0 _ ∙ c.len.ensures.len in
    omega (arith, long)

pub returns : goal.returns
returns c =
    let xs = c.args.a.now in
    let flags = c.set_where.ensures ∙ ap (λ (n : ℕ). map (λ i. is_no_text (get_or xs i Null)) (range_with_len 0 n)) c.len.ensures.len in
    c.set_known_by.ensures ∙ by_liked c.args.pattern.now xs _ flags
