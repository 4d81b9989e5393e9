-- Rows that groups take in turn are taken together.
use Rattle.std.proofs.Common.{◌≡◌, ◌∙◌, ◌<◌, ◌^◌, ℕ, List, [], ◌++◌, length-append, refl, sym, ap, subst, arith}
use Rattle.std.proofs.lemmas.List.{append-nil, append_assoc, map-append}
use Rattle.cq_values.specs.Value.{Row}
use Rattle.cq_model_bags.proofs.Linears.{filtered-append}
use Rattle.cq_model_bags.specs.Bag.{Weighted}
use Rattle.cq_deltas.specs.Additions.{Addition, addition, additions}
use Rattle.cq_deltas.specs.Keyed.{additions_at}
use Rattle.cq_model.specs.Meaning.{keeps}
use Rattle.cq_model.specs.declared.query.Query.{Query}
use Rattle.cq_views_state.specs.Counting.{CountsEach}
use Rattle.cq_views_state.specs.Grouping.{CanTake, Keeps, Takes, kept_additions}
use Rattle.cq_views_state.specs.Last.{GroupsStay, kept_rows}
use Rattle.cq_views_model.specs.Query.{CanBeKept, aggregates_of, key_columns}
use Rattle.cq_views_state.specs.declared.grouping.GroupTaker.{GroupTaker}

additions-append : (query : Query) (xs ys : Weighted) → kept_additions query (xs ++ ys) ≡ kept_additions query xs ++ kept_additions query ys
additions-append query xs ys =
    ap (additions (key_columns query) (aggregates_of query)) (filtered-append (keeps query.filter) xs ys)
    ∙ map-append (addition (key_columns query) (aggregates_of query)) (kept_rows query xs) (kept_rows query ys)

-- each of the rows of two runs counts one
pub each-none : (n : ℕ) → CountsEach n [] n
each-none n fits = omega (arith, fits)

pub each-more : (a b c : ℕ) (xs ys : Weighted) → CountsEach a xs b → CountsEach b ys c → CountsEach a (xs ++ ys) c
each-more a b c xs ys first second fits =
    let here = first fits in
    let there : b < 2 ^ 128 = omega (arith, here) in
    omega (arith, here, second there, length-append xs ys)

pub takes-none : (t : GroupTaker) → Takes t [] t
takes-none t = record {
  query = refl;
  added = sym (append-nil (additions_at t.groups t.change));
  keys = λ keys. keys;
  ticks = each-none t.ticks;
}

-- what two runs add, one behind the other, is what all their rows add
added-more : (a b c : GroupTaker) (xs ys : Weighted) → Takes a xs b → Takes b ys c
    → additions_at c.groups c.change ≡ additions_at a.groups a.change ++ kept_additions a.query.now (xs ++ ys)
added-more a b c xs ys first second =
    let before = additions_at a.groups a.change in
    let adds : Query → List Addition → List Addition = λ q zs. zs ++ kept_additions q ys in
    let more : additions_at c.groups c.change ≡ adds a.query.now (additions_at b.groups b.change) = second.added ∙ ap (λ (q : Query). adds q (additions_at b.groups b.change)) first.query in
    more ∙ ap (adds a.query.now) first.added ∙ append_assoc before (kept_additions a.query.now xs) (kept_additions a.query.now ys)
    ∙ ap (λ (zs : List Addition). before ++ zs) (sym (additions-append a.query.now xs ys))

pub takes-more : (a b c : GroupTaker) (xs ys : Weighted) → Takes a xs b → Takes b ys c → Takes a (xs ++ ys) c
takes-more a b c xs ys first second = record {
  query = second.query ∙ first.query;
  added = added-more a b c xs ys first second;
  keys = λ keys. second.keys (first.keys keys);
  ticks = each-more a.ticks b.ticks c.ticks xs ys first.ticks second.ticks;
}

pub keeps-itself : (t : GroupTaker) → Keeps t t
keeps-itself t = record { query = refl; same = λ k. refl; more = omega arith }

pub keeps-more : (a b c : GroupTaker) → Keeps a b → Keeps b c → Keeps a c
keeps-more a b c first second =
    let same = subst (λ (q : Query). GroupsStay q b.groups c.groups) first.query second.same in
    record { query = second.query ∙ first.query; same = λ k. same k ∙ first.same k; more = omega (arith, first.more, second.more) }

pub fits-still : (a b : GroupTaker) (xs : Weighted) (r : Row) → Takes a xs b → CanTake a r → CanTake b r
fits-still a b xs r takes fits =
    record { can = subst (λ (q : Query). CanBeKept q) (sym takes.query) fits.can; stored = fits.stored; keys = takes.keys fits.keys }
