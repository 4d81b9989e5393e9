use Rattle.std.proofs.Common.{◌≡◌, ◌∙◌, None, Some, ap, reverse, sym, rules}
use borrow.Author.Tests.{tests}
use Rattle.std.specs.List.{find}
use Rattle.std.specs.Option.{option_copied, option_map}
use Rattle.std.specs.Map.Iter.{deref_pair}
use Rattle.std.proofs.lemmas.Iterator.Search.{find_from_yields_List}
use Rattle.cq_deltas.proofs.Ends.{is_there, greatest-found, YieldsList-from_rev_rest}
use Rattle.cq_deltas.proofs.extremes.Extremes.greatest.Goals as goal

pub returns : goal.returns
returns c =
    let found : option_map deref_pair c.find.result ≡ find is_there (reverse c.self.inside.counts.entries) =
    find_from_yields_List is_there _ _ c.find.result c.find.ensures.ran (YieldsList-from_rev_rest c.self.inside.counts.entries (c.rev.ensures.source ∙ c.iter.ensures.rest)) (λ x b q k. search (rules, tests)) in
    rw (← c.self.view_is)
    (greatest-found c.self.inside.counts.entries c.self.inside.nulls (Some (c.in_ok-value.value.now, c.in_ok-value.field-0-1.now)) c.self.invariant.are
    (ap (option_map deref_pair) (sym c.in_ok-value.was) ∙ found))

pub returns-in_err-value : goal.returns-in_err-value
returns-in_err-value c =
    let found : option_map deref_pair c.find.result ≡ find is_there (reverse c.self.inside.counts.entries) =
    find_from_yields_List is_there _ _ c.find.result c.find.ensures.ran (YieldsList-from_rev_rest c.self.inside.counts.entries (c.rev.ensures.source ∙ c.iter.ensures.rest)) (λ x b q k. search (rules, tests)) in
    let none : option_copied c.from_residual.result ≡ None = search rules in
    rw (← c.self.view_is, none)
    (greatest-found c.self.inside.counts.entries c.self.inside.nulls None c.self.invariant.are
    (ap (option_map deref_pair) (sym c.in_err-value.was) ∙ found))
