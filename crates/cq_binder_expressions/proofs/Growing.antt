-- The aggregates in what is written are put behind the others.
use Rattle.std.proofs.Common.{◌≡◌, sym, List, [], ◌∷◌, ◌++◌, refl, ap, ◌∙◌, append_assoc}
use Rattle.std.proofs.lemmas.List.{append-nil}
use Rattle.cq_model.specs.declared.query.Aggregate.{Aggregate as Shown}
use Rattle.cq_model.specs.declared.query.Aggregate.TheVariants as shown
use Rattle.cq_binder_rules.specs.Placed.{aggregate_of, placed_expr, with_aggregates, with_choices}
use Rattle.cq_sql_language.specs.Written.{Written, Choices, Number, Text, Date, Null, Column, Extract, CountAll, Aggregate, Parens, Negative, Times, Plus, Minus, Compare, IsNull, Between, In, Like, Not, And, Or, NoChoice, Choice}
use Rattle.cq_binder_rules.specs.Typing.{Scope, rows_in}

-- a list goes on from another
abbrev pub Grows : List Shown → List Shown → Type 0
Grows before after = (rest : List Shown) × (after ≡ before ++ rest)

same_list : (xs : List Shown) → Grows xs xs
same_list xs = ([], sym (append-nil xs))

both_grow : (xs ys zs : List Shown) → Grows xs ys → Grows ys zs → Grows xs zs
both_grow xs ys zs g h = (g.0 ++ h.0, h.1 ∙ ap (λ us. us ++ h.0) g.1 ∙ append_assoc xs g.0 h.0)

module _ (s : Scope) where
  mutual
    pub grows : (before : List Shown) (w : Written) → Grows before (with_aggregates s before w)
    grows before (Number n) = same_list before
    grows before (Text b) = same_list before
    grows before (Date b) = same_list before
    grows before Null = same_list before
    grows before (Column c) = same_list before
    grows before (Extract part a) = grows before a
    grows before CountAll = (shown.CountAll ∷ [], refl)
    grows before (Aggregate function a) = (aggregate_of function (placed_expr (rows_in s) [] a) ∷ [], refl)
    grows before (Parens a) = grows before a
    grows before (Negative a) = grows before a
    grows before (Times a b) = both_grow before (with_aggregates s before a) _ (grows before a) (grows (with_aggregates s before a) b)
    grows before (Plus a b) = both_grow before (with_aggregates s before a) _ (grows before a) (grows (with_aggregates s before a) b)
    grows before (Minus a b) = both_grow before (with_aggregates s before a) _ (grows before a) (grows (with_aggregates s before a) b)
    grows before (Compare c a b) = both_grow before (with_aggregates s before a) _ (grows before a) (grows (with_aggregates s before a) b)
    grows before (IsNull negated a) = grows before a
    grows before (Between negated a least greatest) =
        let low = with_aggregates s before a in
        let high = with_aggregates s low least in
        both_grow before low _ (grows before a) (both_grow low high _ (grows low least) (grows high greatest))
    grows before (In negated a bs) =
        let low = with_aggregates s before a in
        both_grow before low _ (grows before a) (choices-grow low bs)
    grows before (Like negated a pattern) = grows before a
    grows before (Not a) = grows before a
    grows before (And a b) = both_grow before (with_aggregates s before a) _ (grows before a) (grows (with_aggregates s before a) b)
    grows before (Or a b) = both_grow before (with_aggregates s before a) _ (grows before a) (grows (with_aggregates s before a) b)

    pub choices-grow : (before : List Shown) (bs : Choices) → Grows before (with_choices s before bs)
    choices-grow before NoChoice = same_list before
    choices-grow before (Choice b bs) =
        let low = with_aggregates s before b in
        both_grow before low _ (grows before b) (choices-grow low bs)
