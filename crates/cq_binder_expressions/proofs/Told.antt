-- What holds of COUNT of all rows, and of each aggregate of an argument without a fault, holds of all aggregates in what has no fault.
use Rattle.std.proofs.Common.{◌≡◌, Bool, true, List, [], Result, Ok, Err, refl}
use Rattle.std.specs.Prelude.{◌&&◌}
use Rattle.std.specs.List.{AllByRecursion}
use Rattle.cq_sql_language.specs.declared.written.AggregateFunction.{AggregateFunction}
use Rattle.cq_sql_language.specs.Written.{Written, Choices, Number, Text, Date, Null, Column, Extract, CountAll, Aggregate, Parens, Negative, Times, Plus, Minus, Compare, IsNull, Between, In, Like, Not, And, Or, NoChoice, Choice}
use Rattle.cq_model.specs.declared.query.Aggregate.{Aggregate as Shown}
use Rattle.cq_model.specs.declared.query.Aggregate.TheVariants as shown
use Rattle.cq_model_bags.proofs.Lists.{all-push}
use Rattle.cq_binder_rules.specs.declared.fault.Fault.{Fault}
use Rattle.cq_binder_rules.specs.declared.typing.Typing.{Typing}
use Rattle.cq_binder_rules.specs.Kinds.{◌and_then◌, aggregated, agree, between_them, compared_with, connected, like_of, negation_of, negative, part_of, product_of, sum_of, tested, text_of}
use Rattle.cq_binder_rules.specs.Placed.{aggregate_of, placed_expr, with_aggregates, with_choices}
use Rattle.cq_binder_rules.specs.Typing.{Scope, listed, of_group, rows_in, typed}

-- what stands behind a first step, stands behind what that step gives
pub stood : {A B : Type 0} (r : Result A Fault) (g : A → Result B Fault) (y : B) → (r and_then g) ≡ Ok y → (x : A) × (r ≡ Ok x) × (g x ≡ Ok y)
stood (Ok x) g y e = (x, refl, e)
stood (Err f) g y e = absurd (cc e)

module _ (s : Scope) (P : Shown → Type 0) (count : P shown.CountAll) (told : (function : AggregateFunction) (a : Written) (t : Typing) → typed (rows_in s) a ≡ Ok t → P (aggregate_of function (placed_expr (rows_in s) [] a))) where
  abbrev AreAll : List Shown → Type 0
  AreAll aggregates = AllByRecursion P aggregates

  -- of two parts, the second behind the first
  two : (f : Typing → Typing → Result Typing Fault) (before : List Shown) (a b : Written) (t : Typing) → (typed s a and_then λ x. typed s b and_then f x) ≡ Ok t → AreAll before
      → ((x : Typing) → typed s a ≡ Ok x → AreAll before → AreAll (with_aggregates s before a))
      → ((y : Typing) → typed s b ≡ Ok y → AreAll (with_aggregates s before a) → AreAll (with_aggregates s (with_aggregates s before a) b))
      → AreAll (with_aggregates s (with_aggregates s before a) b)
  two f before a b t e all first second =
      let p = stood (typed s a) (λ x. typed s b and_then f x) t e in
      let q = stood (typed s b) (f p.0) t p.2 in
      second q.0 q.1 (first p.0 p.1 all)

  mutual
    pub all_told : (before : List Shown) (w : Written) (t : Typing) → typed s w ≡ Ok t → AreAll before → AreAll (with_aggregates s before w)
    all_told before (Number n) t e all = all
    all_told before (Text b) t e all = all
    all_told before (Date b) t e all = all
    all_told before Null t e all = all
    all_told before (Column c) t e all = all
    all_told before (Extract part a) t e all = let p = stood (typed s a) (part_of part) t e in all_told before a p.0 p.1 all
    all_told before CountAll t e all = all-push P before shown.CountAll all count
    all_told before (Aggregate function a) t e all =
        let p = stood (typed (rows_in s) a and_then aggregated function) (of_group s) t e in
        let q = stood (typed (rows_in s) a) (aggregated function) p.0 p.1 in
        all-push P before (aggregate_of function (placed_expr (rows_in s) [] a)) all (told function a q.0 q.1)
    all_told before (Parens a) t e all = all_told before a t e all
    all_told before (Negative a) t e all = let p = stood (typed s a) negative t e in all_told before a p.0 p.1 all
    all_told before (Times a b) t e all = two product_of before a b t e all (λ x k h. all_told before a x k h) (λ y k h. all_told (with_aggregates s before a) b y k h)
    all_told before (Plus a b) t e all = two sum_of before a b t e all (λ x k h. all_told before a x k h) (λ y k h. all_told (with_aggregates s before a) b y k h)
    all_told before (Minus a b) t e all = two sum_of before a b t e all (λ x k h. all_told before a x k h) (λ y k h. all_told (with_aggregates s before a) b y k h)
    all_told before (Compare c a b) t e all = two compared_with before a b t e all (λ x k h. all_told before a x k h) (λ y k h. all_told (with_aggregates s before a) b y k h)
    all_told before (IsNull negated a) t e all = let p = stood (typed s a) tested t e in all_told before a p.0 p.1 all
    all_told before (Between negated a least greatest) t e all =
        let p = stood (typed s a) (λ x. typed s least and_then λ l. typed s greatest and_then between_them x l) t e in
        let q = stood (typed s least) (λ l. typed s greatest and_then between_them p.0 l) t p.2 in
        let r = stood (typed s greatest) (between_them p.0 q.0) t q.2 in
        let low = with_aggregates s before a in
        all_told (with_aggregates s low least) greatest r.0 r.1 (all_told low least q.0 q.1 (all_told before a p.0 p.1 all))
    all_told before (In negated a bs) t e all =
        let p = stood (typed s a) (λ x. listed s x true bs) t e in
        choices_told (with_aggregates s before a) bs p.0 true t p.2 (all_told before a p.0 p.1 all)
    all_told before (Like negated a pattern) t e all = let p = stood (typed s a) (λ x. text_of pattern and_then like_of x) t e in all_told before a p.0 p.1 all
    all_told before (Not a) t e all = let p = stood (typed s a) negation_of t e in all_told before a p.0 p.1 all
    all_told before (And a b) t e all = two connected before a b t e all (λ x k h. all_told before a x k h) (λ y k h. all_told (with_aggregates s before a) b y k h)
    all_told before (Or a b) t e all = two connected before a b t e all (λ x k h. all_told before a x k h) (λ y k h. all_told (with_aggregates s before a) b y k h)

    choices_told : (before : List Shown) (bs : Choices) (x : Typing) (all_agree : Bool) (t : Typing) → listed s x all_agree bs ≡ Ok t → AreAll before → AreAll (with_choices s before bs)
    choices_told before NoChoice x all_agree t e all = all
    choices_told before (Choice b bs) x all_agree t e all =
        let p = stood (typed s b) (λ y. listed s x (all_agree && agree x.kind y.kind) bs) t e in
        choices_told (with_aggregates s before b) bs x (all_agree && agree x.kind p.0.kind) t p.2 (all_told before b p.0 p.1 all)
