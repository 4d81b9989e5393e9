use Rattle.std.proofs.Common.{◌≡◌, ◌∙◌, ◌∷◌, [], List, ap, length, map, refl, rules, subst, sym}
use Rattle.cq_values.specs.Value.{Row}
use Rattle.cq_values.specs.declared.truth.Truth.{Truth}
use Rattle.cq_values.specs.declared.value.Value.{Value}
use Rattle.cq_values.specs.declared.value.Value.TheVariants.{Text}
use Rattle.std.specs.Bool.{OnTrue}
use Rattle.std.proofs.lemmas.List.{length-map}
use Rattle.std.specs.Simd.Lanes.{zip2}
use Rattle.cq_values.specs.Comparison.{compared}
use Rattle.cq_model.specs.Eval.{eval}
use Rattle.cq_model.specs.Trees.{expr_of}
use Rattle.cq_operators_scans.specs.Constant.{HasValue}
use Rattle.cq_operators_scans.proofs.truths.compared_with.Goals as goal

-- a constant on the right
zip2-constant : (f : Value → Value → Truth) (vs : List Value) (rows : List Row) (x : Value) → length vs ≡ length rows → map (λ v. f v x) vs ≡ zip2 f vs (map (λ row. x) rows)
zip2-constant f [] [] x same = refl
zip2-constant f [] (row ∷ rows) x same = absurd (cc same)
zip2-constant f (v ∷ vs) [] x same = absurd (cc same)
zip2-constant f (v ∷ vs) (row ∷ rows) x same = ap (λ (ts : List Truth). f v x ∷ ts) (zip2-constant f vs rows x (cc same))

-- an expression that has one value everywhere
one-value : (f : Row → Value) (x : Value) → ((row : Row) → f row ≡ x) → (rows : List Row) → map f rows ≡ map (λ row. x) rows
one-value f x is [] = refl
one-value f x is (row ∷ rows) = λ i. is row i ∷ one-value f x is rows i

pub compared-truths-requires : goal.compared-truths-requires
compared-truths-requires c = c.requires.same ∙ sym (ap length (c.vector.ensures ∙ c.in_ok-others.ensures) ∙ length-map c.args.scan.now (eval (expr_of c.args.expr.now)))

pub returns : goal.returns
returns c = c.compared-truths.ensures ∙ ap (zip2 (compared c.args.comparison) c.args.values.now) (c.vector.ensures ∙ c.in_ok-others.ensures)

pub returns-then-is_known : goal.returns-then-is_known
returns-then-is_known c =
    let by = compared c.args.comparison in
    let vs = c.args.values.now in
    let rows = c.args.scan.now in
    let text : Value = Text c.in-Some-Text.text.now in
    let found : c.compare_known.new.to ≡ map (λ v. by v text) vs = subst (λ known. OnTrue known (c.compare_known.new.to ≡ map (λ v. by v text) vs)) c.if-is_known.true c.in_ok-is_known.ensures in
    let each : HasValue (expr_of c.args.expr.now) c.in-Some-Text.field-0 = c.in-Some-Text.ensures in
    let all : map (eval (expr_of c.args.expr.now)) rows ≡ map (λ row. text) rows = one-value (eval (expr_of c.args.expr.now)) text (λ row. each row ∙ search rules) rows in
    found ∙ zip2-constant by vs rows text c.requires.same ∙ ap (zip2 by vs) (sym all)
