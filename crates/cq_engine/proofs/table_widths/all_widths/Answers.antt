use Rattle.std.proofs.Common.{◌≡◌, ◌∙◌, ◌+◌, ℕ, List, [], ◌∷◌, ◌++◌, take, get_or, sym, ap, subst, arith}
use Rattle.std.proofs.lemmas.List.{take_all, take_more}
use Rattle.std.proofs.lemmas.Slice.Zip.{all_zipped_more}
use Rattle.std.specs.List.{AllZip}
use Rattle.cq_model.specs.declared.query.Source.{Source}
use Rattle.cq_model.specs.declared.query.Source.TheVariants.{Table}
use Rattle.cq_engine_tables.specs.Views.{IsWide}
use Rattle.cq_engine.proofs.TableColumns.{sum-more}
use Rattle.cq_engine_tables.specs.HeldTables.{tables_of}
use Rattle.cq_engine.proofs.table_widths.all_widths.Goals as goal

-- one source more has its width
pub loop-source-preserved : goal.loop-source-preserved
loop-source-preserved c =
    let R = IsWide (tables_of c.args.tables.now) in
    let sources = c.args.sources.now in
    let i = c.loop-source.source-index in
    let s = get_or sources i (Table 0) in
    let wide = c.width_of-wide.result in
    let more : take (i + 1) sources ≡ take i sources ++ s ∷ [] = take_more sources i (Table 0) c.loop-source-test.true in
    rw c.in_ok-push.ensures.ok (
      subst (λ (ss : List Source). AllZip R ss (c.loop-source.widths ++ wide ∷ [])) (sym more) (all_zipped_more R (take i sources) c.loop-source.widths s wide c.loop-source.invariant.0 c.width_of-wide.ensures),
      sum-more c.loop-source.widths wide ∙ ap (λ (n : ℕ). n + wide) c.loop-source.invariant.1 ∙ sym c.in_ok-total.ensures.wider,
      c.in_ok-total.ensures.counted,
    )

pub returns-clause-wide : goal.returns-clause-wide
returns-clause-wide c =
    let sources = c.args.sources.now in
    subst (λ (ss : List Source). AllZip (IsWide (tables_of c.args.tables.now)) ss c.loop-source.widths) (take_all c.loop-source.source-index sources c.loop-source-test.false) c.loop-source.invariant.0

pub returns-clause-sum : goal.returns-clause-sum
returns-clause-sum c = omega (arith, c.loop-source.invariant.1, c.loop-source.invariant.2)
