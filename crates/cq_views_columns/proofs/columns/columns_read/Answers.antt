use Rattle.std.proofs.Common.{◌≡◌, ℕ, Bool, true, false, List, [], ◌∷◌, ◌++◌, rules, tests, sym, ◌∙◌, ap}
use Rattle.cq_views_columns.specs.Reads.{is_read}
use Rattle.cq_views_columns.proofs.Sources.{filter-with, filter-without}
use Rattle.cq_views_columns.proofs.columns.columns_read.Goals as goal
use Rattle.cq_views_columns.proofs.columns.columns_read.Goals.{then-is_read+in_ok-push, else-is_read}

pub loop-column-preserved : goal.loop-column-preserved
loop-column-preserved c =
    let p : ℕ → Bool = is_read c.args.query.now c.args.widths.now c.args.source in
    let n = c.loop-column.column in
    elim c.if-is_read.branch [
      | then-is_read+in_ok-push w ↦
          let more : c.if-is_read.columns ≡ c.loop-column.columns ++ n ∷ [] = search rules in
          let yes : p n ≡ true = search (rules, tests) in
          more ∙ ap (λ (cs : List ℕ). cs ++ n ∷ []) c.loop-column.invariant ∙ sym (filter-with p n yes)
      | else-is_read w ↦
          let same : c.if-is_read.columns ≡ c.loop-column.columns = search rules in
          let no : p n ≡ false = search (rules, tests) in
          same ∙ c.loop-column.invariant ∙ sym (filter-without p n no)
    ]
