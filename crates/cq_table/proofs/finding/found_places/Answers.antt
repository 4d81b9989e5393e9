use Rattle.std.proofs.Common.{◌≡◌, ◌∙◌, ◌++◌, [], List, ℕ, ap, arith, filter, length, rules, subst, sym}
use Rattle.std.specs.List.{AllByRecursion}
use Rattle.std.proofs.lemmas.List.{append-nil, length-append}
use Rattle.cq_model.specs.Meaning.{keeps}
use Rattle.cq_model_bags.proofs.Lists.{all-front}
use Rattle.cq_model.specs.Width.{IsNarrowIn}
use Rattle.cq_segments_pieces.specs.Marked.{live}
use Rattle.cq_table_columns.specs.Stored.{all_rows, front_rows, marked_rows, stored_marked}
use Rattle.cq_table.specs.Found.{passes}
use Rattle.cq_table.proofs.Founds.{all-behind, none-pass, places-split}
use Rattle.cq_table.proofs.finding.found_places.Goals as goal

pub find_in-requires-clause-narrow : goal.find_in-requires-clause-narrow
find_in-requires-clause-narrow c =
    let narrow = IsNarrowIn c.args.condition.now in
    all-front narrow (front_rows c.split_piece.result.0) (all_rows c.split_piece.result.1) (subst (AllByRecursion narrow) c.split_piece.ensures.rows c.loop-left.invariant.narrow)

pub find_in-requires-clause-counted : goal.find_in-requires-clause-counted
find_in-requires-clause-counted c =
    let front = marked_rows c.split_piece.result.0 in
    let rest = stored_marked c.split_piece.result.1 in
    omega (arith, c.requires.few, c.loop-left.invariant.counted, ap length c.split_piece.ensures.parts, length-append front rest)

pub loop-left-preserved : goal.loop-left-preserved
loop-left-preserved c =
    let l = c.loop-left in
    let front = marked_rows c.split_piece.result.0 in
    let rest = stored_marked c.split_piece.result.1 in
    record {
      found = places-split (passes (keeps c.args.condition.now)) l.before c.span-before.result front rest _ c.split_piece.ensures.parts c.span-before.ensures l.found.items _ c.in_ok-find_in.ensures ∙ l.invariant.found;
      counted = omega (arith, l.invariant.counted, c.span-before.ensures, ap length c.split_piece.ensures.parts, length-append front rest);
      narrow = all-behind (IsNarrowIn c.args.condition.now) (all_rows l.left) (front_rows c.split_piece.result.0) (all_rows c.split_piece.result.1) c.split_piece.ensures.rows l.invariant.narrow;
    }

pub loop-left-preserved-in-Some : goal.loop-left-preserved-in-Some
loop-left-preserved-in-Some c =
    let l = c.loop-left in
    let segment = c.in-Some.segment.now in
    let rest = stored_marked c.in-Some.rest in
    let keep = keeps c.args.condition.now in
    let none = none-pass keep l.before segment c.in-Some.ensures.none in
    let same = sym (append-nil l.found.items) ∙ ap (λ (ps : List ℕ). l.found.items ++ ps) (sym none) in
    record {
      found = places-split (passes keep) l.before c.len-before.result segment rest _ c.in-Some.ensures.parts c.len-before.ensures.len l.found.items _ same ∙ l.invariant.found;
      counted = omega (arith, l.invariant.counted, c.len-before.ensures.len, ap length c.in-Some.ensures.parts, length-append segment rest);
      narrow = all-behind (IsNarrowIn c.args.condition.now) (all_rows l.left) (live segment) (all_rows c.in-Some.rest) c.in-Some.ensures.rows l.invariant.narrow;
    }

pub returns : goal.returns
returns c =
    let l = c.loop-left in
    let none : all_rows l.left ≡ [] = search (rules, c.loop-left-test.ensures) in
    sym (append-nil l.found.items) ∙ ap (λ (ps : List ℕ). l.found.items ++ ps) (sym (none-pass (keeps c.args.condition.now) l.before (stored_marked l.left) (ap (filter (keeps c.args.condition.now)) none))) ∙ l.invariant.found
