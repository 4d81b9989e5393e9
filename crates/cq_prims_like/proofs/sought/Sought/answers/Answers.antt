use Rattle.std.proofs.Common.{◌∙◌, ◌≡◌, ◌<◌, ◌+◌, ◌-◌, ◌*◌, ◌^◌, ◌∷◌, ap, arith, bit_or, get_or, length, rules, subst, sym, Bool, []}
use Rattle.std.specs.Prelude.{IfSome}
use Rattle.std.specs.Simd.Lanes.{mask_l}
use Rattle.memchr.specs.Find.{FindsNeedle}
use Rattle.cq_vectors_masks.proofs.BlockLemmas.{answer_more}
use Rattle.cq_prims_like.specs.Patterns.{PatternByRun}
use Rattle.cq_prims_like.proofs.RunLemmas.{IsByRun, answers_so_far, begins_at, begins_inside, ends_at, ends_behind, ends_inside, fits_text, found_at, no_answer_at}
use Rattle.cq_prims_like.proofs.sought.Sought.answers.Goals as goal
use Rattle.cq_prims_like.proofs.sought.Sought.answers.Goals.{then-ends_by, else-ends_by}

pub loop-i-init : goal.loop-i-init
loop-i-init c = record {
  word = search rules;
  next = (0, omega arith, subst (λ (s : PatternByRun). FindsNeedle c.bytes_of-bytes.result.now s.run 0 c.find-next.result) c.self.view_is c.find-next.ensures);
}

pub overflow_sub-end : goal.overflow_sub-end
overflow_sub-end c =
    omega (arith, ends_at c.args.texts.now c.args.start c.loop-i.i c.requires.there (omega (arith, c.loop-i-test.true)) _ _ c.start-base.ensures c.end.ensures)

pub overflow_sub-begin : goal.overflow_sub-begin
overflow_sub-begin c =
    omega (arith, begins_at c.args.texts.now c.args.start c.loop-i.i c.requires.there (omega (arith, c.loop-i-test.true)) _ _ c.start-base.ensures c.start.ensures)

pub next_from-here-requires-clause-within : goal.next_from-here-requires-clause-within
next_from-here-requires-clause-within c =
    let lt : c.loop-i.i < 64 = omega (arith, c.loop-i-test.true) in
    let begin = begins_at c.args.texts.now c.args.start c.loop-i.i c.requires.there lt _ _ c.start-base.ensures c.start.ensures in
    omega (arith, begin, begins_inside c.args.texts.now c.args.start c.loop-i.i c.requires.there lt _ c.bytes_of-bytes.ensures.bytes)

pub next_from-here-requires-clause-known : goal.next_from-here-requires-clause-known
next_from-here-requires-clause-known c =
    let lt : c.loop-i.i < 64 = omega (arith, c.loop-i-test.true) in
    let begin = begins_at c.args.texts.now c.args.start c.loop-i.i c.requires.there lt _ _ c.start-base.ensures c.start.ensures in
    let known = c.loop-i.invariant.next in
    (known.0, omega (arith, known.1, begin), subst (λ (s : PatternByRun). FindsNeedle c.bytes_of-bytes.result.now s.run known.0 c.loop-i.next) (sym c.self.view_is) known.2)

pub fits_at-requires-clause-found : goal.fits_at-requires-clause-found
fits_at-requires-clause-found c =
    let texts = c.args.texts.now in
    let start = c.args.start in
    let lt : c.loop-i.i < 64 = omega (arith, c.loop-i-test.true) in
    let begin = begins_at texts start c.loop-i.i c.requires.there lt _ _ c.start-base.ensures c.start.ensures in
    let end = ends_at texts start c.loop-i.i c.requires.there lt _ _ c.start-base.ensures c.end.ensures in
    subst (λ (s : PatternByRun). FindsNeedle (get_or texts (start + c.loop-i.i) []) s.run 0 c.place_within-first.result) c.self.view_is
    (found_at texts start c.loop-i.i c.requires.there lt _ c.bytes_of-bytes.ensures.bytes _ _ _ _ _ (omega (arith, begin)) (omega (arith, end)) c.place_within-first.ensures c.next_from-here.ensures)

pub next_from-next-requires-clause-within : goal.next_from-next-requires-clause-within
next_from-next-requires-clause-within c =
    let lt : c.loop-i.i < 64 = omega (arith, c.loop-i-test.true) in
    let end = ends_at c.args.texts.now c.args.start c.loop-i.i c.requires.there lt _ _ c.start-base.ensures c.end.ensures in
    omega (arith, end, ends_inside c.args.texts.now c.args.start c.loop-i.i c.requires.there lt _ c.bytes_of-bytes.ensures.bytes)

pub next_from-next-requires-clause-known : goal.next_from-next-requires-clause-known
next_from-next-requires-clause-known c =
    let lt : c.loop-i.i < 64 = omega (arith, c.loop-i-test.true) in
    let begin = begins_at c.args.texts.now c.args.start c.loop-i.i c.requires.there lt _ _ c.start-base.ensures c.start.ensures in
    let end = ends_at c.args.texts.now c.args.start c.loop-i.i c.requires.there lt _ _ c.start-base.ensures c.end.ensures in
    let longer = ends_behind c.args.texts.now c.args.start c.loop-i.i c.requires.there lt _ c.bytes_of-bytes.ensures.bytes in
    (c.start.result - c.start-base.result, omega (arith, begin, end, longer), c.next_from-here.ensures)

pub loop-i-preserved : goal.loop-i-preserved
loop-i-preserved c =
    let texts = c.args.texts.now in
    let start = c.args.start in
    let i = c.loop-i.i in
    let bytes = c.bytes_of-bytes in
    let known = c.loop-i.invariant in
    let lt : i < 64 = omega (arith, c.loop-i-test.true) in
    let end = ends_at texts start i c.requires.there lt _ _ c.start-base.ensures c.end.ensures in
    let longer = ends_behind texts start i c.requires.there lt bytes.result.now bytes.ensures.bytes in
    let to = c.end.result - c.start-base.result in
    elim c.if-ends_by.branch [
      | then-ends_by w ↦
          let one = w.flag_bit-word.ensures ∙ ap (λ (b : Bool). mask_l (b ∷ []) * 2 ^ i) w.fits_at.ensures in
          let found = subst (λ (s : PatternByRun). FindsNeedle bytes.result.now s.run to w.next_from-next.result) c.self.view_is w.next_from-next.ensures in
          record {
            word = w.word-is ∙ ap (bit_or c.loop-i.word) one ∙ answer_more (fits_text c.args.self.now.pattern texts) start i c.loop-i.word known.word;
            next = (to, omega (arith, end), rw w.next-is found);
          }
      | else-ends_by w ↦
          let form = c.self.inside.form.now in
          let by_run = subst (IsByRun form) c.self.view_is c.self.invariant in
          let late = subst (λ (s : PatternByRun). IfSome c.loop-i.next (λ place. to < place + length s.run)) c.self.view_is w.if-ends_by.ensures in
          record {
            word = w.word-is ∙ no_answer_at texts start i c.requires.there lt bytes.result.now bytes.ensures.bytes form c.args.self.now by_run bytes.ensures.utf8 known.next.0 to c.loop-i.word c.loop-i.next known.next.1 (omega (arith, end)) known.next.2 late known.word;
            next = (known.next.0, omega (arith, known.next.1, longer), rw w.next-is known.next.2);
          }
    ]

pub returns : goal.returns
returns c =
    let all : c.loop-i.i ≡ 64 = omega (arith, c.loop-i-test.false) in
    c.loop-i.invariant.word ∙ ap (answers_so_far c.args.self.now.pattern c.args.texts.now c.args.start) all
