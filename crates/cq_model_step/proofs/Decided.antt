-- What a script is answered with is decided by which statements were refused for want of memory, and which sources failed.
use Rattle.std.proofs.Common.{◌≡◌, ◌⊎◌, inl, inr, ℕ, Bool, true, false, List, [], ◌∷◌, map, Option, Some, None, Result, Ok, Err, refl, sym, ap, subst, ◌∙◌}
use Rattle.cq_model_bags.specs.Laws.{OneListing}
use Rattle.cq_binder_rules.specs.declared.bound.Bound.{Bound}
use Rattle.cq_sql_language.specs.declared.statement.Statement.{Statement}
use Rattle.cq_sql_language.specs.declared.token.Token.{Token}
use Rattle.cq_sql_language.specs.Tokens.{HasTokens, is_past_limits}
use Rattle.cq_sql_language.specs.Sentence.{IsStatement, IsSentence, IsNoSentence, IsPastLimits}
use Rattle.cq_sql_language.specs.Pieces.{PieceOf, HasPieces}
use Rattle.cq_model_step.specs.declared.answer.Answer.{Answer}
use Rattle.cq_binder_rules.specs.declared.fault.Fault.{Fault}
use Rattle.cq_binder_rules.specs.declared.fault.Fault.TheVariants as faults
use Rattle.cq_model_state.specs.State.{State, first_state}
use Rattle.cq_binder_rules.specs.Bound.{bound}
use Rattle.cq_binder_rules.specs.Records.{Files}
use Rattle.cq_binder_rules.specs.Refusal.{refusal}
use Rattle.cq_model_step.specs.Step.{Step, Does, Accepts, IsTooLarge, Refuses, by_walk, for_memory, source_failed, memory_on_the_way, too_large}
use Rattle.cq_model_step.specs.Output.{Serves, rest_without_semicolon, sentence, no_sentence, past_limits, out_of_memory, Runs, statements_among, not_utf8, answered, outside, HasOutcomes, RefusalsDecide}
use Rattle.cq_model_step.proofs.Alike.{Alike, alike_same, alike_turned, alike_then, refusal-alike, bound-alike}
use Rattle.cq_model_step.proofs.SameAnswers.{gives-up-alike, SameAnswer, accepts-alike, not-too-large}

abbrev Outcome : Type 0
Outcome = Result Answer Fault

-- one outcome, and states after it that are alike
pub record Same (o p : Outcome) (x y : State) : Type 0 where
  pub outcome : o ≡ p
  pub states : Alike x y

-- a refusal that is from outside is the one that it is told as
from_outside : (f g : Fault) → outside (Err f) ≡ Some g → f ≡ g
from_outside faults.Memory g e = cc
from_outside faults.SourceFailed g e = cc
from_outside f g e = absurd (cc)

-- a total that cannot be shown, where no place refuses
record HasLarge (files : Files) (x : State) (s : Statement) : Type 0 where
  pub free : refusal files x s ≡ None
  pub command : Bound
  pub is_bound : bound files x s ≡ Some command
  pub large : IsTooLarge x command

module _ (files : Files) where
  -- a refused statement leaves a state that is alike
  refused-alike : (x : State) (s : Statement) (f : Fault) (y : State) → Refuses files x s f y → Alike y x
  refused-alike x s f y (by_walk refused same) = alike_same y x same
  refused-alike x s f y (for_memory is same) = alike_same y x same
  refused-alike x s f y (source_failed reads is same) = alike_same y x same
  refused-alike x s f y (memory_on_the_way command free is_bound is gives) = gives-up-alike x command y gives
  refused-alike x s f y (too_large command free is_bound large is gives) = gives-up-alike x command y gives

  -- a refusal that is not from outside is that of the walk, or of a total
  why : (x : State) (s : Statement) (f : Fault) (y : State) → Refuses files x s f y → outside (Err f) ≡ None → (refusal files x s ≡ Some f) ⊎ ((f ≡ faults.SumOutOfRange) × HasLarge files x s)
  why x s f y (by_walk refused same) e = inl refused
  why x s f y (for_memory is same) e = absurd (let k : outside (Err f) ≡ Some faults.Memory = ap (λ (g : Fault). outside (Err g)) is in cc)
  why x s f y (source_failed reads is same) e = absurd (let k : outside (Err f) ≡ Some faults.SourceFailed = ap (λ (g : Fault). outside (Err g)) is in cc)
  why x s f y (memory_on_the_way command free is_bound is gives) e = absurd (let k : outside (Err f) ≡ Some faults.Memory = ap (λ (g : Fault). outside (Err g)) is in cc)
  why x s f y (too_large command free is_bound large is gives) e = inr (is, record { free = free; command = command; is_bound = is_bound; large = large })

  -- of two reasons for refusals of one statement
  one_fault : (x y : State) (s : Statement) (f g : Fault) → refusal files x s ≡ refusal files y s
      → (refusal files x s ≡ Some f) ⊎ ((f ≡ faults.SumOutOfRange) × HasLarge files x s) → (refusal files y s ≡ Some g) ⊎ ((g ≡ faults.SumOutOfRange) × HasLarge files y s) → f ≡ g
  one_fault x y s f g same (inl e) (inl k) = let both : Some f ≡ Some g = sym e ∙ same ∙ k in cc
  one_fault x y s f g same (inl e) (inr k) = let both : Some f ≡ None = sym e ∙ same ∙ k.1.free in absurd (cc)
  one_fault x y s f g same (inr e) (inl k) = let both : None ≡ Some g = sym e.1.free ∙ same ∙ k in absurd (cc)
  one_fault x y s f g same (inr e) (inr k) = e.0 ∙ sym k.0

  -- two refusals of one statement that are told alike
  both_refused : (x y : State) (s : Statement) (f g : Fault) (v w : State) (o : Option Fault) → refusal files x s ≡ refusal files y s → Refuses files x s f v → Refuses files y s g w → outside (Err f) ≡ o → outside (Err g) ≡ o → f ≡ g
  both_refused x y s f g v w (Some h) same r q e k = from_outside f h e ∙ sym (from_outside g h k)
  both_refused x y s f g v w None same r q e k = one_fault x y s f g same (why x s f v r e) (why y s g w q k)

  -- a command that was accepted and the reason for a refusal of it
  accepted_or_refused : (x y : State) (s : Statement) (a : Answer) (v : State) (f : Fault) → Alike x y → Does files x s a v → (refusal files y s ≡ Some f) ⊎ ((f ≡ faults.SumOutOfRange) × HasLarge files y s) → ⊥
  accepted_or_refused x y s a v f same d (inl e) = let both : None ≡ Some f = sym d.free ∙ refusal-alike files x y s same ∙ e in cc
  accepted_or_refused x y s a v f same d (inr e) =
      let commands_same : Some d.command ≡ Some e.1.command = sym d.is_bound ∙ bound-alike files x y s same ∙ e.1.is_bound in
      let one : e.1.command ≡ d.command = cc in
      not-too-large x y d.command a v same d.accepts (subst (λ (c : Bound). IsTooLarge y c) one e.1.large)

  module _ (one_listing : OneListing) where
    -- a statement that is accepted has one answer
    does_same : (x y : State) (s : Statement) (a b : Answer) (v w : State) → Alike x y → Does files x s a v → Does files y s b w → SameAnswer a b v w
    does_same x y s a b v w same h k =
        let commands_same : Some k.command ≡ Some h.command = sym k.is_bound ∙ sym (bound-alike files x y s same) ∙ h.is_bound in
        let one : k.command ≡ h.command = cc in
        accepts-alike one_listing x y h.command a b v w same h.accepts (subst (λ (c : Bound). Accepts y c b w) one k.accepts)

    -- a statement has one answer, but for what comes from outside
    pub step_same : (x y : State) (s : Statement) (o p : Outcome) (v w : State) → Alike x y → Step files x s o v → Step files y s p w → outside o ≡ outside p → Same o p v w
    step_same x y s (Ok a) (Ok b) v w same h k e =
        let answers = does_same x y s a b v w same h k in
        record { outcome = ap (λ (z : Answer). Ok z) answers.answer; states = answers.states }
    step_same x y s (Ok a) (Err f) v w same h k e = absurd (accepted_or_refused x y s a v f same h (why y s f w k (sym e)))
    step_same x y s (Err f) (Ok b) v w same h k e = absurd (accepted_or_refused y x s b w f (alike_turned x y same) k (why x s f v h e))
    step_same x y s (Err f) (Err g) v w same h k e = record {
      outcome = ap (λ (z : Fault). Err z) (both_refused x y s f g v w (outside (Err g)) (refusal-alike files x y s same) h k e refl);
      states = alike_then v x w (refused-alike x s f v h) (alike_then x y w same (alike_turned w y (refused-alike y s g w k)));
    }

    module _ (one_cut : (text : List ℕ) (ts us : List Token) → HasTokens text ts → HasTokens text us → ts ≡ us) (one_tree : (ts : List Token) (s t : Statement) → IsStatement s ts → IsStatement t ts → s ≡ t) where
      one_sentence : (text : List ℕ) (s t : Statement) → IsSentence text s → IsSentence text t → s ≡ t
      one_sentence text s t a b = one_tree a.tokens s t a.tree (subst (λ (ts : List Token). IsStatement t ts) (one_cut text b.tokens a.tokens b.told a.told) b.tree)

      not_both_ways : (text : List ℕ) (s : Statement) → IsSentence text s → IsNoSentence text → ⊥
      not_both_ways text s a n = n.no_tree a.tokens a.told s a.tree

      within_or_past : (text : List ℕ) (ts : List Token) → HasTokens text ts → is_past_limits ts ≡ false → IsPastLimits text → ⊥
      within_or_past text ts told within p =
          let same : is_past_limits p.tokens ≡ false = ap is_past_limits (one_cut text p.tokens ts p.told told) ∙ within in
          let past = p.past in
          cc

      open_or_closed : (b : Bool) → b ≡ false → b ≡ true → ⊥
      open_or_closed b e k = cc

      same_refusal : (f : Fault) (o p : Outcome) (x y v w : State) → Alike x y → o ≡ Err f → p ≡ Err f → v ≡ x → w ≡ y → Same o p v w
      same_refusal f o p x y v w same e k h j = record {
        outcome = e ∙ sym k;
        states = alike_then v x w (alike_same v x h) (alike_then x y w same (alike_turned w y (alike_same w y j)));
      }

      -- an outcome for memory leaves a state that is alike
      memory_alike : (x : State) (p : PieceOf) (o : Outcome) (v : State) → Serves (Some files) x p o v → o ≡ Err faults.Memory → Alike v x
      memory_alike x p o v (rest_without_semicolon c e h) m = alike_same v x h
      memory_alike x p o v (sentence c s t h) m = refused-alike x s faults.Memory v (subst (λ (z : Outcome). Step files x s z v) m (subst (λ (g : Files). Step g x s o v) h.1 h.2))
      memory_alike x p o v (no_sentence c n e h) m = alike_same v x h
      memory_alike x p o v (past_limits c n e h) m = alike_same v x h
      memory_alike x p o v (out_of_memory c e h) m = alike_same v x h

      -- the outcome that is told as one for memory is one
      told_memory : (o : Outcome) → outside o ≡ Some faults.Memory → o ≡ Err faults.Memory
      told_memory (Ok a) e = absurd (cc)
      told_memory (Err f) e = ap (λ (g : Fault). Err g) (from_outside f faults.Memory e)

      -- where one is for memory both are
      both_for_memory : (x y : State) (p : PieceOf) (o q : Outcome) (v w : State) → Alike x y → Serves (Some files) x p o v → Serves (Some files) y p q w → o ≡ Err faults.Memory → outside o ≡ outside q → Same o q v w
      both_for_memory x y p o q v w a h k e m =
          let other : q ≡ Err faults.Memory = told_memory q (sym m ∙ ap outside e) in
          record {
            outcome = e ∙ sym other;
            states = alike_then v x w (memory_alike x p o v h e) (alike_then x y w a (alike_turned w y (memory_alike y p q w k other)));
          }

      same_turned : (o p : Outcome) (x y : State) → Same o p x y → Same p o y x
      same_turned o p x y s = record { outcome = sym s.outcome; states = alike_turned x y s.states }

      -- what stands in a script is answered in one way, but for what comes from outside
      serves_same : (x y : State) (p : PieceOf) (o q : Outcome) (v w : State) → Alike x y → Serves (Some files) x p o v → Serves (Some files) y p q w → outside o ≡ outside q → Same o q v w
      serves_same x y p o q v w a (rest_without_semicolon c e h) (rest_without_semicolon d k j) m = same_refusal faults.Syntax o q x y v w a e k h j
      serves_same x y p o q v w a (rest_without_semicolon c e h) (sentence d s t k) m = absurd (open_or_closed p.closed c d)
      serves_same x y p o q v w a (rest_without_semicolon c e h) (no_sentence d n k j) m = absurd (open_or_closed p.closed c d)
      serves_same x y p o q v w a (rest_without_semicolon c e h) (past_limits d n k j) m = absurd (open_or_closed p.closed c d)
      serves_same x y p o q v w a (sentence c s t h) (rest_without_semicolon d k j) m = absurd (open_or_closed p.closed d c)
      serves_same x y p o q v w a (sentence c s t h) (sentence d u r k) m =
          step_same x y s o q v w a (subst (λ (g : Files). Step g x s o v) h.1 h.2)
          (subst (λ (z : Statement). Step files y z q w) (one_sentence p.text u s r t) (subst (λ (g : Files). Step g y u q w) k.1 k.2)) m
      serves_same x y p o q v w a (sentence c s t h) (no_sentence d n k j) m = absurd (not_both_ways p.text s t n)
      serves_same x y p o q v w a (sentence c s t h) (past_limits d n k j) m = absurd (within_or_past p.text t.tokens t.told t.within n)
      serves_same x y p o q v w a (no_sentence c n e h) (rest_without_semicolon d k j) m = absurd (open_or_closed p.closed d c)
      serves_same x y p o q v w a (no_sentence c n e h) (sentence d s t k) m = absurd (not_both_ways p.text s t n)
      serves_same x y p o q v w a (no_sentence c n e h) (no_sentence d l k j) m = same_refusal faults.Syntax o q x y v w a e k h j
      serves_same x y p o q v w a (no_sentence c n e h) (past_limits d l k j) m = absurd (within_or_past p.text l.tokens l.told (n.within l.tokens l.told) l)
      serves_same x y p o q v w a (past_limits c n e h) (rest_without_semicolon d k j) m = absurd (open_or_closed p.closed d c)
      serves_same x y p o q v w a (past_limits c n e h) (sentence d s t k) m = absurd (within_or_past p.text t.tokens t.told t.within n)
      serves_same x y p o q v w a (past_limits c n e h) (no_sentence d l k j) m = absurd (within_or_past p.text n.tokens n.told (l.within n.tokens n.told) n)
      serves_same x y p o q v w a (past_limits c n e h) (past_limits d l k j) m = same_refusal faults.LimitExceeded o q x y v w a e k h j
      serves_same x y p o q v w a (rest_without_semicolon c e h) (out_of_memory d k j) m = same_turned q o w v (both_for_memory y x p q o w v (alike_turned x y a) (out_of_memory d k j) (rest_without_semicolon c e h) k (sym m))
      serves_same x y p o q v w a (sentence c s t h) (out_of_memory d k j) m = same_turned q o w v (both_for_memory y x p q o w v (alike_turned x y a) (out_of_memory d k j) (sentence c s t h) k (sym m))
      serves_same x y p o q v w a (no_sentence c n e h) (out_of_memory d k j) m = same_turned q o w v (both_for_memory y x p q o w v (alike_turned x y a) (out_of_memory d k j) (no_sentence c n e h) k (sym m))
      serves_same x y p o q v w a (past_limits c n e h) (out_of_memory d k j) m = same_turned q o w v (both_for_memory y x p q o w v (alike_turned x y a) (out_of_memory d k j) (past_limits c n e h) k (sym m))
      serves_same x y p o q v w a (out_of_memory c e h) k m = both_for_memory x y p o q v w a (out_of_memory c e h) k e m

      runs_same : (x y : State) (ps : List PieceOf) (os qs : List Outcome) (v w : State) → Alike x y → Runs (Some files) x ps os v → Runs (Some files) y ps qs w → map outside os ≡ map outside qs → os ≡ qs
      runs_same x y [] [] [] v w a h k m = refl
      runs_same x y [] [] (q ∷ qs) v w a h k m = absurd k
      runs_same x y [] (o ∷ os) qs v w a h k m = absurd h
      runs_same x y (p ∷ ps) [] qs v w a h k m = absurd h
      runs_same x y (p ∷ ps) (o ∷ os) [] v w a h k m = absurd k
      runs_same x y (p ∷ ps) (o ∷ os) (q ∷ qs) v w a h k m =
          let first : outside o ≡ outside q = cc in
          let later : map outside os ≡ map outside qs = cc in
          let one = serves_same x y p o q h.0 k.0 a h.1 k.1 first in
          let rest = runs_same h.0 k.0 ps os qs v w one.states h.2 k.2 later in
          let both = one.outcome in
          λ i. both i ∷ rest i

      -- the outcomes of a script over these files
      pub decided : ((script : List ℕ) (ps qs : List PieceOf) → HasPieces script ps → HasPieces script qs → ps ≡ qs) → (max_rows : ℕ) (script : List ℕ) (xs ys : List Outcome) → HasOutcomes (Some files) max_rows script xs → HasOutcomes (Some files) max_rows script ys → map outside xs ≡ map outside ys → xs ≡ ys
      decided one_split max_rows script xs ys (not_utf8 n e) (not_utf8 l k) m = e ∙ sym k
      decided one_split max_rows script xs ys (not_utf8 n e) (answered u ps h last r) m = absurd (n u)
      decided one_split max_rows script xs ys (answered u ps h last r) (not_utf8 n e) m = absurd (n u)
      decided one_split max_rows script xs ys (answered u ps h last r) (answered v qs k end s) m =
          runs_same (first_state max_rows) (first_state max_rows) (statements_among ps) xs ys last end (alike_same (first_state max_rows) (first_state max_rows) refl) r
          (subst (λ (z : List PieceOf). Runs (Some files) (first_state max_rows) (statements_among z) ys end) (one_split script qs ps k h) s) m

-- the outcomes of a script are decided by those that come from outside
pub refusals_decide : OneListing → ((text : List ℕ) (ts us : List Token) → HasTokens text ts → HasTokens text us → ts ≡ us) → ((ts : List Token) (s t : Statement) → IsStatement s ts → IsStatement t ts → s ≡ t)
    → ((script : List ℕ) (ps qs : List PieceOf) → HasPieces script ps → HasPieces script qs → ps ≡ qs) → RefusalsDecide
refusals_decide one_listing one_cut one_tree one_split files = decided files one_listing one_cut one_tree one_split
