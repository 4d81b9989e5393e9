-- Runs that go on, end, and are cut off.
use Rattle.std.proofs.Common.{◌≡◌, ℕ, ◌+◌, ◌-◌, ◌^◌, ◌≤◌, ◌<◌, Bool, true, false, cond, if◌then◌else◌, not, List, [], ◌∷◌, ◌++◌, count_by, length, Option, Result, Ok, Err, IfOk, refl, sym, ap, subst, ◌∙◌, append_assoc, arith}
use Rattle.cq_binder_rules.specs.declared.fault.Fault.TheVariants.{NotUtf8}
use Rattle.std.specs.Str.{IsUtf8}
use Rattle.std.specs.Io.KnownBytes.{Appends, Keeps}
use Rattle.std.proofs.lemmas.Grind.{flat_map-append}
use Rattle.std.proofs.lemmas.List.{append-nil}
use Rattle.std.proofs.lemmas.List.Sums.{sum_by-append}
use Rattle.cq_sql_language.specs.Pieces.{PieceOf, HasPieces}
use Rattle.cq_model_step.specs.declared.answer.Answer.{Answer}
use Rattle.cq_binder_rules.specs.declared.fault.Fault.{Fault}
use Rattle.cq_binder_rules.specs.Records.{Files}
use Rattle.cq_model_state.specs.State.{State, first_state}
use Rattle.cq_model_step.specs.Output.{answered, is_source_failure, not_utf8, Runs, Serves, outcome_text, output_of, source_failures, statements_among}
use Rattle.cq_cli.specs.declared.endings.Status.{Status}
use Rattle.cq_cli.specs.declared.endings.Status.TheVariants.{AllAccepted, SomeRefused}
use Rattle.cq_cli.specs.declared.endings.RunFault.{RunFault}
use Rattle.cq_cli.specs.Running.{Counted, RunsScript, StopsIfFailed, both, status_of}
use Rattle.cq_cli.specs.Writing.{Wrote, WrotePrefix}
use Rattle.cq_cli.proofs.Counting.{serves_draws, serves_failures}
use Rattle.cq_cli.proofs.Serving.{ServesPiece, refused_somehow}
use Rattle.cq_cli.proofs.Writes.{all_then_failed, appends_kept, appends_more, appends_nothing, prefix_of_more, wrote_then}
use Rattle.std.proofs.lemmas.List.Elements.{filter-append}

-- a run goes on by one piece
runs_more : (source : Option Files) (ps : List PieceOf) (os : List (Result Answer Fault)) (a b c : State) (p : PieceOf) (o : Result Answer Fault) → Runs source a ps os b → Serves source b p o c → Runs source a (ps ++ p ∷ []) (os ++ o ∷ []) c
runs_more source [] [] a b c p o r h = (c, subst (λ (s : State). Serves source s p o c) r h, refl)
runs_more source [] (x ∷ os) a b c p o r h = absurd r
runs_more source (q ∷ ps) [] a b c p o r h = absurd r
runs_more source (q ∷ ps) (x ∷ os) a b c p o r h = (r.0, r.1, runs_more source ps os r.0 b c p o r.2 h)

-- two runs, one after the other
runs_then : (source : Option Files) (ps qs : List PieceOf) (os us : List (Result Answer Fault)) (a b c : State) → Runs source a ps os b → Runs source b qs us c → Runs source a (ps ++ qs) (os ++ us) c
runs_then source [] qs [] us a b c r h = subst (λ (s : State). Runs source s qs us c) r h
runs_then source [] qs (x ∷ os) us a b c r h = absurd r
runs_then source (q ∷ ps) qs [] us a b c r h = absurd r
runs_then source (q ∷ ps) qs (x ∷ os) us a b c r h = (r.0, r.1, runs_then source ps qs os us r.0 b c r.2 h)

-- a run may end so: no further statement is accepted
rest_refused : (source : Option Files) (s : State) (ps : List PieceOf) → (os : List (Result Answer Fault)) × Runs source s ps os s
rest_refused source s [] = ([], refl)
rest_refused source s (p ∷ ps) =
    let first = refused_somehow source s p p.closed refl in
    let rest = rest_refused source s ps in (first.0 ∷ rest.0, (s, first.1, rest.1))

-- a blank piece is no statement, and any other is one
statements_more : (ps : List PieceOf) (p : PieceOf) (blank : Bool) → p.blank ≡ blank → statements_among (ps ++ p ∷ []) ≡ cond blank (statements_among ps) (statements_among ps ++ p ∷ [])
statements_more ps p true e = filter-append (λ (q : PieceOf). not q.blank) ps (p ∷ []) ∙ ap (λ (b : Bool). statements_among ps ++ cond (not b) (p ∷ []) []) e ∙ append-nil (statements_among ps)
statements_more ps p false e = filter-append (λ (q : PieceOf). not q.blank) ps (p ∷ []) ∙ ap (λ (b : Bool). statements_among ps ++ cond (not b) (p ∷ []) []) e

-- the output of one outcome more
output_more : (os : List (Result Answer Fault)) (o : Result Answer Fault) → output_of (os ++ o ∷ []) ≡ output_of os ++ outcome_text o
output_more os o = flat_map-append outcome_text os (o ∷ []) ∙ ap (λ (t : List ℕ). output_of os ++ t) (append-nil (outcome_text o))

-- the status of one outcome more
status_more : (os : List (Result Answer Fault)) (o : Result Answer Fault) → status_of (os ++ o ∷ []) ≡ both (status_of os) (status_of (o ∷ []))
status_more [] o = refl
status_more (Ok a ∷ os) o = status_more os o
status_more (Err f ∷ os) o = refl

-- how often a source failed, with one outcome more
failures_then : (os : List (Result Answer Fault)) (o : Result Answer Fault) → source_failures (os ++ o ∷ []) ≡ source_failures os + source_failures (o ∷ [])
failures_then os o = sum_by-append (λ (x : Result Answer Fault). if is_source_failure x then 1 else 0) os (o ∷ [])

failures_more : (os : List (Result Answer Fault)) (o : Result Answer Fault) (asked failed after : ℕ) → failed ≡ asked + source_failures os → after ≡ failed + source_failures (o ∷ []) → after ≡ asked + source_failures (os ++ o ∷ [])
failures_more os o asked failed after h k = omega (arith, h, k, failures_then os o)

-- how many pieces were ended by a semicolon, with one piece more
closed_more : (ps : List PieceOf) (p : PieceOf) → count_by (λ (q : PieceOf). q.closed) (ps ++ p ∷ []) ≡ count_by (λ (q : PieceOf). q.closed) ps + (if p.closed then 1 else 0)
closed_more ps p = grind (arith, sum_by-append (λ (q : PieceOf). if q.closed then 1 else 0) ps (p ∷ []))

-- how far a script has come
pub record HasRun (source : Option Files) (max_rows : ℕ) (script : List ℕ) (left : List PieceOf) (old new : Option (List ℕ)) (before after asked failed : ℕ) (state : State) (status : Status) : Type 0 where
  pub served : List PieceOf
  pub outcomes : List (Result Answer Fault)
  pub cut : HasPieces script (served ++ left)
  pub run : Runs source (first_state max_rows) (statements_among served) outcomes state
  pub written : Appends old new (output_of outcomes)
  pub count : after ≡ before
  pub sources : failed ≡ asked + source_failures outcomes
  pub told : status ≡ status_of outcomes
  pub drawn : state.drawn ≤ count_by (λ p. p.closed) served
  pub few : source_failures outcomes ≤ count_by (λ p. p.closed) served

-- before the first piece
pub starts : (source : Option Files) (max_rows : ℕ) (script : List ℕ) (left : List PieceOf) (a : Option (List ℕ)) (f s : ℕ) (state : State) → HasPieces script left → state ≡ first_state max_rows → HasRun source max_rows script left a a f f s s state AllAccepted
starts source max_rows script left a f s state cut first = record {
  served = [];
  outcomes = [];
  cut = cut;
  run = first;
  written = appends_nothing a;
  count = refl;
  sources = omega arith;
  told = refl;
  drawn = rw first (omega arith);
  few = omega arith;
}

module _ (source : Option Files) (max_rows : ℕ) (script : List ℕ) (a b : Option (List ℕ)) (f g u v : ℕ) (state : State) (status : Status) (p : PieceOf) (ps left : List PieceOf) (same : left ≡ p ∷ ps) (so_far : HasRun source max_rows script left a b f g u v state status) where
  regrouped : HasPieces script ((so_far.served ++ p ∷ []) ++ ps)
  regrouped = subst (HasPieces script) (ap (λ (xs : List PieceOf). so_far.served ++ xs) same ∙ sym (append_assoc so_far.served (p ∷ []) ps)) so_far.cut

  -- before a closed piece the count of statements is below the script's length
  pub has_room : ((pieces : List PieceOf) → HasPieces script pieces → count_by (λ (q : PieceOf). q.closed) pieces ≤ length script) → length script < 2 ^ 64 → p.closed ≡ true → state.drawn < 2 ^ 64 - 1
  has_room fits short closed =
      let all : count_by (λ (q : PieceOf). q.closed) ((so_far.served ++ p ∷ []) ++ ps) ≡ count_by (λ (q : PieceOf). q.closed) (so_far.served ++ p ∷ []) + count_by (λ (q : PieceOf). q.closed) ps =
      sum_by-append (λ (q : PieceOf). if q.closed then 1 else 0) (so_far.served ++ p ∷ []) ps in
      let one : count_by (λ (q : PieceOf). q.closed) (so_far.served ++ p ∷ []) ≡ count_by (λ (q : PieceOf). q.closed) so_far.served + 1 =
      closed_more so_far.served p ∙ ap (λ (b : Bool). count_by (λ (q : PieceOf). q.closed) so_far.served + (if b then 1 else 0)) closed in
      omega (arith, all, one, fits ((so_far.served ++ p ∷ []) ++ ps) regrouped, so_far.drawn, short)

  -- and so many sources can have failed
  pub has_reads : ((pieces : List PieceOf) → HasPieces script pieces → count_by (λ (q : PieceOf). q.closed) pieces ≤ length script) → u + length script < 2 ^ 64 → p.closed ≡ true → v < 2 ^ 64 - 1
  has_reads fits few closed =
      let all : count_by (λ (q : PieceOf). q.closed) ((so_far.served ++ p ∷ []) ++ ps) ≡ count_by (λ (q : PieceOf). q.closed) (so_far.served ++ p ∷ []) + count_by (λ (q : PieceOf). q.closed) ps =
      sum_by-append (λ (q : PieceOf). if q.closed then 1 else 0) (so_far.served ++ p ∷ []) ps in
      let one : count_by (λ (q : PieceOf). q.closed) (so_far.served ++ p ∷ []) ≡ count_by (λ (q : PieceOf). q.closed) so_far.served + 1 =
      closed_more so_far.served p ∙ ap (λ (b : Bool). count_by (λ (q : PieceOf). q.closed) so_far.served + (if b then 1 else 0)) closed in
      omega (arith, all, one, fits ((so_far.served ++ p ∷ []) ++ ps) regrouped, so_far.few, so_far.sources, few)

  -- a blank piece is passed over
  pub passes : p.blank ≡ true → HasRun source max_rows script ps a b f g u v state status
  passes blank = record {
    served = so_far.served ++ p ∷ [];
    outcomes = so_far.outcomes;
    cut = regrouped;
    run = subst (λ (xs : List PieceOf). Runs source (first_state max_rows) xs so_far.outcomes state) (sym (statements_more so_far.served p true blank)) so_far.run;
    written = so_far.written;
    count = so_far.count;
    sources = so_far.sources;
    told = so_far.told;
    drawn = omega (arith, closed_more so_far.served p, so_far.drawn);
    few = omega (arith, closed_more so_far.served p, so_far.few);
  }

  -- a statement is served
  pub serves : (c : Option (List ℕ)) (h w : ℕ) (next : State) (one : Status) → p.blank ≡ false → ServesPiece source state p next b c g h v w (Ok one) → HasRun source max_rows script ps a c f h u w next (both status one)
  serves c h w next one said served = record {
    served = so_far.served ++ p ∷ [];
    outcomes = so_far.outcomes ++ served.outcome ∷ [];
    cut = regrouped;
    run = subst (λ (xs : List PieceOf). Runs source (first_state max_rows) xs (so_far.outcomes ++ served.outcome ∷ []) next) (sym (statements_more so_far.served p false said)) (runs_more source (statements_among so_far.served) so_far.outcomes (first_state max_rows) state next p served.outcome so_far.run served.answered);
    written = subst (λ (t : List ℕ). Appends a c t) (sym (output_more so_far.outcomes served.outcome)) (appends_more a b c (output_of so_far.outcomes) (outcome_text served.outcome) so_far.written served.written.0);
    count = served.written.1 ∙ so_far.count;
    sources = failures_more so_far.outcomes served.outcome u v w so_far.sources served.counted;
    told = rw (so_far.told, served.told) (sym (status_more so_far.outcomes served.outcome));
    drawn = omega (arith, closed_more so_far.served p, so_far.drawn, serves_draws source state next p served.outcome served.answered);
    few = omega (arith, closed_more so_far.served p, so_far.few, failures_then so_far.outcomes served.outcome, serves_failures source state next p served.outcome served.answered);
  }

  -- the sink fails: the rest of the script may still be answered so that what was written begins its output
  pub cut_off : (c : Option (List ℕ)) (h w : ℕ) (next : State) (cause e : RunFault) → IsUtf8 script → p.blank ≡ false → ServesPiece source state p next b c g h v w (Err cause) → RunsScript source max_rows script a c f h u w (Err e)
  cut_off c h w next cause e utf8 said served =
      let o = served.outcome in
      let rest = rest_refused source next (statements_among ps) in
      let first = runs_more source (statements_among so_far.served) so_far.outcomes (first_state max_rows) state next p o so_far.run served.answered in
      let statements : statements_among ((so_far.served ++ p ∷ []) ++ ps) ≡ (statements_among so_far.served ++ p ∷ []) ++ statements_among ps =
      filter-append (λ (q : PieceOf). not q.blank) (so_far.served ++ p ∷ []) ps ∙ ap (λ (xs : List PieceOf). xs ++ statements_among ps) (statements_more so_far.served p false said) in
      let run : Runs source (first_state max_rows) (statements_among ((so_far.served ++ p ∷ []) ++ ps)) ((so_far.outcomes ++ o ∷ []) ++ rest.0) next =
      subst (λ (xs : List PieceOf). Runs source (first_state max_rows) xs ((so_far.outcomes ++ o ∷ []) ++ rest.0) next) (sym statements)
      (runs_then source (statements_among so_far.served ++ p ∷ []) (statements_among ps) (so_far.outcomes ++ o ∷ []) rest.0 (first_state max_rows) next next first rest.1) in
      let text : output_of ((so_far.outcomes ++ o ∷ []) ++ rest.0) ≡ (output_of so_far.outcomes ++ outcome_text o) ++ output_of rest.0 =
      flat_map-append outcome_text (so_far.outcomes ++ o ∷ []) rest.0 ∙ ap (λ (t : List ℕ). t ++ output_of rest.0) (output_more so_far.outcomes o) in
      let prefix : WrotePrefix (output_of so_far.outcomes ++ outcome_text o) a c f h =
      wrote_then {A = Status} (output_of so_far.outcomes) (outcome_text o) a b c f g h (Err e) (so_far.written, so_far.count) served.written in
      record {
        outcomes = (so_far.outcomes ++ o ∷ []) ++ rest.0;
        answered = answered utf8 ((so_far.served ++ p ∷ []) ++ ps) regrouped next run;
        written = subst (λ (t : List ℕ). WrotePrefix t a c f h) (sym text) (prefix_of_more (output_of so_far.outcomes ++ outcome_text o) (output_of rest.0) a c f h prefix);
        counted = (so_far.outcomes ++ o ∷ [], rest.0, refl, failures_more so_far.outcomes o u v w so_far.sources served.counted);
        stopped = record {
          before = so_far.outcomes;
          last = o ∷ [];
          later = rest.0;
          all = append_assoc so_far.outcomes (o ∷ []) rest.0;
          one = omega arith;
          put = (served.written.0, served.written.1, append-nil (outcome_text o) ∙ served.written.2, appends_more a b c (output_of so_far.outcomes) served.written.0 so_far.written served.written.3);
          counted = failures_more so_far.outcomes o u v w so_far.sources served.counted;
        };
        told = tt;
      }

-- nothing is left
pub ends : (source : Option Files) (max_rows : ℕ) (script : List ℕ) (left : List PieceOf) (a b : Option (List ℕ)) (f g u v : ℕ) (state : State) (status : Status) → IsUtf8 script → left ≡ [] → HasRun source max_rows script left a b f g u v state status → RunsScript source max_rows script a b f g u v (Ok status)
ends source max_rows script left a b f g u v state status utf8 empty h =
    let all : h.served ++ left ≡ h.served = ap (λ (xs : List PieceOf). h.served ++ xs) empty ∙ append-nil h.served in record {
      outcomes = h.outcomes;
      answered = answered utf8 h.served (subst (HasPieces script) all h.cut) state h.run;
      written = (h.written, h.count);
      counted = h.sources;
      stopped = tt;
      told = h.told;
    }

-- no source failed before the line of a script that is not UTF-8
no_source : (u : ℕ) (r : Result Status RunFault) → Counted (Err NotUtf8 ∷ []) u u r
no_source u (Ok status) = omega arith
no_source u (Err e) = (Err NotUtf8 ∷ [], [], refl, omega arith)

-- where the sink fails, it fails at that line
stops_at_once : (a b : Option (List ℕ)) (f g u : ℕ) (r : Result Status RunFault) → Wrote (outcome_text (Err NotUtf8)) a b f g r → StopsIfFailed (Err NotUtf8 ∷ []) a b u u r
stops_at_once a b f g u (Ok status) wrote = tt
stops_at_once a b f g u (Err e) wrote = record {
  before = [];
  last = Err NotUtf8 ∷ [];
  later = [];
  all = refl;
  one = omega arith;
  put = (wrote.0, wrote.1, append-nil (outcome_text (Err NotUtf8)) ∙ wrote.2, wrote.3);
  counted = omega arith;
}

-- a script that is not UTF-8 is answered by one line
pub refuses_bytes : (source : Option Files) (max_rows : ℕ) (script : List ℕ) (a b : Option (List ℕ)) (f g u : ℕ) (r : Result Status RunFault) → (IsUtf8 script → ⊥) → Wrote (outcome_text (Err NotUtf8)) a b f g r → IfOk r (λ status. status ≡ SomeRefused) → RunsScript source max_rows script a b f g u u r
refuses_bytes source max_rows script a b f g u r bad written told = record {
  outcomes = Err NotUtf8 ∷ [];
  answered = not_utf8 bad refl;
  written = subst (λ (t : List ℕ). Wrote t a b f g r) (sym (append-nil (outcome_text (Err NotUtf8)))) written;
  counted = no_source u r;
  stopped = stops_at_once a b f g u r written;
  told = told;
}

-- a run that went well, at whose end the flush fails
pub flush_fails : (source : Option Files) (max_rows : ℕ) (script : List ℕ) (a b c : Option (List ℕ)) (f g h u v : ℕ) (status : Status) → RunsScript source max_rows script a b f g u v (Ok status) → Keeps b c
    → (e : RunFault) → h ≡ g + 1 → RunsScript source max_rows script a c f h u v (Err e)
flush_fails source max_rows script a b c f g h u v status ran kept e more = record {
  outcomes = ran.outcomes;
  answered = ran.answered;
  written = all_then_failed (output_of ran.outcomes) a b c f g h ran.written kept more;
  counted = (ran.outcomes, [], sym (append-nil ran.outcomes), ran.counted);
  stopped = record {
    before = ran.outcomes;
    last = [];
    later = [];
    all = sym (append-nil ran.outcomes);
    one = omega arith;
    put = ([], [], refl, subst (λ (t : List ℕ). Appends a c t) (sym (append-nil (output_of ran.outcomes))) (appends_kept a b c (output_of ran.outcomes) ran.written.0 kept));
    counted = subst (λ (os : List (Result Answer Fault)). v ≡ u + source_failures os) (sym (append-nil ran.outcomes)) ran.counted;
  };
  told = tt;
}
