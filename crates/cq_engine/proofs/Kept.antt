-- An engine stays in order: what is known of its tables and views behind each command.
use Rattle.std.proofs.Common.{◌≡◌, ◌⊎◌, ◌+◌, ◌<◌, ◌≤◌, ◌^◌, ℕ, Bool, true, false, not, List, [], ◌∷◌, ◌++◌, length, inl, inr, Option, Some, None, Ok, refl, sym, ap, ◌∙◌, subst, arith}
use Rattle.std.specs.Prelude.{◌==◌, IfSome, is_some}
use Rattle.std.specs.Bool.{OnTrue}
use Rattle.std.specs.List.{AllByRecursion, remove}
use Rattle.std.proofs.lemmas.Bool.{ne_eqb}
use Rattle.cq_values.specs.Value.{Row}
use Rattle.cq_values.specs.declared.column.ColumnDef.{ColumnDef}
use Rattle.cq_binder_rules.specs.Refusal.{is_used}
use Rattle.cq_binder_rules.specs.declared.bound.Bound.{Bound}
use Rattle.cq_binder_rules.specs.declared.bound.Bound.TheVariants as commands
use Rattle.cq_binder_queries.proofs.Found.{has_place}
use Rattle.cq_model.specs.Views.{sources_of}
use Rattle.cq_model.specs.declared.query.Order.{Order}
use Rattle.cq_model.specs.declared.query.Query.{Query}
use Rattle.cq_model_bags.proofs.Lists.{all-drop, all-push}
use Rattle.cq_model_state.specs.Fitting.{AreFitting, AreLimited, IsFitting, rows_limit}
use Rattle.cq_model_state.specs.State.{IsThere, ChangeOf, State, TableOf, ViewOf, empty_table, rows_in, view_named, view_place, with_rows}
use Rattle.cq_model_step.specs.Next.{Writes, created, new_view, reach, taken_on, with_all_views, with_tables, written}
use Rattle.cq_model_step.specs.Step.{Accepts, Leads}
use Rattle.cq_model_step.specs.declared.answer.Answer.{Answer}
use Rattle.cq_model_step.specs.declared.answer.Answer.TheVariants.{Done, Rows}
use Rattle.cq_model_step_laws.proofs.Follows.{Follows, follows-accepts, follows-itself, follows-trims, follows-views, new-empty}
use Rattle.cq_model_step_laws.specs.Sound.{Fits, IsInTime}
use Rattle.cq_views.specs.Laws.{StandingDependsOnSources}
use Rattle.cq_views_model.specs.Query.{reads}
use Rattle.cq_engine_answers.specs.Selects.{Selects}
use Rattle.cq_engine_queue.proofs.Later.{AreKnown, IsNew, all-right-later, history-later}
use Rattle.cq_engine_queue.specs.History.{IsSmall}
use Rattle.cq_engine_queue.specs.Queued.{AreWithin, IsSameQueue, IsTrimmed, Notes, Queued}
use Rattle.cq_engine_tables.proofs.Numbers.{others}
use Rattle.cq_engine_tables.proofs.Rows.{all_left, bounded_more, unread, unused}
use Rattle.cq_engine_tables.proofs.Wide.{KeepWidths, all-still-wide, keep-behind, keep-with_rows, was-behind, was-left, was-with_rows, wide-left}
use Rattle.cq_engine_tables.specs.Views.{AreRight, AreWide, IsRight, NamedView, views_of, width_at}
use Rattle.cq_engine_writes.specs.Changing.{Tells}
use Rattle.cq_engine.proofs.Steps.{IsNoted, noted, some-dropped, unwritten, unwritten-trimmed, with_queue, write-accepted}
use Rattle.cq_engine.specs.Commands.{IsInOrder, state_of}

-- ---- Views that are right
-- they have a column for each item of their queries
pub all_shown : (s : State) (vs : List NamedView) → AreRight s vs → AllByRecursion (λ v. length v.columns ≡ length v.query.items) (views_of vs)
all_shown s [] r = tt
all_shown s (v ∷ vs) r = (r.0.shown, all_shown s vs r.1)

-- and stand at epochs that can be told
pub all-times : (s : State) (vs : List NamedView) → AreRight s vs → AllByRecursion (IsInTime s.passed s.now) (views_of vs)
all-times s [] r = tt
all-times s (v ∷ vs) r = (r.0.time, all-times s vs r.1)

-- which are those of the queue
pub all-within : (s : State) (q : Queued) → q.passed ≡ s.passed → q.changes ≡ s.queue → s.passed + length s.queue ≡ s.now → (vs : List NamedView) → AreRight s vs → AreWithin q vs
all-within s q passed changes whole [] r = tt
all-within s q passed changes whole (v ∷ vs) r = (
  (omega (arith, r.0.time.kept, passed), omega (arith, r.0.time.reached, whole, passed, ap length changes)),
  all-within s q passed changes whole vs r.1,
)

pub right-behind : (s : State) (vs : List NamedView) (v : NamedView) → AreRight s vs → IsRight s v → AreRight s (vs ++ v ∷ [])
right-behind s [] v r one = (one, tt)
right-behind s (w ∷ ws) v r one = (r.0, right-behind s ws v r.1 one)

-- a state with other views is none the worse for these
pub right-views : (s : State) (views : List ViewOf) (vs : List NamedView) → AreRight s vs → AreRight (record s { views = views }) vs
right-views s views [] r = tt
right-views s views (v ∷ vs) r = (record { shown = r.0.shown; fits = r.0.fits; wide = r.0.wide; time = r.0.time; stands = r.0.stands }, right-views s views vs r.1)

-- ---- How wide their tables are
pub all-wide : (s : State) (new : List TableOf) → KeepWidths s.tables new → (vs : List NamedView) → AreRight s vs → AllByRecursion (λ v. AreWide new v.kept.query v.kept.widths) vs
all-wide s new keep [] r = tt
all-wide s new keep (v ∷ vs) r = (all-still-wide s.tables new keep (sources_of v.kept.query) v.kept.widths r.0.wide, all-wide s new keep vs r.1)

-- also without a table that none of them reads
pub all-wide-left : (s : State) (n : ℕ) (vs : List NamedView) → is_used n (views_of vs) ≡ false → AreRight s vs → AllByRecursion (λ v. AreWide (others n s.tables) v.kept.query v.kept.widths) vs
all-wide-left s n vs free r = left vs (unused n vs free) r
  where
    left : (ws : List NamedView) → AllByRecursion (λ v. reads n v.kept.query ≡ false) ws → AreRight s ws → AllByRecursion (λ v. AreWide (others n s.tables) v.kept.query v.kept.widths) ws
    left [] free r = tt
    left (v ∷ ws) free r = (wide-left n s.tables (sources_of v.kept.query) v.kept.widths (unread n (sources_of v.kept.query) free.0) r.0.wide, left ws free.1 r.1)

-- ---- The order
-- an engine is in order in a later state
module _ (law : StandingDependsOnSources) (old new : State) (vs ws : List NamedView) (f : Follows old new) (order : IsInOrder old vs) (one : new.now ≤ old.now + 1) (most : new.max_rows ≤ rows_limit) where
  pub order-later : AreKnown old new → AreFitting new.tables → AreLimited new.max_rows new.tables → AllByRecursion IsSmall new.queue → new.now < 2 ^ 64
      → new.views ≡ views_of ws → AreRight old ws → AllByRecursion (λ v. AreWide new.tables v.kept.query v.kept.widths) ws → IsInOrder new ws
  order-later known fitting limited small range are right wide = record {
    history = history-later old new f one order.history fitting (bounded_more new.max_rows rows_limit new.tables most limited) known small range;
    fitting = fitting;
    limited = limited;
    right = all-right-later old new f one law ws right (subst (λ (views : List ViewOf). AllByRecursion (IsInTime new.passed new.now) views) are f.sound.epochs) wide;
  }

-- the state of the same tables and changes is the same
pub same-state : (tables left : List TableOf) (views : List ViewOf) (now drawn max_rows : ℕ) (old new : Queued) → left ≡ tables → IsSameQueue old new → state_of left views now drawn new max_rows ≡ state_of tables views now drawn old max_rows
same-state tables left views now drawn max_rows old new same queue = λ i. record { tables = same i; views = views; now = now; drawn = drawn; passed = queue.passed i; queue = queue.changes i; max_rows = max_rows }

-- a change is told where there are views
pub none-asked : (vs : List NamedView) (len : ℕ) (asked : Bool) (told : Option ChangeOf) → len ≡ length vs → asked ≡ not (len == 0) → is_some told ≡ asked → told ≡ None → vs ≡ []
none-asked [] len asked told long is there none = refl
none-asked (v ∷ vs) len asked told long is there none =
    let some : (len == 0) ≡ false = ne_eqb len 0 (λ e. absurd (omega (arith, e, long))) in
    let yes : asked ≡ true = is ∙ ap (λ (b : Bool). not b) some in
    absurd (cc (sym yes ∙ sym there ∙ ap is_some none))

-- and there is room for it
pub room-told : (told : Option ChangeOf) (asked : Bool) (room : ℕ) → is_some told ≡ asked → OnTrue asked (0 < room) → IfSome told (λ c. 0 < room)
room-told None asked room there more = tt
room-told (Some c) asked room there more = subst (λ (b : Bool). OnTrue b (0 < room)) (sym there) more

-- behind a write
module _ (law : StandingDependsOnSources) (s : State) (vs : List NamedView) (order : IsInOrder s vs) (are : s.views ≡ views_of vs) (n : ℕ) (rows : List Row) (asked : Bool) (told : Option ChangeOf) (before after : Queued)
    (passed : before.passed ≡ s.passed) (changes : before.changes ≡ s.queue) (none : told ≡ None → vs ≡ []) (tells : Tells asked n (rows_in s.tables n) rows told) (notes : Notes vs told before after) where
  pub note : IsNoted s vs n rows after
  note = noted s vs n rows asked told before after passed changes order.history.small none tells notes

  -- the state behind it
  abbrev pub behind : State
  behind = with_queue after (written n rows note.change.rows s)

  pub behind-accepted : (command : Bound) (answer : Answer) → (Writes s n rows (written n rows note.change.rows s) → Leads s command answer (written n rows note.change.rows s)) → Accepts s command answer behind
  behind-accepted command answer leads = write-accepted s vs are n rows after note command answer leads

  pub behind-order : (command : Bound) (answer : Answer) → IsThere n s.tables → Fits s command → Accepts s command answer behind → s.max_rows ≤ rows_limit → s.now + 1 < 2 ^ 64 → AreFitting (with_rows n rows s.tables) → AreLimited s.max_rows (with_rows n rows s.tables)
      → IsInOrder behind vs
  behind-order command answer there fits accepted most range fitting limited =
      order-later law s behind vs vs (follows-accepts s behind command answer order.history.sound fits accepted) order (omega arith) most
      (λ m wide is. inl (was-with_rows n rows s.tables m wide is)) fitting limited note.small range are order.right (all-wide s (with_rows n rows s.tables) (keep-with_rows n rows s.tables) vs order.right)

-- ---- Each command
module _ (law : StandingDependsOnSources) (s : State) (vs : List NamedView) (order : IsInOrder s vs) (are : s.views ≡ views_of vs) (most : s.max_rows ≤ rows_limit) where
  -- changes that each view has passed may go
  pub trimmed-order : (q : Queued) → IsTrimmed vs s.passed s.queue q → IsInOrder (with_queue q s) vs
  trimmed-order q trimmed =
      let sound = order.history.sound in
      order-later law s (with_queue q s) vs vs (follows-trims s s (with_queue q s) (some-dropped s vs q are trimmed) (follows-itself s sound)) order (omega arith) most (λ n wide is. inl is) order.fitting order.limited
      (subst (λ (cs : List ChangeOf). AllByRecursion IsSmall cs) (sym trimmed.changes) (all-drop IsSmall trimmed.count s.queue order.history.small)) order.history.range are order.right
      (all-wide s s.tables (λ n wide is. is) vs order.right)

  -- a new table
  module _ (name : List ℕ) (columns : List ColumnDef) (sort : List ℕ) where
    pub created-accepted : Accepts s (commands.CreateTable name columns sort) Done (created name columns sort s)
    created-accepted = unwritten s (created name columns sort s) (commands.CreateTable name columns sort) Done order.history.sound.epochs (refl, refl)

    known-created : (n wide : ℕ) → (width_at s.tables n ≡ Some wide) ⊎ (n ≡ s.drawn) → (width_at s.tables n ≡ Some wide) ⊎ IsNew (created name columns sort s) n
    known-created n wide (inl old) = inl old
    known-created n wide (inr e) = inr (subst (IsNew (created name columns sort s)) (sym e) (new-empty s (created name columns sort s) name columns sort Done order.history.sound created-accepted).empty)

    pub created-order : IsInOrder (created name columns sort s) vs
    created-order =
        let made = empty_table s.drawn name columns sort in
        order-later law s (created name columns sort s) vs vs (follows-accepts s (created name columns sort s) (commands.CreateTable name columns sort) Done order.history.sound tt created-accepted) order (omega arith) most
        (λ n wide is. known-created n wide (was-behind s.tables made n wide is)) (all-push IsFitting s.tables made order.fitting tt) (all-push (λ t. length t.rows ≤ s.max_rows) s.tables made order.limited (omega arith))
        order.history.small order.history.range are order.right (all-wide s (s.tables ++ made ∷ []) (keep-behind s.tables made) vs order.right)

  -- a table that no view reads goes
  module _ (n : ℕ) (there : IsThere n s.tables) where
    abbrev pub dropped : State
    dropped = with_tables (others n s.tables) s

    pub dropped-accepted : Accepts s (commands.DropTable n) Done dropped
    dropped-accepted = unwritten s dropped (commands.DropTable n) Done order.history.sound.epochs (refl, refl)

    pub dropped-order : is_used n (views_of vs) ≡ false → IsInOrder dropped vs
    dropped-order free =
        order-later law s dropped vs vs (follows-accepts s dropped (commands.DropTable n) Done order.history.sound there dropped-accepted) order (omega arith) most (λ m wide is. inl (was-left n s.tables m wide is))
        (all_left n IsFitting s.tables order.fitting) (all_left n (λ t. length t.rows ≤ s.max_rows) s.tables order.limited) order.history.small order.history.range are order.right (all-wide-left s n vs free order.right)

  -- other views that are right
  module _ (ws : List NamedView) (right : AreRight s ws) where
    abbrev pub viewed : State
    viewed = with_all_views (views_of ws) s

    pub viewed-order : IsInOrder viewed ws
    viewed-order = record {
      history = record { sound = (follows-views s (views_of ws) order.history.sound (all-times s ws right)).sound; held = order.history.held; small = order.history.small; range = order.history.range };
      fitting = order.fitting;
      limited = order.limited;
      right = right-views s (views_of ws) ws right;
    }

    pub viewed-accepted : (name : List ℕ) (columns : List ColumnDef) (q : Query) → views_of ws ≡ s.views ++ new_view name columns q s.now ∷ [] → Accepts s (commands.CreateView name columns q) Done viewed
    viewed-accepted name columns q added = unwritten s viewed (commands.CreateView name columns q) Done (all-times s ws right) (refl, ap (λ (views : List ViewOf). with_all_views views s) added)

    module _ (q : Queued) (trimmed : IsTrimmed ws s.passed s.queue q) where
      pub unviewed-accepted : (place : ℕ) → views_of ws ≡ remove s.views place → Accepts s (commands.DropView place) Done (with_queue q viewed)
      unviewed-accepted place gone = unwritten-trimmed s viewed (commands.DropView place) Done ws q refl trimmed (refl, ap (λ (views : List ViewOf). with_all_views views s) gone)

      pub refreshed-accepted : (place changes : ℕ) → views_of ws ≡ taken_on (reach s (commands.Refresh place changes)) 0 s.views → Accepts s (commands.Refresh place changes) Done (with_queue q viewed)
      refreshed-accepted place changes taken = unwritten-trimmed s viewed (commands.Refresh place changes) Done ws q refl trimmed (refl, ap (λ (views : List ViewOf). with_all_views views s) taken)

    pub selected-accepted : (header : List (List ℕ)) (q : Query) (order : Order) (rows : List Row) → views_of ws ≡ taken_on (reach s (commands.Select header q order)) 0 s.views → Selects s.tables s.views q order (Ok rows)
        → Accepts s (commands.Select header q order) (Rows header rows) viewed
    selected-accepted header q order rows taken selects =
        unwritten s viewed (commands.Select header q order) (Rows header rows) (all-times s ws right)
        (record { rows = rows; answered = refl; listed = selects.0; in_range = selects.1 }, ap (λ (views : List ViewOf). with_all_views views s) taken)

-- ---- Views that are not there
-- no view has a name that has no place
pub view_absent : (name : List ℕ) (views : List ViewOf) → view_place name views ≡ None → view_named name views ≡ None
view_absent name views missing = absent (view_named name views) (sym (has_place name views) ∙ ap is_some missing)
  where
    absent : (o : Option ViewOf) → is_some o ≡ false → o ≡ None
    absent (Some v) e = absurd (cc e)
    absent None e = refl
