-- Views on their way, one after the other.
use Rattle.std.proofs.Common.{◌≡◌, ◌∙◌, ◌+◌, ◌<◌, ◌≤◌, ◌==◌, ℕ, zero, suc, Bool, List, [], ◌∷◌, get_or, inl, length, min, set, refl, sym, ap, subst, arith}
use Rattle.std.specs.Prelude.{if◌then◌else◌, nat_lt}
use Rattle.std.specs.List.{AllByRecursion, list_any}
use Rattle.std.proofs.lemmas.Bool.{ltb-false, ltb-true}
use Rattle.std.proofs.lemmas.Option.{same_Some, slice_get_read}
use Rattle.cq_model_bags.proofs.Lists.{all-at}
use Rattle.cq_model_bags.proofs.Totals.{by_test}
use Rattle.cq_model.specs.Views.{is_view, sources_of}
use Rattle.cq_model_state.specs.State.{State, ViewOf}
use Rattle.cq_model_step.specs.Next.{taken_on}
use Rattle.cq_model_step.specs.Step.{AreBetween}
use Rattle.cq_engine_tables.specs.Views.{AreRight, NamedView, view_of, views_of}
use Rattle.cq_engine_queue.specs.Counts.{AllCount, CountsIn, MayBegin, MayBeginIn}
use Rattle.cq_engine_queue.specs.Goal.{goal_of}
use Rattle.cq_engine_queue.specs.History.{IsHistory, IsQueueOf, IsTakenOn, StayRight, StaysRight}
use Rattle.cq_engine_queue.specs.Queued.{Queued}
use Rattle.cq_engine_queue.specs.declared.goal.Goal.{Goal}
use Rattle.cq_engine_queue.specs.declared.goal.Goal.TheVariants.{At, By, Present}
use Rattle.cq_engine_queue.proofs.Counting.{counted-itself}
use Rattle.cq_engine_queue.proofs.Reaching.{not-taken}

-- ---- Lists of views that are related place by place
abbrev pub Placed : (ℕ → NamedView → NamedView → Type 0) → ℕ → List NamedView → List NamedView → Type 0
Placed R place [] [] = Unit {0}
Placed R place (v ∷ vs) (w ∷ ws) = R place v w × Placed R (suc place) vs ws
Placed R place vs ws = ⊥

pub placed-itself : (R : ℕ → NamedView → NamedView → Type 0) → ((place : ℕ) (v : NamedView) → R place v v) → (place : ℕ) (vs : List NamedView) → Placed R place vs vs
placed-itself R each place [] = tt
placed-itself R each place (v ∷ vs) = (each place v, placed-itself R each (suc place) vs)

module _ (R : ℕ → NamedView → NamedView → Type 0) where
  pub placed-length : (place : ℕ) (vs ws : List NamedView) → Placed R place vs ws → length ws ≡ length vs
  placed-length place [] [] all = refl
  placed-length place [] (w ∷ ws) all = absurd all
  placed-length place (v ∷ vs) [] all = absurd all
  placed-length place (v ∷ vs) (w ∷ ws) all = omega (arith, placed-length (suc place) vs ws all.1)

  -- those at a place are
  pub placed-at : (place : ℕ) (vs ws : List NamedView) (i : ℕ) (d e : NamedView) → i < length ws → Placed R place vs ws → R (place + i) (get_or vs i d) (get_or ws i e)
  placed-at place [] [] i d e h all = absurd (omega (arith, h))
  placed-at place [] (w ∷ ws) i d e h all = absurd all
  placed-at place (v ∷ vs) [] i d e h all = absurd all
  placed-at place (v ∷ vs) (w ∷ ws) zero d e h all =
      let here : place ≡ place + 0 = omega arith in
      subst (λ (p : ℕ). R p v w) here all.0
  placed-at place (v ∷ vs) (w ∷ ws) (suc i) d e h all =
      let next : suc place + i ≡ place + suc i = omega arith in
      subst (λ (p : ℕ). R p (get_or vs i d) (get_or ws i e)) next (placed-at (suc place) vs ws i d e (omega (arith, h)) all.1)

  module _ (Q : ℕ → NamedView → NamedView → Type 0) where
    -- what goes over at each place goes over
    pub placed-over : (place : ℕ) (vs ws : List NamedView) → ((p : ℕ) (v w : NamedView) → place ≤ p → p < place + length vs → R p v w → Q p v w) → Placed R place vs ws → Placed Q place vs ws
    placed-over place [] [] over all = tt
    placed-over place [] (w ∷ ws) over all = absurd all
    placed-over place (v ∷ vs) [] over all = absurd all
    placed-over place (v ∷ vs) (w ∷ ws) over all = (
      over place v w (omega arith) (omega arith) all.0,
      placed-over (suc place) vs ws (λ p x y low high r. over p x y (omega (arith, low)) (omega (arith, high)) r) all.1,
    )

    -- another view stands at a place, and the others go over
    pub placed-set : (place : ℕ) (vs ws : List NamedView) (i : ℕ) (d x : NamedView) → i < length ws → ((p : ℕ) (v w : NamedView) → (p ≡ place + i → ⊥) → R p v w → Q p v w)
        → Q (place + i) (get_or vs i d) x → Placed R place vs ws → Placed Q place vs (set ws i x)
    placed-set place [] [] i d x h over one all = absurd (omega (arith, h))
    placed-set place [] (w ∷ ws) i d x h over one all = absurd all
    placed-set place (v ∷ vs) [] i d x h over one all = absurd all
    placed-set place (v ∷ vs) (w ∷ ws) zero d x h over one all =
        let here : place + 0 ≡ place = omega arith in (
          subst (λ (p : ℕ). Q p v x) here one,
          placed-over (suc place) vs ws (λ p y z low high r. over p y z (λ e. omega (arith, e, low)) r) all.1,
        )
    placed-set place (v ∷ vs) (w ∷ ws) (suc i) d x h over one all =
        let next : place + suc i ≡ suc place + i = omega arith in (
          over place v w (λ e. omega (arith, e)) all.0,
          placed-set (suc place) vs ws i d x (omega (arith, h)) (λ p y z other r. over p y z (λ e. other (omega (arith, e))) r) (subst (λ (p : ℕ). Q p (get_or vs i d) x) next one) all.1,
        )

-- ---- Where views are to go
ahead-if : (now : ℕ) (b : Bool) (epoch further : ℕ) → epoch ≤ further → further ≤ now → epoch ≤ now → (epoch ≤ (if b then further else epoch)) × ((if b then further else epoch) ≤ now)
ahead-if now b epoch further low high at = by_test b (λ k. rw k (low, high)) (λ k. rw k (omega arith, at))

-- not back, and not beyond the present
pub goal-between : (goal : Goal) (now place : ℕ) (v : ViewOf) → v.epoch ≤ now → (v.epoch ≤ goal_of goal now place v) × (goal_of goal now place v ≤ now)
goal-between (Present query) now place v at = ahead-if now (list_any (is_view place) (sources_of query.now)) v.epoch now at (omega arith) at
goal-between (At view) now place v at = ahead-if now (view == place) v.epoch now at (omega arith) at
goal-between (By view changes) now place v at = ahead-if now (view == place) v.epoch (min (v.epoch + changes) now) (omega (arith, at)) (omega arith) at

module _ (goal : Goal) (now : ℕ) (q : Queued) where
  -- a view that is on its way, and right where it was
  pub record IsOnWay (place : ℕ) (v w : NamedView) : Type 0 where
    pub on : IsTakenOn (goal_of goal now place (view_of v)) v w
    pub right : StaysRight q v w
    pub counts : MayBeginIn q (goal_of goal now place (view_of v)) v w

  -- and one that is there
  pub record IsThere (place : ℕ) (v w : NamedView) : Type 0 where
    pub way : IsOnWay place v w
    pub epoch : w.kept.state.epoch ≡ goal_of goal now place (view_of v)
    pub counts : CountsIn q v w

  -- those before a place are there, and the others where they were
  pub record IsGone (end place : ℕ) (v w : NamedView) : Type 0 where
    pub before : place < end → IsThere place v w
    pub behind : end ≤ place → w ≡ v

  pub none-gone : (vs : List NamedView) → Placed (IsGone 0) 0 vs vs
  none-gone vs = placed-itself (IsGone 0) (λ place v. record { before = λ h. absurd (omega (arith, h)); behind = λ h. refl }) 0 vs

  stays-right : (v : NamedView) → StaysRight q v v
  stays-right v s of history right = right

  -- a view that has not gone is on its way
  stays-on_way : (end place : ℕ) (v w : NamedView) → v.kept.state.epoch ≤ now → IsGone end place v w → IsOnWay place v w
  stays-on_way end place v w at gone = by_test (nat_lt place end)
      (λ k. (gone.before (ltb-true place end k)).way)
      (λ k. subst (λ (x : NamedView). IsOnWay place v x) (sym (gone.behind (ltb-false place end k))) (record {
        on = not-taken (goal_of goal now place (view_of v)) v (goal-between goal now place (view_of v) at).0;
        right = stays-right v;
        counts = λ s of history right. inl (counted-itself s v);
      }))

  -- one more is there
  pub one-gone : (vs ws : List NamedView) (i : ℕ) (d x : NamedView) → i < length ws → Placed (IsGone i) 0 vs ws → IsThere (0 + i) (get_or vs i d) x → Placed (IsGone (i + 1)) 0 vs (set ws i x)
  one-gone vs ws i d x h all one =
      placed-set (IsGone i) (IsGone (i + 1)) 0 vs ws i d x h
      (λ p v w other gone. record { before = λ low. gone.before (below p low other); behind = λ high. gone.behind (omega (arith, high)) })
      (record { before = λ low. one; behind = λ high. absurd (omega (arith, high)) }) all
    where
      below : (p : ℕ) → p < i + 1 → (p ≡ 0 + i → ⊥) → p < i
      below p low other = by_test (nat_lt p i) (λ k. ltb-true p i k) (λ k. absurd (other (omega (arith, low, ltb-false p i k))))

  -- ---- The view at the place that is reached
  module _ (vs ws : List NamedView) (i : ℕ) (h : i < length ws) (all : Placed (IsGone i) 0 vs ws) where
    -- it is where it was
    pub still-here : (w : NamedView) → w ≡ get_or ws i w → get_or vs i w ≡ w
    still-here w is = sym ((placed-at (IsGone i) 0 vs ws i w w h all).behind (omega arith)) ∙ sym is

    -- and is read twice
    same-read : (v w : NamedView) → v ≡ get_or ws i v → w ≡ get_or ws i w → v ≡ w
    same-read v w is that = same_Some v w (sym (slice_get_read ws (length ws) i v refl h is) ∙ slice_get_read ws (length ws) i w refl h that)

    -- what holds of each, holds of it
    pub holds-here : (P : NamedView → Type 0) → AllByRecursion P vs → (w : NamedView) → w ≡ get_or ws i w → P w
    holds-here P each w is = subst P (still-here w is) (all-at P vs i w (omega (arith, h, placed-length (IsGone i) 0 vs ws all)) each)

    module _ (v w x : NamedView) (is : v ≡ get_or ws i v) (that : w ≡ get_or ws i w) (to : ℕ) (of : to ≡ goal_of goal now i (view_of v)) where
      own-goal : to ≡ goal_of goal now i (view_of w)
      own-goal = of ∙ ap (λ (u : NamedView). goal_of goal now i (view_of u)) (same-read v w is that)

      pub goes-on : w.kept.state.epoch ≤ now → (w.kept.state.epoch ≤ to) × (to ≤ now)
      goes-on at = (omega (arith, own-goal, (goal-between goal now i (view_of w) at).0), omega (arith, own-goal, (goal-between goal now i (view_of w) at).1))

      first-place : i ≡ 0 + i
      first-place = omega arith

      pub on-way-here : IsTakenOn to w x → StaysRight q w x → MayBeginIn q to w x → IsOnWay (0 + i) (get_or vs i w) x
      on-way-here on right counts =
          subst (λ (u : NamedView). IsOnWay (0 + i) u x) (sym (still-here w that))
          (subst (λ (p : ℕ). IsOnWay p w x) first-place (record { on = subst (λ (k : ℕ). IsTakenOn k w x) own-goal on; right = right; counts = subst (λ (k : ℕ). MayBeginIn q k w x) own-goal counts }))

      pub there-here : IsTakenOn to w x → StaysRight q w x → x.kept.state.epoch ≡ to → CountsIn q w x → IsThere (0 + i) (get_or vs i w) x
      there-here on right at counts = record {
        way = on-way-here on right (λ s of history right. inl (counts s of history right));
        counts = subst (λ (u : NamedView). CountsIn q u x) (sym (still-here w that)) counts;
        epoch =
            subst (λ (u : NamedView). x.kept.state.epoch ≡ goal_of goal now (0 + i) (view_of u)) (sym (still-here w that))
            (subst (λ (p : ℕ). x.kept.state.epoch ≡ goal_of goal now p (view_of w)) first-place (at ∙ own-goal));
      }

  module _ (vs : List NamedView) (at : AllByRecursion (λ v. v.kept.state.epoch ≤ now) vs) where
    -- views of which some are gone are on their way
    gone-way : (end place : ℕ) (xs ws : List NamedView) → AllByRecursion (λ v. v.kept.state.epoch ≤ now) xs → Placed (IsGone end) place xs ws → Placed IsOnWay place xs ws
    gone-way end place [] [] all gone = tt
    gone-way end place [] (w ∷ ws) all gone = absurd gone
    gone-way end place (x ∷ xs) [] all gone = absurd gone
    gone-way end place (x ∷ xs) (w ∷ ws) all gone = (stays-on_way end place x w all.0 gone.0, gone-way end (suc place) xs ws all.1 gone.1)

    pub some-way : (end : ℕ) (ws : List NamedView) → Placed (IsGone end) 0 vs ws → Placed IsOnWay 0 vs ws
    some-way end ws gone = gone-way end 0 vs ws at gone

    -- so they are where one of them stopped
    pub stopped-way : (ws : List NamedView) (i : ℕ) (d x : NamedView) → i < length ws → Placed (IsGone i) 0 vs ws → IsOnWay (0 + i) (get_or vs i d) x → Placed IsOnWay 0 vs (set ws i x)
    stopped-way ws i d x h gone one = placed-set IsOnWay IsOnWay 0 vs ws i d x h (λ p v w other way. way) one (some-way i ws gone)

  -- all of them are there
  pub all-there : (vs ws : List NamedView) (end : ℕ) → length vs ≤ end → Placed (IsGone end) 0 vs ws → Placed IsThere 0 vs ws
  all-there vs ws end h gone = placed-over (IsGone end) IsThere 0 vs ws (λ p v w low high g. g.before (omega (arith, high, h))) gone

  -- ---- What that is for the state
  same-next : (place : ℕ) → suc place ≡ place + 1
  same-next place = omega arith

  pub way-between : (place : ℕ) (vs ws : List NamedView) → Placed IsOnWay place vs ws → AreBetween (goal_of goal now) place (views_of vs) (views_of ws)
  way-between place [] [] all = tt
  way-between place [] (w ∷ ws) all = absurd all
  way-between place (v ∷ vs) [] all = absurd all
  way-between place (v ∷ vs) (w ∷ ws) all =
      let on = all.0.on in (
        (w.kept.state.epoch, on.from, on.within, λ i. record { name = on.name i; columns = on.columns i; query = on.query i; epoch = w.kept.state.epoch; built = on.built i }),
        subst (λ (p : ℕ). AreBetween (goal_of goal now) p (views_of vs) (views_of ws)) (same-next place) (way-between (suc place) vs ws all.1),
      )

  pub there-taken : (place : ℕ) (vs ws : List NamedView) → Placed IsThere place vs ws → views_of ws ≡ taken_on (goal_of goal now) place (views_of vs)
  there-taken place [] [] all = refl
  there-taken place [] (w ∷ ws) all = absurd all
  there-taken place (v ∷ vs) [] all = absurd all
  there-taken place (v ∷ vs) (w ∷ ws) all =
      let on = all.0.way.on in
      let rest = subst (λ (p : ℕ). views_of ws ≡ taken_on (goal_of goal now) p (views_of vs)) (same-next place) (there-taken (suc place) vs ws all.1) in
      λ i. record { name = on.name i; columns = on.columns i; query = on.query i; epoch = all.0.epoch i; built = on.built i } ∷ rest i

  pub there-way : (place : ℕ) (vs ws : List NamedView) → Placed IsThere place vs ws → Placed IsOnWay place vs ws
  there-way place vs ws all = placed-over IsThere IsOnWay place vs ws (λ p v w low high there. there.way) all

  pub way-right : (place : ℕ) (vs ws : List NamedView) → Placed IsOnWay place vs ws → StayRight q vs ws
  way-right place [] [] all s of history right = tt
  way-right place [] (w ∷ ws) all s of history right = absurd all
  way-right place (v ∷ vs) [] all s of history right = absurd all
  way-right place (v ∷ vs) (w ∷ ws) all s of history right = (all.0.right s of history right.0, way-right (suc place) vs ws all.1 s of history right.1)

  -- ---- What they count
  pub way-begun : (s : State) (place : ℕ) (vs ws : List NamedView) → IsQueueOf s q → IsHistory s → AreRight s vs → Placed IsOnWay place vs ws → MayBegin (goal_of goal now) s place vs ws
  way-begun s place [] [] of history right all = tt
  way-begun s place [] (w ∷ ws) of history right all = absurd all
  way-begun s place (v ∷ vs) [] of history right all = absurd all
  way-begun s place (v ∷ vs) (w ∷ ws) of history right all =
      (all.0.counts s of history right.0, subst (λ (p : ℕ). MayBegin (goal_of goal now) s p vs ws) (same-next place) (way-begun s (suc place) vs ws of history right.1 all.1))

  pub there-counted : (place : ℕ) (vs ws : List NamedView) → Placed IsThere place vs ws → AllCount q vs ws
  there-counted place [] [] all s of history right = tt
  there-counted place [] (w ∷ ws) all s of history right = absurd all
  there-counted place (v ∷ vs) [] all s of history right = absurd all
  there-counted place (v ∷ vs) (w ∷ ws) all s of history right = (all.0.counts s of history right.0, there-counted (suc place) vs ws all.1 s of history right.1)

-- views that are right stand at no epoch beyond the present
pub right-epochs : (s : State) (vs : List NamedView) → AreRight s vs → AllByRecursion (λ v. v.kept.state.epoch ≤ s.now) vs
right-epochs s [] right = tt
right-epochs s (v ∷ vs) right = (right.0.time.reached, right-epochs s vs right.1)
