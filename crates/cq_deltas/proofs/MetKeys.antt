-- Which keys a change meets, and what it makes of their groups.
use Rattle.std.proofs.Common.{◌≡◌, ℕ, ◌+◌, ◌<◌, pos, false, cond, ◌||◌, int_eq, List, [], ◌∷◌, ◌++◌, take, length, get_or, Option, None, Some, refl, sym, ◌∙◌, ap, add-one, true≢false}
use Rattle.std.specs.Option.{option_map}
use Rattle.std.proofs.Math.Seq.{take-suc}
use Rattle.std.proofs.lemmas.List.Folds.{list_any-append}
use Rattle.cq_values.specs.Value.{Row}
use Rattle.cq_values.specs.Order.{same_row}
use Rattle.cq_model_bags.proofs.Totals.{by_test}
use Rattle.cq_views_model.specs.Kept.{Group}
use Rattle.cq_deltas.specs.Additions.{Addition}
use Rattle.cq_deltas.specs.Keyed.{ArePut, AreSettled, IsPut, KeyedGroups, Takes, group_met, group_with_all, is_met, settled, stored_at}

-- no row is put in
pub put-none : (groups : KeyedGroups) → ArePut groups [] groups
put-none groups k = same (stored_at groups k)
  where
    same : (o : Option Group) → o ≡ option_map (group_with_all [] k) o
    same None = refl
    same (Some g) = refl

-- with the next row put in its group, one more is
pub put-more : (xs : List Addition) (i : ℕ) (x : Addition) (old now new : KeyedGroups) → i < length xs → x ≡ get_or xs i x → ArePut old (take i xs) now → IsPut now x new → ArePut old (take (i + 1) xs) new
put-more xs i x old now new h is so_far one k = one k ∙ ap (option_map (λ (g : Group). group_met k g x)) (so_far k) ∙ together (stored_at old k)
  where
    more : take (i + 1) xs ≡ take i xs ++ x ∷ []
    more = rw (add-one i) (take-suc xs i x h ∙ ap (λ (y : Addition). take i xs ++ y ∷ []) (sym is))

    last : (ys : List Addition) (g : Group) → group_with_all (ys ++ x ∷ []) k g ≡ group_met k (group_with_all ys k g) x
    last [] g = refl
    last (y ∷ ys) g = last ys (group_met k g y)

    together : (o : Option Group) → option_map (λ (g : Group). group_met k g x) (option_map (group_with_all (take i xs) k) o) ≡ option_map (group_with_all (take (i + 1) xs) k) o
    together None = refl
    together (Some g) = ap Some (sym (ap (λ (l : List Addition). group_with_all l k g) more ∙ last (take i xs) g))

-- what is settled stays so
pub settled-twice : (o : Option Group) → settled (settled o) ≡ settled o
settled-twice None = refl
settled-twice (Some g) = by_test (int_eq g.count (pos 0)) (λ b. rw b refl) (λ b. rw (b, b) refl)

-- with the next row's key settled, one more is
pub settled-more : (xs : List Addition) (i : ℕ) (x : Addition) (old now new : KeyedGroups) → i < length xs → x ≡ get_or xs i x → AreSettled (is_met (take i xs)) old now → AreSettled (same_row x.key) now new
    → AreSettled (is_met (take (i + 1) xs)) old new
settled-more xs i x old now new h is so_far one k =
    by_test (same_row x.key k)
    (λ s.
    let here : stored_at new k ≡ settled (stored_at now k) = one k ∙ rw s refl in
    by_test (is_met (take i xs) k)
    (λ b.
    let was : stored_at now k ≡ settled (stored_at old k) = so_far k ∙ rw b refl in
    here ∙ ap settled was ∙ settled-twice (stored_at old k) ∙ rw (parts, b) refl)
    (λ b.
    let was : stored_at now k ≡ stored_at old k = so_far k ∙ rw b refl in
    here ∙ ap settled was ∙ rw (parts, b, s) refl))
    (λ s.
    let here : stored_at new k ≡ stored_at now k = one k ∙ rw s refl in
    by_test (is_met (take i xs) k)
    (λ b.
    let was : stored_at now k ≡ settled (stored_at old k) = so_far k ∙ rw b refl in
    here ∙ was ∙ rw (parts, b) refl)
    (λ b.
    let was : stored_at now k ≡ stored_at old k = so_far k ∙ rw b refl in
    here ∙ was ∙ rw (parts, b, s) refl))
  where
    parts : is_met (take (i + 1) xs) k ≡ (is_met (take i xs) k || (same_row x.key k || false))
    parts =
        ap (λ (l : List Addition). is_met l k) (rw (add-one i) (take-suc xs i x h)) ∙ list_any-append (λ (y : Addition). same_row y.key k) (take i xs) (get_or xs i x ∷ [])
        ∙ ap (λ (y : Addition). is_met (take i xs) k || (same_row y.key k || false)) (sym is)

-- a group of a key that is not met stays
pub unmet-stays : (xs : List Addition) (k : Row) (g : Group) → is_met xs k ≡ false → group_with_all xs k g ≡ g
unmet-stays [] k g e = refl
unmet-stays (x ∷ xs) k g e = by_test (same_row x.key k)
    (λ s. absurd (true≢false (sym (rw s refl) ∙ e)))
    (λ s. rw s (unmet-stays xs k g (rw s at e)))

-- the rows put in, and then the empty groups dropped
pub taken : (old middle new : KeyedGroups) (change : List Addition) → ((k : Row) → stored_at middle k ≡ option_map (group_with_all change k) (stored_at old k))
    → ((k : Row) → stored_at new k ≡ cond (is_met change k) (settled (stored_at middle k)) (stored_at middle k)) → Takes old change new
taken old middle new change put drop = record {
  at = λ k.
      drop k ∙ by_test (is_met change k)
      (λ b. rw (b, put k) refl)
      (λ b. rw (b, put k) (none-put k b (stored_at old k)));
}
  where
    none-put : (k : Row) → is_met change k ≡ false → (o : Option Group) → option_map (group_with_all change k) o ≡ o
    none-put k b None = refl
    none-put k b (Some g) = ap Some (unmet-stays change k g b)
