-- The columns that a query reads of its sources are all that its joins, WHERE, groups and items read.
use Rattle.std.proofs.Common.{◌≡◌, ℕ, ◌+◌, ◌<◌, ◌==◌, Bool, true, ◌&&◌, ◌||◌, nat_lt, List, [], ◌∷◌, map, refl, sym, ◌∙◌, ap, subst, arith}
use Rattle.std.proofs.lemmas.Bool.Decides.{nat_tests}
use Rattle.std.proofs.lemmas.Bool.{and_from, eq-eqb, or_left, or_right}
use Rattle.std.specs.List.{AllByRecursion, list_any}
use Rattle.cq_model_bags.proofs.Totals.{by_test}
use Rattle.cq_model.specs.Sources.{same_source}
use Rattle.cq_model.specs.Views.{sources_of}
use Rattle.cq_model.specs.declared.query.Equality.{Equality}
use Rattle.cq_model.specs.declared.query.Join.{Join}
use Rattle.cq_model.specs.declared.query.Query.{Query}
use Rattle.cq_model.specs.declared.query.Source.{Source}
use Rattle.cq_views_columns.specs.Narrow.{columns_at, columns_read, sources_read}
use Rattle.cq_model_terms.specs.Places.{is_one_of}
use Rattle.cq_views_columns.specs.Reads.{is_read, reads_filter, reads_from, reads_joined, reads_left, reads_right, reads_shape}
use Rattle.cq_views_columns.proofs.Joined.{AreCovered, Covers, IsCovered}
use Rattle.cq_views_columns.proofs.Rows.{range-below, range-has}
use Rattle.cq_model.proofs.SameSources.{itself, only_itself}

-- whether the source is one of these
abbrev is_among : List Source → Source → Bool
is_among sources s = list_any (λ t. same_source t s) sources

module _ (q : Query) (width : Source → ℕ) where
  abbrev widths : List ℕ
  widths = map width (sources_of q)

  abbrev columns : Source → List ℕ
  columns = columns_at (sources_read q widths (sources_of q) widths)

  -- each source's first entry has its columns
  found : (sources : List Source) (s : Source) → is_among sources s ≡ true → columns_at (sources_read q widths sources (map width sources)) s ≡ columns_read q widths s (width s)
  found [] s h = absurd (cc)
  found (t ∷ sources) s h = by_test (same_source t s)
      (λ e. rw e (ap (λ (u : Source). columns_read q widths u (width u)) (only_itself t s e)))
      (λ e. rw e (found sources s (sym (ap (λ b. b || is_among sources s) e) ∙ h)))

  -- a source covers each place where it stands
  source-covers : (n : ℕ) (s : Source) → is_among (sources_of q) s ≡ true
      → ((c : ℕ) → c < width s → reads_joined q (n + c) ≡ true → reads_from q s c 0 (sources_of q) widths ≡ true) → Covers (reads_joined q) columns width n s
  source-covers n s there up =
      let are = found (sources_of q) s there in
      record {
        within = subst (AllByRecursion (λ c. c < width s)) (sym are) (range-below (is_read q widths s) 0 (width s) (width s) (omega arith));
        each = λ c low h.
            ap (λ (cs : List ℕ). is_one_of cs c) are
            ∙ range-has (is_read q widths s) 0 (width s) c (omega arith) (omega (arith, low))
            (or_right (list_any (reads_right s c) q.joins) (reads_from q s c 0 (sources_of q) widths) (up c low h));
      }

  -- what a source's ON reads
  on-covered : (s : Source) → is_among (sources_of q) s ≡ true → (on : List Equality) → ((i : ℕ) → list_any (λ e. e.left == i) on ≡ true → reads_joined q i ≡ true)
      → ((c : ℕ) → list_any (λ e. e.right == c) on ≡ true → list_any (reads_right s c) q.joins ≡ true) → AllByRecursion (IsCovered (reads_joined q) columns width s) on
  on-covered s there [] left right = tt
  on-covered s there (e ∷ on) left right = (
    (
      left e.left (or_left (e.left == e.left) (list_any (λ d. d.left == e.left) on) (eq-eqb e.left e.left refl)),
      λ low.
          ap (λ (cs : List ℕ). is_one_of cs e.right) (found (sources_of q) s there)
          ∙ range-has (is_read q widths s) 0 (width s) e.right (omega arith) (omega (arith, low))
          (or_left (list_any (reads_right s e.right) q.joins) (reads_from q s e.right 0 (sources_of q) widths)
          (right e.right (or_left (e.right == e.right) (list_any (λ d. d.right == e.right) on) (eq-eqb e.right e.right refl)))),
    ),
    on-covered s there on (λ i h. left i (or_right (e.left == i) (list_any (λ d. d.left == i) on) h)) (λ c h. right c (or_right (e.right == c) (list_any (λ d. d.right == c) on) h)),
  )

  -- all joins from here on
  joins-covered : (n : ℕ) (js : List Join) → ((s : Source) → is_among (map (λ j. j.source) js) s ≡ true → is_among (sources_of q) s ≡ true)
      → ((s : Source) (c : ℕ) → reads_from q s c n (map (λ j. j.source) js) (map width (map (λ j. j.source) js)) ≡ true → reads_from q s c 0 (sources_of q) widths ≡ true)
      → ((i : ℕ) → list_any (reads_left i) js ≡ true → reads_joined q i ≡ true)
      → ((s : Source) (c : ℕ) → list_any (reads_right s c) js ≡ true → list_any (reads_right s c) q.joins ≡ true) → AreCovered (reads_joined q) columns width n js
  joins-covered n [] among from left right = tt
  joins-covered n (j ∷ js) among from left right =
      let s = j.source in
      let later = map (λ k. k.source) js in
      let there = among s (or_left (same_source s s) (is_among later s) (itself s)) in (
        source-covers n s there (λ c low h.
            let here : same_source s s && (nat_lt c (width s) && reads_joined q (n + c)) ≡ true =
            and_from (same_source s s) (nat_lt c (width s) && reads_joined q (n + c)) (itself s) (and_from (nat_lt c (width s)) (reads_joined q (n + c)) (grind (arith, nat_tests, low)) h) in
            from s c (or_left (same_source s s && (nat_lt c (width s) && reads_joined q (n + c))) (reads_from q s c (n + width s) later (map width later)) here)),
        on-covered s there j.on (λ i h. left i (or_left (reads_left i j) (list_any (reads_left i) js) h))
            (λ c h. right s c (or_left (reads_right s c j) (list_any (reads_right s c) js) (and_from (same_source s s) (list_any (λ e. e.right == c) j.on) (itself s) h))),
        joins-covered (n + width s) js (λ t h. among t (or_right (same_source s t) (is_among later t) h))
            (λ t c h. from t c (or_right (same_source s t && (nat_lt c (width s) && reads_joined q (n + c))) (reads_from q t c (n + width s) later (map width later)) h))
            (λ i h. left i (or_right (reads_left i j) (list_any (reads_left i) js) h))
            (λ t c h. right t c (or_right (reads_right t c j) (list_any (reads_right t c) js) h)),
      )

  -- the first source, and all joins behind it
  pub first-covers : Covers (reads_joined q) columns width 0 q.first
  first-covers =
      let s = q.first in
      let later = map (λ k. k.source) q.joins in
      source-covers 0 s (or_left (same_source s s) (is_among later s) (itself s)) (λ c low h.
      let here : same_source s s && (nat_lt c (width s) && reads_joined q (0 + c)) ≡ true =
      and_from (same_source s s) (nat_lt c (width s) && reads_joined q (0 + c)) (itself s) (and_from (nat_lt c (width s)) (reads_joined q (0 + c)) (grind (arith, nat_tests, low)) h) in
      or_left (same_source s s && (nat_lt c (width s) && reads_joined q (0 + c))) (reads_from q s c (0 + width s) later (map width later)) here)

  pub all-covered : AreCovered (reads_joined q) columns width (0 + width q.first) q.joins
  all-covered =
      let s = q.first in
      let later = map (λ k. k.source) q.joins in
      joins-covered (0 + width s) q.joins (λ t h. or_right (same_source s t) (is_among later t) h)
      (λ t c h. or_right (same_source s t && (nat_lt c (width s) && reads_joined q (0 + c))) (reads_from q t c (0 + width s) later (map width later)) h)
      (λ i h. or_left (list_any (reads_left i) q.joins) (reads_filter i q.filter || reads_shape i q.shape q.items) h) (λ t c h. h)
