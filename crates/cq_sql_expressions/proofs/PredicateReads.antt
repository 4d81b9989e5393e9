-- Values and their tests are read exactly, where sums are.
use Rattle.std.proofs.Common.{◌≡◌, ℕ, suc, ◌+◌, ◌≤◌, ◌<◌, Bool, true, false, List, [], ◌∷◌, ◌++◌, length, Option, Some, None, refl, sym, ap, ap₂, subst, ◌∙◌, append_assoc, arith, length-append}
use Rattle.std.specs.Prelude.{◌&&◌}
use Rattle.std.proofs.lemmas.Bool.{and_from, and_parts}
use Rattle.std.proofs.lemmas.List.{append-nil}
use Rattle.cq_values.specs.declared.comparison.Comparison.{Comparison}
use Rattle.cq_sql_language.specs.declared.token.Keyword.{Keyword}
use Rattle.cq_sql_language.specs.declared.token.Keyword.TheVariants as keywords
use Rattle.cq_sql_language.specs.declared.token.Token.{Token}
use Rattle.cq_sql_language.specs.declared.token.Token.TheVariants as tokens
use Rattle.cq_sql_language.specs.Written.{Written, Choices, NoChoice, Choice, choices, Compare, IsNull, Between, In, Like}
use Rattle.cq_sql_language.specs.Expression.{fits, is_in_order, are_in_order, has_entries}
use Rattle.cq_sql_language.specs.Spelling.{spelled, spelled_choices, spelled_more, comparison_sign, not_tokens}
use Rattle.cq_sql_expressions.specs.declared.predicates.Test.{Test}
use Rattle.cq_sql_expressions.specs.declared.predicates.Test.TheVariants as tests
use Rattle.cq_sql_expressions.specs.Read.{done, behind, followed_by, after_keyword}
use Rattle.cq_sql_expressions.specs.Atoms.{text_at}
use Rattle.cq_sql_expressions.specs.Predicates.{test_at}
use Rattle.cq_sql_expressions.specs.Expressions.{Inside, sum_of, enclosed_choices, between_of, tested, value_or_test, predicate_of}
use Rattle.cq_sql_expressions.proofs.Exact.{bind_some, keyword_takes}
use Rattle.cq_sql_expressions.proofs.Tight.{joint_in, Fits, from_fits, to_fits, ReadsTight}
use Rattle.cq_sql_expressions.proofs.ValueTests.{choices_entries, test_tokens, test_found, test_ends, no_test, test_only}
use Rattle.cq_sql_expressions.proofs.Choices.{open_sign, close_sign, enclosed_choices_found, enclosed_choices_only}
use Rattle.std.proofs.lemmas.Option.{some_pair_parts}

-- a word behind NOT or alone, and what follows it
behind_word : (negated : Bool) (word : Keyword) (value us : List Token) → value ++ not_tokens negated ++ (tokens.Keyword word ∷ us) ≡ value ++ ((not_tokens negated ++ tokens.Keyword word ∷ []) ++ us)
behind_word negated word value us = append_assoc value (not_tokens negated) (tokens.Keyword word ∷ us) ∙ ap (λ (vs : List Token). value ++ vs) (sym (append_assoc (not_tokens negated) (tokens.Keyword word ∷ []) us))

-- an expression is spelled as this value, the words of this test, and the tail
abbrev pub HasShape : Written → Written → Test → List Token → Type 0
HasShape w a test tail = spelled w ≡ spelled a ++ (test_tokens test ++ tail)

-- the tokens behind the words of a test between bounds
abbrev bound_tokens : Written → Written → List Token
bound_tokens least greatest = spelled least ++ (tokens.Keyword keywords.And ∷ spelled greatest)

-- the tokens behind the words of a test among choices
abbrev choice_tokens : Choices → List Token
choice_tokens bs = open_sign ∷ (spelled_choices bs ++ (close_sign ∷ []))

-- a test for NULL has no tail
null_shape : (negated : Bool) (a : Written) → HasShape (IsNull negated a) a (tests.IsNull negated) []
null_shape negated a = append_assoc (spelled a) (tokens.Keyword keywords.Is ∷ not_tokens negated) (tokens.Keyword keywords.Null ∷ [])
    ∙ ap (λ (vs : List Token). spelled a ++ vs) (sym (append-nil (test_tokens (tests.IsNull negated))))

-- a test between bounds has them as its tail
between_shape : (negated : Bool) (a least greatest : Written) → HasShape (Between negated a least greatest) a (tests.Between negated) (bound_tokens least greatest)
between_shape negated a least greatest =
    append_assoc (spelled a ++ not_tokens negated) (tokens.Keyword keywords.Between ∷ spelled least) (tokens.Keyword keywords.And ∷ spelled greatest)
    ∙ behind_word negated keywords.Between (spelled a) (bound_tokens least greatest)

-- a test among choices has them as its tail
in_shape : (negated : Bool) (a : Written) (bs : Choices) → HasShape (In negated a bs) a (tests.In negated) (choice_tokens bs)
in_shape negated a bs =
    append_assoc (spelled a ++ not_tokens negated) (tokens.Keyword keywords.In ∷ open_sign ∷ spelled_choices bs) (close_sign ∷ [])
    ∙ behind_word negated keywords.In (spelled a) (choice_tokens bs)

-- a test with a pattern has it as its tail
like_shape : (negated : Bool) (a : Written) (pattern : List ℕ) → HasShape (Like negated a pattern) a (tests.Like negated) (tokens.Text pattern ∷ [])
like_shape negated a pattern = behind_word negated keywords.Like (spelled a) (tokens.Text pattern ∷ [])

-- the value and the tail have no more tokens than the whole
shape_size : (w a : Written) (test : Test) (tail : List Token) → HasShape w a test tail → length (spelled a) + length tail ≤ length (spelled w)
shape_size w a test tail shape =
    let whole : length (spelled w) ≡ length (spelled a ++ (test_tokens test ++ tail)) = ap (λ (vs : List Token). length vs) shape in
    omega (arith, whole, length-append (spelled a) (test_tokens test ++ tail), length-append (test_tokens test) tail)

-- the whole in front of the rest is the value, the words and the tail in front of it
shape_whole : (w a : Written) (test : Test) (tail us rest : List Token) → HasShape w a test tail → us ≡ tail ++ rest → spelled a ++ (test_tokens test ++ us) ≡ spelled w ++ rest
shape_whole w a test tail us rest shape split =
    ap (λ (vs : List Token). spelled a ++ (test_tokens test ++ vs)) split ∙ ap (λ (vs : List Token). spelled a ++ vs) (sym (append_assoc (test_tokens test) tail rest))
    ∙ sym (append_assoc (spelled a) (test_tokens test ++ tail) rest) ∙ ap (λ (vs : List Token). vs ++ rest) (sym shape)

-- what was read is a predicate, and begins with the value and the test
abbrev pub IsRead : Written → Test → List Token → Written → List Token → Type 0
IsRead a test us w rest = Fits 3 w × (spelled a ++ (test_tokens test ++ us) ≡ spelled w ++ rest)

-- what is read as a text are its token and the rest
text_only : (pattern : List ℕ) (us rest : List Token) → text_at us ≡ Some (pattern, rest) → us ≡ tokens.Text pattern ∷ rest
text_only pattern (tokens.Text text ∷ us) rest e =
    let p = some_pair_parts text pattern us rest e in
    ap₂ (λ (x : List ℕ) (vs : List Token). tokens.Text x ∷ vs) p.0 p.1
text_only pattern us rest e = absurd cc

module _ (size : ℕ) (inside : Inside) (within : ReadsTight size 4 inside.sum) (sums : ReadsTight (suc size) 4 (sum_of inside)) where
  -- a value and a test of it are read
  test_follows : (w a : Written) (test : Test) (tail rest : List Token) → HasShape w a test tail → Fits 4 a → length (spelled w) < suc size → tested inside a test (tail ++ rest) ≡ Some (w, rest)
      → predicate_of inside (spelled w ++ rest) ≡ Some (w, rest)
  unfolding predicate_of
  test_follows w a test tail rest shape fit small read =
      let whole = sym (shape_whole w a test tail (tail ++ rest) rest shape refl) in
      let count = shape_size w a test tail shape in
      rw (whole, sums.found a (test_tokens test ++ (tail ++ rest)) fit (omega (arith, count, small)) (test_ends test (tail ++ rest)), test_found test (tail ++ rest)) read

  -- a value alone is read
  value_found : (w : Written) (rest : List Token) → Fits 4 w → length (spelled w) < suc size → joint_in rest ≤ 3 → predicate_of inside (spelled w ++ rest) ≡ Some (w, rest)
  unfolding predicate_of
  value_found w rest fit small end = rw (sums.found w rest fit small (omega (arith, end)), no_test rest end) refl

  -- a comparison is read
  compare_found : (c : Comparison) (a b : Written) (rest : List Token) → Fits 4 a → Fits 4 b → length (spelled (Compare c a b)) < suc size → joint_in rest ≤ 3 → predicate_of inside (spelled (Compare c a b) ++ rest) ≡ Some (Compare c a b, rest)
  unfolding tested
  compare_found c a b rest left right small end =
      let count = shape_size (Compare c a b) a (tests.Compare c) (spelled b) refl in
      let read : tested inside a (tests.Compare c) (spelled b ++ rest) ≡ Some (Compare c a b, rest) = rw (sums.found b rest right (omega (arith, count, small)) (omega (arith, end))) refl in
      test_follows (Compare c a b) a (tests.Compare c) (spelled b) rest refl left small read

  -- a test for NULL is read
  null_found : (negated : Bool) (a : Written) (rest : List Token) → Fits 4 a → length (spelled (IsNull negated a)) < suc size → predicate_of inside (spelled (IsNull negated a) ++ rest) ≡ Some (IsNull negated a, rest)
  unfolding tested
  null_found negated a rest fit small = test_follows (IsNull negated a) a (tests.IsNull negated) [] rest (null_shape negated a) fit small refl

  -- a test between bounds is read
  between_found : (negated : Bool) (a least greatest : Written) (rest : List Token) → Fits 4 a → Fits 4 least → Fits 4 greatest → length (spelled (Between negated a least greatest)) < suc size → joint_in rest ≤ 3
      → predicate_of inside (spelled (Between negated a least greatest) ++ rest) ≡ Some (Between negated a least greatest, rest)
  unfolding tested between_of
  between_found negated a least greatest rest fit low high small end =
      let count = shape_size (Between negated a least greatest) a (tests.Between negated) (bound_tokens least greatest) (between_shape negated a least greatest) in
      let both = length-append (spelled least) (tokens.Keyword keywords.And ∷ spelled greatest) in
      let first = sums.found least ((tokens.Keyword keywords.And ∷ spelled greatest) ++ rest) low (omega (arith, count, both, small)) (omega arith) in
      let second = sums.found greatest rest high (omega (arith, count, both, small)) (omega (arith, end)) in
      let read : tested inside a (tests.Between negated) (bound_tokens least greatest ++ rest) ≡ Some (Between negated a least greatest, rest)
      = rw (append_assoc (spelled least) (tokens.Keyword keywords.And ∷ spelled greatest) rest, first, second) refl in
      test_follows (Between negated a least greatest) a (tests.Between negated) (bound_tokens least greatest) rest (between_shape negated a least greatest) fit small read

  -- a test among choices is read
  in_found : (negated : Bool) (a b : Written) (bs : Choices) (rest : List Token) → Fits 4 a → Fits 4 b → are_in_order bs ≡ true → length (spelled (In negated a (Choice b bs))) < suc size
      → predicate_of inside (spelled (In negated a (Choice b bs)) ++ rest) ≡ Some (In negated a (Choice b bs), rest)
  unfolding tested
  in_found negated a b bs rest fit first order small =
      let count = shape_size (In negated a (Choice b bs)) a (tests.In negated) (choice_tokens (Choice b bs)) (in_shape negated a (Choice b bs)) in
      let both = length-append (spelled b ++ spelled_more bs) (close_sign ∷ []) in
      let whole : choice_tokens (Choice b bs) ++ rest ≡ open_sign ∷ ((spelled b ++ spelled_more bs) ++ (close_sign ∷ rest))
      = ap (λ (vs : List Token). open_sign ∷ vs) (append_assoc (spelled b ++ spelled_more bs) (close_sign ∷ []) rest) in
      let read : tested inside a (tests.In negated) (choice_tokens (Choice b bs) ++ rest) ≡ Some (In negated a (Choice b bs), rest)
      = rw (whole, enclosed_choices_found size inside within b bs rest first order (omega (arith, count, both, small)), choices_entries bs) refl in
      test_follows (In negated a (Choice b bs)) a (tests.In negated) (choice_tokens (Choice b bs)) rest (in_shape negated a (Choice b bs)) fit small read

  -- a test with a pattern is read
  like_found : (negated : Bool) (a : Written) (pattern : List ℕ) (rest : List Token) → Fits 4 a → length (spelled (Like negated a pattern)) < suc size → predicate_of inside (spelled (Like negated a pattern) ++ rest) ≡ Some (Like negated a pattern, rest)
  unfolding tested
  like_found negated a pattern rest fit small = test_follows (Like negated a pattern) a (tests.Like negated) (tokens.Text pattern ∷ []) rest (like_shape negated a pattern) fit small refl

  -- a predicate is read
  found : (w : Written) (rest : List Token) → Fits 3 w → length (spelled w) < suc size → joint_in rest ≤ 3 → predicate_of inside (spelled w ++ rest) ≡ Some (w, rest)
  found (Compare c a b) rest fit small end =
      let p = and_parts (fits 4 a (is_in_order a)) (fits 4 b (is_in_order b)) fit.1 in
      compare_found c a b rest (from_fits 4 a p.0) (from_fits 4 b p.1) small end
  found (IsNull negated a) rest fit small end = null_found negated a rest (from_fits 4 a fit.1) small
  found (Between negated a least greatest) rest fit small end =
      let p = and_parts (fits 4 a (is_in_order a) && fits 4 least (is_in_order least)) (fits 4 greatest (is_in_order greatest)) fit.1 in
      let q = and_parts (fits 4 a (is_in_order a)) (fits 4 least (is_in_order least)) p.0 in
      between_found negated a least greatest rest (from_fits 4 a q.0) (from_fits 4 least q.1) (from_fits 4 greatest p.1) small end
  found (In negated a NoChoice) rest fit small end =
      let p = and_parts (fits 4 a (is_in_order a) && false) true fit.1 in
      let q = and_parts (fits 4 a (is_in_order a)) false p.0 in
      absurd (cc q.1)
  found (In negated a (Choice b bs)) rest fit small end =
      let p = and_parts (fits 4 a (is_in_order a) && true) (are_in_order (Choice b bs)) fit.1 in
      let q = and_parts (fits 4 a (is_in_order a)) true p.0 in
      let r = and_parts (fits 4 b (is_in_order b)) (are_in_order bs) p.1 in
      in_found negated a b bs rest (from_fits 4 a q.0) (from_fits 4 b r.0) r.1 small
  found (Like negated a pattern) rest fit small end = like_found negated a pattern rest (from_fits 4 a fit.1) small
  found w rest fit small end = value_found w rest (omega (arith, fit.0), fit.1) small end

  -- what is read as a comparison is one
  compare_only : (c : Comparison) (a w : Written) (us rest : List Token) → Fits 4 a → tested inside a (tests.Compare c) us ≡ Some (w, rest) → IsRead a (tests.Compare c) us w rest
  unfolding tested
  compare_only c a w us rest fit e =
      let b = bind_some (sum_of inside us) (λ r. Some (Compare c a r.0, r.1)) (w, rest) e in
      let o = sums.only b.0.0 us b.0.1 b.1 in
      let p = some_pair_parts (Compare c a b.0.0) w b.0.1 rest b.2 in
      let sign : Token = tokens.Symbol (comparison_sign c) in
      let whole : spelled a ++ sign ∷ us ≡ spelled (Compare c a b.0.0) ++ rest
      = ap (λ (vs : List Token). spelled a ++ sign ∷ vs) (o.1 ∙ ap (λ (vs : List Token). spelled b.0.0 ++ vs) p.1) ∙ sym (append_assoc (spelled a) (sign ∷ spelled b.0.0) rest) in
      let fits_both : Fits 3 (Compare c a b.0.0) = (omega arith, and_from (fits 4 a (is_in_order a)) (fits 4 b.0.0 (is_in_order b.0.0)) (to_fits 4 a fit) (to_fits 4 b.0.0 o.0)) in
      subst (λ (x : Written). IsRead a (tests.Compare c) us x rest) p.0 (fits_both, whole)

  -- what is read as a test for NULL is one
  null_only : (negated : Bool) (a w : Written) (us rest : List Token) → Fits 4 a → tested inside a (tests.IsNull negated) us ≡ Some (w, rest) → IsRead a (tests.IsNull negated) us w rest
  unfolding tested
  null_only negated a w us rest fit e =
      let p = some_pair_parts (IsNull negated a) w us rest e in
      let whole = shape_whole (IsNull negated a) a (tests.IsNull negated) [] us rest (null_shape negated a) p.1 in
      let in_order : Fits 3 (IsNull negated a) = (omega arith, to_fits 4 a fit) in
      subst (λ (x : Written). IsRead a (tests.IsNull negated) us x rest) p.0 (in_order, whole)

  -- what is read as a test between bounds is one
  between_only : (negated : Bool) (a w : Written) (us rest : List Token) → Fits 4 a → tested inside a (tests.Between negated) us ≡ Some (w, rest) → IsRead a (tests.Between negated) us w rest
  unfolding tested between_of
  between_only negated a w us rest fit e =
      let takes = keyword_takes keywords.And in
      let and_token : Token = tokens.Keyword keywords.And in
      let l = bind_some (sum_of inside us) (λ r. behind (after_keyword keywords.And) (followed_by (sum_of inside) (λ greatest. done (Between negated a r.0 greatest))) r.1) (w, rest) e in
      let k = bind_some (after_keyword keywords.And l.0.1) (followed_by (sum_of inside) (λ greatest. done (Between negated a l.0.0 greatest))) (w, rest) l.2 in
      let g = bind_some (sum_of inside k.0) (λ r. Some (Between negated a l.0.0 r.0, r.1)) (w, rest) k.2 in
      let low = sums.only l.0.0 us l.0.1 l.1 in
      let high = sums.only g.0.0 k.0 g.0.1 g.1 in
      let p = some_pair_parts (Between negated a l.0.0 g.0.0) w g.0.1 rest g.2 in
      let behind_and : l.0.1 ≡ and_token ∷ (spelled g.0.0 ++ rest) = takes.only l.0.1 k.0 k.1 ∙ ap (λ (vs : List Token). and_token ∷ vs) (high.1 ∙ ap (λ (vs : List Token). spelled g.0.0 ++ vs) p.1) in
      let split : us ≡ bound_tokens l.0.0 g.0.0 ++ rest = low.1 ∙ ap (λ (vs : List Token). spelled l.0.0 ++ vs) behind_and ∙ sym (append_assoc (spelled l.0.0) (tokens.Keyword keywords.And ∷ spelled g.0.0) rest) in
      let whole = shape_whole (Between negated a l.0.0 g.0.0) a (tests.Between negated) (bound_tokens l.0.0 g.0.0) us rest (between_shape negated a l.0.0 g.0.0) split in
      let two = and_from (fits 4 a (is_in_order a)) (fits 4 l.0.0 (is_in_order l.0.0)) (to_fits 4 a fit) (to_fits 4 l.0.0 low.0) in
      let three = and_from (fits 4 a (is_in_order a) && fits 4 l.0.0 (is_in_order l.0.0)) (fits 4 g.0.0 (is_in_order g.0.0)) two (to_fits 4 g.0.0 high.0) in
      let in_order : Fits 3 (Between negated a l.0.0 g.0.0) = (omega arith, three) in
      subst (λ (x : Written). IsRead a (tests.Between negated) us x rest) p.0 (in_order, whole)

  -- what is read as a test among choices is one
  in_only : (negated : Bool) (a w : Written) (us rest : List Token) → Fits 4 a → tested inside a (tests.In negated) us ≡ Some (w, rest) → IsRead a (tests.In negated) us w rest
  unfolding tested
  in_only negated a w us rest fit e =
      let b = bind_some (enclosed_choices inside us) (λ r. Some (In negated a (choices r.0), r.1)) (w, rest) e in
      let o = enclosed_choices_only size inside within b.0.0 us b.0.1 b.1 in
      let p = some_pair_parts (In negated a (choices b.0.0)) w b.0.1 rest b.2 in
      let made : In negated a o.0 ≡ w = ap (λ (cs : Choices). In negated a cs) (sym (choices_entries o.0) ∙ ap choices (sym o.1)) ∙ p.0 in
      let split : us ≡ choice_tokens o.0 ++ rest = o.4 ∙ ap (λ (vs : List Token). open_sign ∷ (spelled_choices o.0 ++ close_sign ∷ vs)) p.1 ∙ ap (λ (vs : List Token). open_sign ∷ vs) (sym (append_assoc (spelled_choices o.0) (close_sign ∷ []) rest)) in
      let whole = shape_whole (In negated a o.0) a (tests.In negated) (choice_tokens o.0) us rest (in_shape negated a o.0) split in
      let two = and_from (fits 4 a (is_in_order a)) (has_entries o.0) (to_fits 4 a fit) o.2 in
      let three = and_from (fits 4 a (is_in_order a) && has_entries o.0) (are_in_order o.0) two o.3 in
      let in_order : Fits 3 (In negated a o.0) = (omega arith, three) in
      subst (λ (x : Written). IsRead a (tests.In negated) us x rest) made (in_order, whole)

  -- what is read as a test with a pattern is one
  like_only : (negated : Bool) (a w : Written) (us rest : List Token) → Fits 4 a → tested inside a (tests.Like negated) us ≡ Some (w, rest) → IsRead a (tests.Like negated) us w rest
  unfolding tested
  like_only negated a w us rest fit e =
      let b = bind_some (text_at us) (λ r. Some (Like negated a r.0, r.1)) (w, rest) e in
      let p = some_pair_parts (Like negated a b.0.0) w b.0.1 rest b.2 in
      let split : us ≡ tokens.Text b.0.0 ∷ rest = text_only b.0.0 us b.0.1 b.1 ∙ ap (λ (vs : List Token). tokens.Text b.0.0 ∷ vs) p.1 in
      let whole = shape_whole (Like negated a b.0.0) a (tests.Like negated) (tokens.Text b.0.0 ∷ []) us rest (like_shape negated a b.0.0) split in
      let in_order : Fits 3 (Like negated a b.0.0) = (omega arith, to_fits 4 a fit) in
      subst (λ (x : Written). IsRead a (tests.Like negated) us x rest) p.0 (in_order, whole)

  -- what is read as a test of a value is one
  tested_only : (a w : Written) (test : Test) (us rest : List Token) → Fits 4 a → tested inside a test us ≡ Some (w, rest) → IsRead a test us w rest
  tested_only a w (tests.Compare c) us rest fit e = compare_only c a w us rest fit e
  tested_only a w (tests.IsNull negated) us rest fit e = null_only negated a w us rest fit e
  tested_only a w (tests.Between negated) us rest fit e = between_only negated a w us rest fit e
  tested_only a w (tests.In negated) us rest fit e = in_only negated a w us rest fit e
  tested_only a w (tests.Like negated) us rest fit e = like_only negated a w us rest fit e

  -- with or without a test behind a value, what is read is a predicate
  by_test : (a w : Written) (ts us rest : List Token) (read : Option (Test × List Token)) → test_at us ≡ read → Fits 4 a → ts ≡ spelled a ++ us → value_or_test inside a us read ≡ Some (w, rest) → Fits 3 w × (ts ≡ spelled w ++ rest)
  by_test a w ts us rest None there fit split e =
      let p = some_pair_parts a w us rest e in
      subst (λ (x : Written). Fits 3 x × (ts ≡ spelled x ++ rest)) p.0 ((omega (arith, fit.0), fit.1), split ∙ ap (λ (vs : List Token). spelled a ++ vs) p.1)
  by_test a w ts us rest (Some (test, vs)) there fit split e =
      let o = tested_only a w test vs rest fit e in
      (o.0, split ∙ ap (λ (qs : List Token). spelled a ++ qs) (test_only us test vs there) ∙ o.1)

  -- what is read is a predicate
  only : (w : Written) (ts rest : List Token) → predicate_of inside ts ≡ Some (w, rest) → Fits 3 w × (ts ≡ spelled w ++ rest)
  unfolding predicate_of
  only w ts rest e =
      let b = bind_some (sum_of inside ts) (λ r. value_or_test inside r.0 r.1 (test_at r.1)) (w, rest) e in
      let o = sums.only b.0.0 ts b.0.1 b.1 in
      by_test b.0.0 w ts b.0.1 rest (test_at b.0.1) refl o.0 o.1 b.2

  -- predicates are read exactly
  pub predicate_reads : ReadsTight (suc size) 3 (predicate_of inside)
  predicate_reads = record { found = found; only = only }
