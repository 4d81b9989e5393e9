-- A tree that names the columns of one source alone reads no other one.
use Rattle.std.proofs.Common.{◌≡◌, ℕ, Bool, true, false, ◌&&◌, ◌||◌, List, [], ◌∷◌, subst}
use Rattle.std.proofs.lemmas.Bool.{and_parts, eqb-true}
use Rattle.std.specs.List.{list_all, list_any}
use Rattle.cq_model.specs.Expr.{Expr, Column, Literal, Negate, Plus, Times, Extract, Cond, Compare, IsNull, Between, In, Like, Not, And, Or}
use Rattle.cq_model.specs.Own.{is_within, names_only, tests_only}
use Rattle.cq_model_terms.specs.Reads.{reads, reads_in}

-- of two that pass, the one that reads it tells
both-tell : {P : Type 0} (a b x y : Bool) → a && b ≡ true → (a ≡ true → x ≡ true → P) → (b ≡ true → y ≡ true → P) → x || y ≡ true → P
both-tell a b true y h f g r = f (and_parts a b h).0 r
both-tell a b false y h f g r = g (and_parts a b h).1 r

module _ (before wide i : ℕ) where
  -- the column is one of these
  abbrev Within : Type 0
  Within = is_within before wide i ≡ true

  pub named-read : (e : Expr) → names_only before wide e ≡ true → reads i e ≡ true → Within
  named-read (Column j) h r = subst (λ (k : ℕ). is_within before wide k ≡ true) (eqb-true j i r) h
  named-read (Literal v) h r = absurd (cc r)
  named-read (Negate e) h r = named-read e h r
  named-read (Plus a b) h r = both-tell (names_only before wide a) (names_only before wide b) (reads i a) (reads i b) h (named-read a) (named-read b) r
  named-read (Times a b) h r = both-tell (names_only before wide a) (names_only before wide b) (reads i a) (reads i b) h (named-read a) (named-read b) r
  named-read (Extract part e) h r = named-read e h r

  all-named : (es : List Expr) → list_all (names_only before wide) es ≡ true → list_any (reads i) es ≡ true → Within
  all-named [] h r = absurd (cc r)
  all-named (e ∷ es) h r = both-tell (names_only before wide e) (list_all (names_only before wide) es) (reads i e) (list_any (reads i) es) h (named-read e) (all-named es) r

  pub tested-read : (c : Cond) → tests_only before wide c ≡ true → reads_in i c ≡ true → Within
  tested-read (Compare c a b) h r = both-tell (names_only before wide a) (names_only before wide b) (reads i a) (reads i b) h (named-read a) (named-read b) r
  tested-read (IsNull e) h r = named-read e h r
  tested-read (Between e a b) h r =
      both-tell (names_only before wide e) (names_only before wide a && names_only before wide b) (reads i e) (reads i a || reads i b) h (named-read e)
      (λ k s. both-tell (names_only before wide a) (names_only before wide b) (reads i a) (reads i b) k (named-read a) (named-read b) s) r
  tested-read (In e es) h r = both-tell (names_only before wide e) (list_all (names_only before wide) es) (reads i e) (list_any (reads i) es) h (named-read e) (all-named es) r
  tested-read (Like e pattern) h r = named-read e h r
  tested-read (Not c) h r = tested-read c h r
  tested-read (And a b) h r = both-tell (tests_only before wide a) (tests_only before wide b) (reads_in i a) (reads_in i b) h (tested-read a) (tested-read b) r
  tested-read (Or a b) h r = both-tell (tests_only before wide a) (tests_only before wide b) (reads_in i a) (reads_in i b) h (tested-read a) (tested-read b) r
