-- How tightly the parts of an expression bind, and which tokens are an expression (docs/LANGUAGE.md, Expressions).
use Rattle.std.specs.Prelude.{◌≡◌, ℕ, nat_le, Bool, true, false, ◌&&◌, List}
use Rattle.cq_sql_language.specs.declared.token.Token.{Token}
use Rattle.cq_sql_language.specs.Spelling.{spelled}
use Rattle.cq_sql_language.specs.Written.{Written, Choices, Number, Text, Date, Null, Column, Extract, CountAll, Aggregate, Parens, Negative, Times, Plus, Minus, Compare, IsNull, Between, In, Like, Not, And, Or, NoChoice, Choice}

-- how tightly a node holds its parts together, by the rules of the grammar (docs/LANGUAGE.md, The grammar):
-- 0 expr (OR), 1 conj (AND), 2 neg (NOT), 3 pred (a test), 4 sum, 5 prod, 6 a minus, 7 what stands for itself
abbrev pub tightness : Written → ℕ
tightness (Or a b) = 0
tightness (And a b) = 1
tightness (Not a) = 2
tightness (Compare c a b) = 3
tightness (IsNull negated a) = 3
tightness (Between negated a least greatest) = 3
tightness (In negated a bs) = 3
tightness (Like negated a pattern) = 3
tightness (Plus a b) = 4
tightness (Minus a b) = 4
tightness (Times a b) = 5
tightness (Negative a) = 6
tightness w = 7

-- an expression whose own parts are in order stands where this tightness is asked for
abbrev pub fits : ℕ → Written → Bool → Bool
fits level w in_order = nat_le level (tightness w) && in_order

abbrev pub has_entries : Choices → Bool
has_entries NoChoice = false
has_entries (Choice a bs) = true

abbrev mutual
  -- each part is as tight as its rule asks: `sum := prod {(+ | -) prod}` asks for a prod on the right, and on the left for
  -- the sum so far; `pred := sum [test]` for sums on both sides; `neg := [NOT] pred`, `conj := neg {AND neg}` and
  -- `expr := conj {OR conj}` likewise
  pub is_in_order : Written → Bool
  is_in_order (Extract part a) = fits 4 a (is_in_order a)
  is_in_order (Aggregate function a) = fits 4 a (is_in_order a)
  is_in_order (Parens a) = is_in_order a
  is_in_order (Negative a) = fits 7 a (is_in_order a)
  is_in_order (Times a b) = fits 5 a (is_in_order a) && fits 6 b (is_in_order b)
  is_in_order (Plus a b) = fits 4 a (is_in_order a) && fits 5 b (is_in_order b)
  is_in_order (Minus a b) = fits 4 a (is_in_order a) && fits 5 b (is_in_order b)
  is_in_order (Compare c a b) = fits 4 a (is_in_order a) && fits 4 b (is_in_order b)
  is_in_order (IsNull negated a) = fits 4 a (is_in_order a)
  is_in_order (Between negated a least greatest) = fits 4 a (is_in_order a) && fits 4 least (is_in_order least) && fits 4 greatest (is_in_order greatest)
  is_in_order (In negated a bs) = fits 4 a (is_in_order a) && has_entries bs && are_in_order bs
  is_in_order (Like negated a pattern) = fits 4 a (is_in_order a)
  is_in_order (Not a) = fits 3 a (is_in_order a)
  is_in_order (And a b) = fits 1 a (is_in_order a) && fits 2 b (is_in_order b)
  is_in_order (Or a b) = is_in_order a && fits 1 b (is_in_order b)
  is_in_order w = true

  -- the entries of a list are sums
  pub are_in_order : Choices → Bool
  are_in_order NoChoice = true
  are_in_order (Choice a bs) = fits 4 a (is_in_order a) && are_in_order bs

-- an expression of at least this tightness
abbrev pub IsTight : ℕ → Written → List Token → Type 0
IsTight level w ts = (fits level w (is_in_order w) ≡ true) × (ts ≡ spelled w)

-- an expression, a value or a condition
abbrev pub IsExpression : Written → List Token → Type 0
IsExpression w ts = IsTight 0 w ts
