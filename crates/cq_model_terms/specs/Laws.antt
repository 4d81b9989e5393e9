-- What holds of expressions and conditions whose columns are renamed, and of those that name one source alone.
use Rattle.std.specs.Prelude.{◌≡◌, ℕ, Bool, true}
use Rattle.cq_values.specs.Value.{Row, column}
use Rattle.cq_model.specs.Condition.{holds}
use Rattle.cq_model.specs.Eval.{eval}
use Rattle.cq_model.specs.Expr.{Cond, Expr}
use Rattle.cq_model.specs.Own.{is_within, names_only, tests_only}
use Rattle.cq_model.specs.Width.{widest_in, width}
use Rattle.cq_model_terms.specs.Reads.{reads, reads_in}
use Rattle.cq_model_terms.specs.Renamed.{renamed, renamed_cond}

-- two functions give the same of each column that is read
abbrev pub AreSameOn : {A : Type 0} → (ℕ → A) → (ℕ → A) → (ℕ → Bool) → Type 0
AreSameOn x y read = (i : ℕ) → read i ≡ true → x i ≡ y i

-- with its columns renamed it means the same in a row that has, at the new places, what the row has that it reads
pub record RenamedTermsMeanSame : Type 0 where
  pub value : (to : ℕ → ℕ) (r s : Row) (e : Expr) → AreSameOn (λ i. column r (to i)) (column s) (λ i. reads i e)
      → eval (renamed to e) r ≡ eval e s
  pub truth : (to : ℕ → ℕ) (r s : Row) (c : Cond) → AreSameOn (λ i. column r (to i)) (column s) (λ i. reads_in i c)
      → holds (renamed_cond to c) r ≡ holds c s

-- and it is as wide where the sizes there are those of the columns that it reads
pub record RenamedTermsAreAsWide : Type 0 where
  pub value : (to small large : ℕ → ℕ) (e : Expr) → AreSameOn (λ i. small (to i)) large (λ i. reads i e)
      → width (renamed to e) small ≡ width e large
  pub truth : (to small large : ℕ → ℕ) (c : Cond) → AreSameOn (λ i. small (to i)) large (λ i. reads_in i c)
      → widest_in (renamed_cond to c) small ≡ widest_in c large

-- what names the columns of one source alone reads no other one
pub record NamedColumnsAreRead : Type 0 where
  pub value : (before wide : ℕ) (e : Expr) → names_only before wide e ≡ true
      → (i : ℕ) → reads i e ≡ true → is_within before wide i ≡ true
  pub truth : (before wide : ℕ) (c : Cond) → tests_only before wide c ≡ true
      → (i : ℕ) → reads_in i c ≡ true → is_within before wide i ≡ true
