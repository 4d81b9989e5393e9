use Rattle.std.proofs.Common.{◌≡◌, Bool, true, false, refl}
use borrow.Author.Tests.{ltb-true}
use Rattle.std.specs.Bool.{then_some}
use Rattle.std.specs.Prelude.{IfSome}
use Rattle.cq_sql_tokens.specs.Runs.{IsNumberAt}
use Rattle.cq_sql_tokens.proofs.Numbers.{number_of_first}
use Rattle.cq_sql_tokens.proofs.words.small_number.Goals as goal

-- a value that a test lets through
if_passes : {A : Type 0} (P : A → Type 0) (v : Bool) (x : A) → (v ≡ true → P x) → IfSome (then_some v x) P
if_passes P true x h = h refl
if_passes P false x h = tt

pub returns-in-Some : goal.returns-in-Some
returns-in-Some c =
    rw c.then_some.ensures
    (if_passes (IsNumberAt c.args.bytes.now) _ c.number_within-number.result
    (λ few. number_of_first c.args.bytes.now c.in-Some.front.now 16 c.number_within-number.result c.in-Some.ensures.lookup.0.2 (ltb-true _ _ few) c.number_within-number.ensures))
