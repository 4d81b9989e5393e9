-- How often a source failed, as the outcome of one statement tells it.
use Rattle.std.proofs.Common.{◌≡◌, ℕ, ◌+◌, false, [], ◌∷◌, Result, Err, refl, arith}
use Rattle.cq_binder_rules.specs.declared.fault.Fault.{Fault}
use Rattle.cq_binder_rules.specs.declared.fault.Fault.TheVariants as faults
use Rattle.cq_binder_rules.proofs.Clean.{is_source}
use Rattle.cq_model_step.specs.declared.answer.Answer.{Answer}
use Rattle.cq_model_step.specs.Output.{is_source_failure, source_failures}

failure_is : (f : Fault) → is_source f ≡ false → is_source_failure (Err f) ≡ false
failure_is faults.SourceFailed h = absurd (cc)
failure_is f h = refl

one_failure : (o : Result Answer Fault) → is_source_failure o ≡ false → source_failures (o ∷ []) ≡ 0
one_failure o h = rw h refl

-- a refusal for another reason counts no failure
pub none_counted : (f : Fault) → is_source f ≡ false → source_failures (Err f ∷ []) ≡ 0
none_counted f h = one_failure (Err f) (failure_is f h)

-- a refusal for a source counts one
pub one_counted : (f : Fault) → f ≡ faults.SourceFailed → source_failures (Err f ∷ []) ≡ 1
one_counted f is = rw is refl

-- what stays has grown by nothing
pub grown_by_none : (before after told : ℕ) → after ≡ before → told ≡ 0 → after ≡ before + told
grown_by_none before after told same none = omega (arith, same, none)

pub grown_by_one : (before after told : ℕ) → after ≡ before + 1 → told ≡ 1 → after ≡ before + told
grown_by_one before after told more one = omega (arith, more, one)
