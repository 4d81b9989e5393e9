-- What a stretch of the walk through a statement's checks gives.
use Rattle.std.specs.Prelude.{◌≡◌, List, Option, None, Result, MatchResult}
use Rattle.cq_binder_rules.specs.declared.fault.Fault.{Fault}
use Rattle.cq_binder_rules.specs.Checks.{first_fault, MayRefuse}

-- a result of this kind where no check has a fault, and otherwise a refusal that may come
abbrev pub Walked : {X : Type 0} → List (Option Fault) → (X → Type 0) → Result X Fault → Type 0
Walked checks Is result = MatchResult result (λ x. (first_fault checks ≡ None) × Is x) (MayRefuse (first_fault checks))

-- a stretch that gives this value where no check has a fault
abbrev pub WalksTo : {X : Type 0} → List (Option Fault) → X → Result X Fault → Type 0
WalksTo checks value result = Walked checks (λ x. x ≡ value) result

-- the stretch can be passed, or else is refused
abbrev pub Passes : List (Option Fault) → Result (Unit {0}) Fault → Type 0
Passes checks result = Walked checks (λ x. Unit {0}) result
