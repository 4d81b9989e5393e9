-- A walk through checks, each of which has its fault or none: the first fault wins (docs/LANGUAGE.md, Refusals).
use Rattle.std.specs.Prelude.{◌≡◌, ℕ, nat_lt, Bool, if◌then◌else◌, List, [], ◌∷◌, Option, Some, None}
use Rattle.cq_binder_rules.specs.declared.fault.Fault.{Fault}
use Rattle.cq_binder_rules.specs.declared.fault.Fault.TheVariants.{LimitExceeded}
use Rattle.cq_binder_rules.specs.declared.fault.Fault.TheVariants as faults

-- the first check that has a fault decides
abbrev pub first_fault : List (Option Fault) → Option Fault
first_fault [] = None
first_fault (Some f ∷ checks) = Some f
first_fault (None ∷ checks) = first_fault checks

abbrev pub fault_if : Bool → Fault → Option Fault
fault_if b f = if b then Some f else None

-- a list has at most 64 entries
abbrev pub too_long : ℕ → Option Fault
too_long entries = fault_if (nat_lt 64 entries) LimitExceeded

-- what a stretch of the walk may be refused with: want of memory may come at any point of it
abbrev pub MayRefuse : Option Fault → Fault → Type 0
MayRefuse refused faults.Memory = Unit {0}
MayRefuse refused f = refused ≡ Some f
