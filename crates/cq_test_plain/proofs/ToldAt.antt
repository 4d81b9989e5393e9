-- What a fault at one element of a list tells of the list.
use Rattle.std.proofs.Common.{◌≡◌, ℕ, ◌<◌, List, length}
use Rattle.std.specs.Prelude.{slice_index_or}
use Rattle.std.specs.List.{Any}
use Rattle.cq_test_plain.specs.declared.fault.PlainFault.{PlainFault}
use Rattle.cq_test_plain.specs.declared.fault.PlainFault.TheVariants.{Memory, TooWide, SumOutOfRange}
use Rattle.cq_test_plain.specs.Faults.{Tells}

-- an element is too wide, so some element is
pub told_at : {X : Type 0} (IsWide : X → Type 0) (xs : List X) (i : ℕ) (x : X) (fault : PlainFault)
    → i < length xs → slice_index_or xs i x ≡ x → Tells (IsWide x) ⊥ fault → Tells (Any IsWide xs) ⊥ fault
told_at IsWide xs i x Memory inside at told = tt
told_at IsWide xs i x TooWide inside at told = (i, x, inside, at, told)
told_at IsWide xs i x SumOutOfRange inside at told = absurd told
