-- What a fault tells of a part, it tells of the whole.
use Rattle.std.proofs.Common.{List}
use Rattle.std.specs.List.{Any}
use Rattle.cq_test_plain.specs.declared.fault.PlainFault.{PlainFault}
use Rattle.cq_test_plain.specs.declared.fault.PlainFault.TheVariants.{Memory, TooWide, SumOutOfRange}
use Rattle.cq_test_plain.specs.Faults.{Tells}

pub tells_more : {W V O P : Type 0} → (W → V) → (O → P) → (e : PlainFault) → Tells W O e → Tells V P e
tells_more f g Memory t = tt
tells_more f g TooWide t = f t
tells_more f g SumOutOfRange t = g t

pub any_more : {X : Type 0} {P Q : X → Type 0} → ((x : X) → P x → Q x) → (xs : List X) → Any P xs → Any Q xs
any_more f xs a = (a.0, a.1, a.2, a.3, f a.1 a.4)
