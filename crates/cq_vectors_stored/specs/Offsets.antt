-- Natural numbers that are lent, whatever their width.
use Rattle.std.specs.Prelude.{ℕ, List}
use Rattle.cq_vectors_stored.specs.declared.offsets.Offsets.{Offsets}
use Rattle.cq_vectors_stored.specs.declared.offsets.Offsets.TheVariants as offsets
use Rattle.cq_vectors_stored.specs.declared.own_offsets.OwnOffsets.{OwnOffsets}
use Rattle.cq_vectors_stored.specs.declared.own_offsets.OwnOffsets.TheVariants as own_offsets

-- the numbers, in 8, 16 or 32 bits each
abbrev pub offsets_in : Offsets → List ℕ
offsets_in (offsets.One numbers) = numbers.now
offsets_in (offsets.Two numbers) = numbers.now
offsets_in (offsets.Four numbers) = numbers.now

-- the same of numbers of one's own
abbrev pub own_offsets_in : OwnOffsets → List ℕ
own_offsets_in (own_offsets.One numbers) = numbers.items
own_offsets_in (own_offsets.Two numbers) = numbers.items
own_offsets_in (own_offsets.Four numbers) = numbers.items
