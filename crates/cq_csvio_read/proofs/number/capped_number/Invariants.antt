use Rattle.std.proofs.Common.{◌≡◌, true, take}
use Rattle.std.specs.List.{list_all}
use Rattle.cq_values.specs.Dates.{is_digit, number_of}
use Rattle.cq_csvio_read.specs.Numbers.{capped}
use Rattle.cq_csvio_read.proofs.number.capped_number.Given as goal

-- the bytes so far are digits, and they spell the number
abbrev pub invariant-loop-byte : goal.invariant-loop-byte
invariant-loop-byte l =
    (list_all is_digit (take l.byte-index l.digits) ≡ true)
    × (l.number ≡ capped (number_of (take l.byte-index l.digits)))
