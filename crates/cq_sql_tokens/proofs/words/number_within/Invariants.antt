use Rattle.std.proofs.Common.{◌≡◌, ◌+◌, ◌<◌, ◌^◌, take, drop}
use Rattle.std.specs.List.{prefix_len}
use Rattle.cq_sql_language.specs.Characters.{is_digit}
use Rattle.cq_sql_language.specs.Tokens.{decimal}
use Rattle.cq_sql_tokens.proofs.words.number_within.Given as goal

-- the bytes so far are digits, and the number so far is theirs
abbrev pub invariant-loop-i : goal.invariant-loop-i
invariant-loop-i l =
    (l.i + prefix_len is_digit (drop l.i l.bytes) ≡ prefix_len is_digit l.bytes) × (l.number ≡ decimal (take l.i l.bytes)) × (l.number < 10 ^ l.i)
