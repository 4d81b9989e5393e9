use Rattle.std.proofs.Common.{◌≡◌, ◌+◌, ◌++◌, map, take}
use Rattle.std.specs.Prelude.{slice_index_or}
use Rattle.cq_table.proofs.finding.find_kept.Given as goal

-- the places so far stand behind those that were found before
abbrev pub invariant-loop-place : goal.invariant-loop-place
invariant-loop-place l = l.found.items ≡ l.initial.found.items ++ map (λ i. l.before + slice_index_or l.live.items i 0) (take l.place-index l.place-items)
