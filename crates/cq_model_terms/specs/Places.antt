-- Places of columns among those that are kept of a row.
use Rattle.std.specs.Prelude.{ℕ, zero, suc, ◌==◌, Bool, if◌then◌else◌, List, [], ◌∷◌}
use Rattle.std.specs.List.{list_any}

-- whether a place is one of these
abbrev pub is_one_of : List ℕ → ℕ → Bool
is_one_of places place = list_any (λ k. k == place) places

-- where a place stands among these, and behind them all where it is none of them
abbrev pub place_in : List ℕ → ℕ → ℕ
place_in [] place = zero
place_in (k ∷ places) place = if k == place then zero else suc (place_in places place)
