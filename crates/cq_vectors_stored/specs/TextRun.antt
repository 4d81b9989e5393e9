-- Texts that stand one behind the other, and where each of them ends.
use Rattle.std.specs.Prelude.{ℕ, ◌+◌, ◌-◌, ◌^◌, ◌<◌, ◌≤◌, ◌≡◌, List, [], ◌∷◌, length, take, drop}
use Rattle.std.specs.List.{All, concat}
use Rattle.std.specs.Str.{IsUtf8}

-- the texts that bytes are cut into, where the first byte stands at a place
abbrev pub cut : List ℕ → ℕ → List ℕ → List (List ℕ)
cut bytes from [] = []
cut bytes from (end ∷ ends) = take (end - from) bytes ∷ cut (drop (end - from) bytes) end ends

-- where each text ends, if the first begins at a place
abbrev pub ends_of : ℕ → List (List ℕ) → List ℕ
ends_of from [] = []
ends_of from (text ∷ texts) = (from + length text) ∷ ends_of (from + length text) texts

-- the bytes are those of the texts, one behind the other, and the ends are theirs
pub record IsLaid (bytes ends : List ℕ) (texts : List (List ℕ)) : Type 0 where
  pub joined : bytes ≡ concat texts
  pub ended : ends ≡ ends_of 0 texts
  pub utf8 : All IsUtf8 texts
  pub few : length texts ≤ 65536
  pub short : length bytes < 2 ^ 32

-- one text more is within the number of texts and the length of all
pub record HasRoom (texts : List (List ℕ)) (text : List ℕ) : Type 0 where
  pub few : length texts < 65536
  pub short : length (concat texts) + length text < 2 ^ 32
