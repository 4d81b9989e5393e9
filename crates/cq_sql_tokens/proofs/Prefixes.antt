-- The longest part of a text in front whose bytes all pass a test.
use Rattle.std.proofs.Common.{◌≡◌, ℕ, zero, suc, ◌+◌, ◌<◌, Bool, true, false, cond, List, [], ◌∷◌, ◌++◌, length, take, drop, refl, sym, ap, ◌∙◌, arith}
use Rattle.std.proofs.Math.Numerals.{one-add}
use Rattle.std.proofs.lemmas.List.{take_at, drop_at}
use Rattle.std.specs.List.{prefix_len, list_all}
use Rattle.cq_sql_language.specs.Characters.{begins}
use Rattle.std.proofs.lemmas.Bool.{and_parts}

all_here : (p : ℕ → Bool) (b : ℕ) (bs : List ℕ) (v : Bool) → p b ≡ v → list_all p (take (prefix_len p bs) bs) ≡ true → list_all p (take (cond v (1 + prefix_len p bs) 0) (b ∷ bs)) ≡ true
all_here p b bs true e h = rw (one-add, e) h
all_here p b bs false e h = refl

-- it passes
pub prefix_passes : (p : ℕ → Bool) (bs : List ℕ) → list_all p (take (prefix_len p bs) bs) ≡ true
prefix_passes p [] = refl
prefix_passes p (b ∷ bs) = all_here p b bs (p b) refl (prefix_passes p bs)

stops_here : (p : ℕ → Bool) (b : ℕ) (bs : List ℕ) (v : Bool) → p b ≡ v → begins p (drop (prefix_len p bs) bs) ≡ false → begins p (drop (cond v (1 + prefix_len p bs) 0) (b ∷ bs)) ≡ false
stops_here p b bs true e h = rw one-add h
stops_here p b bs false e h = e

-- what follows does not begin with such a byte
pub prefix_stops : (p : ℕ → Bool) (bs : List ℕ) → begins p (drop (prefix_len p bs) bs) ≡ false
prefix_stops p [] = refl
prefix_stops p (b ∷ bs) = stops_here p b bs (p b) refl (prefix_stops p bs)

-- a byte that passes, and the longest such part behind it
pub prefix_cons : (p : ℕ → Bool) (b : ℕ) (bs : List ℕ) → p b ≡ true → prefix_len p (b ∷ bs) ≡ suc (prefix_len p bs)
prefix_cons p b bs e = rw e (one-add (prefix_len p bs))

none_in_front : (p : ℕ → Bool) (rest : List ℕ) → begins p rest ≡ false → prefix_len p rest ≡ 0
none_in_front p [] h = refl
none_in_front p (b ∷ bs) h = rw h refl

-- where a part passes and what follows does not, that part is the longest
pub prefix_found : (p : ℕ → Bool) (front rest : List ℕ) → list_all p front ≡ true → begins p rest ≡ false → prefix_len p (front ++ rest) ≡ length front
prefix_found p [] rest all stops = none_in_front p rest stops
prefix_found p (b ∷ bs) rest all stops =
    let parts = and_parts (p b) (list_all p bs) all in
    prefix_cons p b (bs ++ rest) parts.0 ∙ ap suc (prefix_found p bs rest parts.1 stops)

-- the cut behind such a part
pub prefix_cut : (p : ℕ → Bool) (front rest : List ℕ) → list_all p front ≡ true → begins p rest ≡ false
    → (take (prefix_len p (front ++ rest)) (front ++ rest) ≡ front) × (drop (prefix_len p (front ++ rest)) (front ++ rest) ≡ rest)
prefix_cut p front rest all stops =
    let len : prefix_len p (front ++ rest) ≡ length front = prefix_found p front rest all stops in
    (take_at front rest (prefix_len p (front ++ rest)) (sym len), drop_at front rest (prefix_len p (front ++ rest)) (sym len))

front_here : (p : ℕ → Bool) (n b : ℕ) (bs : List ℕ) (v : Bool) → p b ≡ v → (prefix_len p (take n bs) < n → prefix_len p bs ≡ prefix_len p (take n bs))
    → cond v (1 + prefix_len p (take n bs)) 0 < suc n → cond v (1 + prefix_len p bs) 0 ≡ cond v (1 + prefix_len p (take n bs)) 0
front_here p n b bs true e more ends = ap (λ (k : ℕ). 1 + k) (more (omega arith))
front_here p n b bs false e more ends = refl

-- where the longest such part of the first bytes ends among them, it is that of all bytes
pub prefix_of_first : (p : ℕ → Bool) (n : ℕ) (bs : List ℕ) → prefix_len p (take n bs) < n → prefix_len p bs ≡ prefix_len p (take n bs)
prefix_of_first p zero bs ends = absurd (omega arith)
prefix_of_first p (suc n) [] ends = refl
prefix_of_first p (suc n) (b ∷ bs) ends = front_here p n b bs (p b) refl (prefix_of_first p n bs) ends
