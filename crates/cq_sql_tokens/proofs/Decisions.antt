-- Tests, and the two ways of a test.
use Rattle.std.proofs.Common.{◌≡◌, ◌&&◌, Bool, true, false, cond, refl}

-- what a test gave, it gave by one of its ways
pub either : {A R : Type 0} (v : Bool) (x y z : A) → cond v x y ≡ z → (v ≡ true → x ≡ z → R) → (v ≡ false → y ≡ z → R) → R
either true x y z e taken left = taken refl e
either false x y z e taken left = left refl e

pub second_false : (v w : Bool) → v ≡ true → (v && w) ≡ false → w ≡ false
second_false true w e f = f
second_false false w e f = absurd cc
