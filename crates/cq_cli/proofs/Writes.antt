-- Writing a text bit by bit.
use Rattle.std.proofs.Common.{◌≡◌, ℕ, ◌+◌, List, [], ◌++◌, take, drop, Option, Some, None, Result, Ok, Err, sym, ap, ◌∙◌, append_assoc, ◌<◌, arith}
use Rattle.std.proofs.lemmas.List.{append-nil, take-append-drop}
use Rattle.std.specs.Io.KnownBytes.{Appends, Keeps}
use Rattle.cq_cli.specs.Writing.{Wrote, WrotePrefix, failures_at}
use Rattle.std.proofs.lemmas.Bool.Decides.{nat_tests}

-- nothing was written
pub appends_nothing : (o : Option (List ℕ)) → Appends o o []
appends_nothing None = tt
appends_nothing (Some xs) = sym (append-nil xs)

-- one text, and then another
pub appends_more : (a b c : Option (List ℕ)) (x y : List ℕ) → Appends a b x → Appends b c y → Appends a c (x ++ y)
appends_more None b c x y p q = tt
appends_more (Some xs) None c x y p q = absurd p
appends_more (Some xs) (Some ys) None x y p q = absurd q
appends_more (Some xs) (Some ys) (Some zs) x y p q = q ∙ ap (λ (t : List ℕ). t ++ y) p ∙ append_assoc xs x y

-- one text, and then nothing
pub appends_kept : (a b c : Option (List ℕ)) (x : List ℕ) → Appends a b x → Keeps b c → Appends a c x
appends_kept None b c x p q = tt
appends_kept (Some xs) None c x p q = absurd p
appends_kept (Some xs) (Some ys) None x p q = absurd q
appends_kept (Some xs) (Some ys) (Some zs) x p q = q ∙ p

-- some bytes of the rest are taken
pub more : (bytes rest after : List ℕ) (n : ℕ) (a b c : Option (List ℕ)) (f0 f1 f2 : ℕ) → (prefix : List ℕ) × (bytes ≡ prefix ++ rest) × Appends a b prefix × (f1 ≡ f0) → Appends b c (take n rest) → f2 ≡ f1 → after ≡ drop n rest
    → (prefix : List ℕ) × (bytes ≡ prefix ++ after) × Appends a c prefix × (f2 ≡ f0)
more bytes rest after n a b c f0 f1 f2 so_far taken same is = (
  so_far.0 ++ take n rest,
  so_far.1 ∙ ap (λ (t : List ℕ). so_far.0 ++ t) (sym (take-append-drop n rest)) ∙ sym (append_assoc so_far.0 (take n rest) (drop n rest)) ∙ ap (λ (t : List ℕ). (so_far.0 ++ take n rest) ++ t) (sym is),
  appends_more a b c so_far.0 (take n rest) so_far.2 taken,
  same ∙ so_far.3,
)

-- a put that takes something does not fail
pub some_taken : (taken offered : ℕ) → 0 < taken → failures_at taken offered ≡ 0
some_taken taken offered some = grind (arith, nat_tests)

-- two texts, one after the other
pub wrote_then : {A E : Type 0} (x y : List ℕ) (a b c : Option (List ℕ)) (f0 f1 f2 : ℕ) (r : Result A E) → Appends a b x × (f1 ≡ f0) → Wrote y b c f1 f2 r → Wrote (x ++ y) a c f0 f2 r
wrote_then x y a b c f0 f1 f2 (Ok u) first second = (appends_more a b c x y first.0 second.0, second.1 ∙ first.1)
wrote_then x y a b c f0 f1 f2 (Err e) first second =
    (x ++ second.0, second.1, ap (λ (t : List ℕ). x ++ t) second.2 ∙ sym (append_assoc x second.0 second.1), appends_more a b c x second.0 first.0 second.3, second.4 ∙ ap (λ n. n + 1) first.1)

-- a prefix of a text is a prefix of a longer one
pub prefix_of_more : (x y : List ℕ) (a b : Option (List ℕ)) (f0 f1 : ℕ) → WrotePrefix x a b f0 f1 → WrotePrefix (x ++ y) a b f0 f1
prefix_of_more x y a b f0 f1 w = (w.0, w.1 ++ y, ap (λ (t : List ℕ). t ++ y) w.2 ∙ append_assoc w.0 w.1 y, w.3, w.4)

-- all of a text was written, and then the sink failed
pub all_then_failed : (x : List ℕ) (a b c : Option (List ℕ)) (f0 f1 f2 : ℕ) → Appends a b x × (f1 ≡ f0) → Keeps b c → f2 ≡ f1 + 1 → WrotePrefix x a c f0 f2
all_then_failed x a b c f0 f1 f2 written kept failed = (x, [], sym (append-nil x), appends_kept a b c x written.0 kept, failed ∙ ap (λ n. n + 1) written.1)
