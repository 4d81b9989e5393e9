-- What a sink was given.
use Rattle.std.specs.Prelude.{◌≡◌, ℕ, ◌+◌, ◌%◌, ◌^◌, ◌==◌, not, ◌&&◌, if◌then◌else◌, List, ◌++◌, Option, Result, Ok, Err}
use Rattle.std.specs.Io.KnownBytes.{Appends}

-- to take nothing of some bytes is one failure
abbrev pub failures_at : ℕ → ℕ → ℕ
failures_at taken offered = if (taken == 0) && not (offered == 0) then 1 else 0

-- a put fails by an error, and where it takes nothing of some bytes
abbrev pub failures_after : {E : Type 0} → Result ℕ E → ℕ → ℕ
failures_after (Ok taken) offered = failures_at taken offered
failures_after (Err e) offered = 1

-- a call that takes nothing fails by an error alone
abbrev pub failures_of : {A E : Type 0} → Result A E → ℕ
failures_of (Ok a) = 0
failures_of (Err e) = 1

-- a flush that succeeds is counted, in 64 bits
abbrev pub flushes_after : {A E : Type 0} → Result A E → ℕ → ℕ
flushes_after (Ok a) flushes = (flushes + 1) % 2 ^ 64
flushes_after (Err e) flushes = flushes

-- a prefix of a text was written, and the sink failed once
abbrev pub WrotePrefix : List ℕ → Option (List ℕ) → Option (List ℕ) → ℕ → ℕ → Type 0
WrotePrefix text old new before after = (prefix back : List ℕ) × (text ≡ prefix ++ back) × Appends old new prefix × (after ≡ before + 1)

-- all of a text was written and nothing failed, or a prefix of it was
abbrev pub Wrote : {A E : Type 0} → List ℕ → Option (List ℕ) → Option (List ℕ) → ℕ → ℕ → Result A E → Type 0
Wrote text old new before after (Ok a) = Appends old new text × (after ≡ before)
Wrote text old new before after (Err e) = WrotePrefix text old new before after
