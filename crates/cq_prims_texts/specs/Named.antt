-- Entries that numbers name.
use Rattle.std.specs.Prelude.{ℕ, ◌<◌, ◌≡◌, nat_eq, Bool, true, false, Option, Some, None, List, length, map, slice_index_or}
use Rattle.cq_values.specs.Truth.{truth_of}
use Rattle.cq_values.specs.declared.truth.Truth.{Truth}
use Rattle.cq_values.specs.declared.truth.Truth.TheVariants.{True, False, Unknown}
use Rattle.cq_values.specs.declared.value.Value.{Value}
use Rattle.cq_values.specs.declared.value.Value.TheVariants.{Text}
use Rattle.cq_prims_texts.specs.declared.by_codes.Trues.{Trues}
use Rattle.cq_prims_texts.specs.declared.by_codes.Trues.TheVariants.{AtMostOne, Known, Others}

-- the truth of the entry that the number names
abbrev pub truth_named : List Truth → ℕ → Truth
truth_named entries number = slice_index_or entries number Unknown

-- the truth, and Unknown where the flag is set
abbrev pub unless_set : Truth → Bool → Truth
unless_set truth true = Unknown
unless_set truth false = truth

-- the truth of the entry that the number names, and Unknown where the flag is set
abbrev pub named_unless : List Truth → ℕ → Bool → Truth
named_unless entries number flag = unless_set (truth_named entries number) flag

-- neither True nor False
abbrev pub is_unknown : Truth → Bool
is_unknown True = false
is_unknown False = false
is_unknown Unknown = true

-- none of the entries is Unknown
abbrev pub HasNoUnknown : List Truth → Type 0
HasNoUnknown entries = (i : ℕ) → i < length entries → is_unknown (truth_named entries i) ≡ false

-- whether the number is the one, if there is one
abbrev pub is_one : Option ℕ → ℕ → Bool
is_one None number = false
is_one (Some one) number = nat_eq number one

-- the first entries are False but for the one
abbrev pub AreFalseBut : Option ℕ → ℕ → List Truth → Type 0
AreFalseBut one count entries = (i : ℕ) → i < count → truth_named entries i ≡ truth_of (is_one one i)

-- what is told of all entries
abbrev pub IsTold : List Truth → Trues → Type 0
IsTold entries (AtMostOne one) = AreFalseBut one (length entries) entries
IsTold entries Known = HasNoUnknown entries
IsTold entries Others = Unit {0}

-- the truths of a condition of texts
abbrev pub truths_of_texts : (Value → Truth) → List (List ℕ) → List Truth
truths_of_texts truth texts = map (λ text. truth (Text text)) texts
