-- What a source answers.
use Rattle.std.specs.Prelude.{◌≡◌, ℕ, ◌+◌, ◌%◌, ◌^◌, Bool, if◌then◌else◌, List, Option, Some, None, Result, Ok, Err, Vec}
use Rattle.std.specs.Global.{Global}
use Rattle.cq_binder_rules.specs.declared.fault.Fault.{Fault}
use Rattle.cq_binder_rules.specs.declared.fault.Fault.TheVariants as faults
use Rattle.cq_binder_rules.specs.Records.{Files}
use Rattle.cq_binder_rules.specs.declared.sources.SourceFault.{SourceFault}
use Rattle.cq_binder_rules.specs.declared.sources.SourceFault.TheVariants.{Failed, Memory}

-- these are the files that a source tells; where it tells none, as a folder of the system, they are any
abbrev pub AreTold : Option Files → Files → Type 0
AreTold None files = Unit {0}
AreTold (Some told) files = files ≡ told

-- the file, or want of memory, or a failure that is counted
abbrev pub ReadsFile : List ℕ → ℕ → ℕ → Result (Vec ℕ Global) SourceFault → Type 0
ReadsFile file before after (Ok bytes) = (bytes.items ≡ file) × (after ≡ before)
ReadsFile file before after (Err Memory) = after ≡ before
ReadsFile file before after (Err Failed) = after ≡ before + 1

-- the file of a name is read
abbrev pub Reads : Option Files → List ℕ → ℕ → ℕ → Result (Vec ℕ Global) SourceFault → Type 0
Reads told name before after result = (files : Files) × AreTold told files × ReadsFile (files name) before after result

-- a source was read once more; its count has 64 bits, and begins anew behind the last of them
abbrev pub one_read_more : ℕ → ℕ
one_read_more reads = (reads + 1) % 2 ^ 64

-- how often a source was read behind what reads it once, or not at all
abbrev pub reads_behind : Bool → ℕ → ℕ
reads_behind read_once reads = if read_once then one_read_more reads else reads

-- the refusal of a COPY whose source gave nothing
abbrev pub fault_of : SourceFault → Fault
fault_of Failed = faults.SourceFailed
fault_of Memory = faults.Memory
