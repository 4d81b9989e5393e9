-- What binding a statement gives where its file comes from a source, which may fail.
use Rattle.std.specs.Prelude.{◌≡◌, ℕ, ◌+◌, Bool, true, false, List, Option, Result, Err}
use Rattle.cq_sql_language.specs.declared.statement.Statement.{Statement}
use Rattle.cq_sql_language.specs.declared.statement.Statement.TheVariants as statements
use Rattle.cq_model_state.specs.State.{State}
use Rattle.cq_binder_rules.specs.declared.bound.Bound.{Bound}
use Rattle.cq_binder_rules.specs.declared.fault.Fault.{Fault}
use Rattle.cq_binder_rules.specs.declared.fault.Fault.TheVariants.{SourceFailed}
use Rattle.cq_binder_rules.specs.declared.sources.Sources.{Ghosts as Sources}
use Rattle.cq_binder_rules.specs.Records.{Files}
use Rattle.cq_binder_rules.specs.Sources.{AreTold, reads_behind}
use Rattle.cq_binder_rules.specs.Refusal.{reads_source}
use Rattle.cq_binder_queries.specs.declared.catalog.Catalog.{Ghosts as Catalog}
use Rattle.cq_binder_queries.specs.Catalog.{state_of}
use Rattle.cq_binder.specs.Binding.{BindsAlone, BindsOver}

-- whether a statement names a file
abbrev pub names_file : Statement → Bool
names_file (statements.Copy name file) = true
names_file statement = false

-- a statement that names no file is bound, or one is bound over its file, or its source has failed, which is counted
pub data IsBound (told : Option Files) (s : State) (statement : Statement) (before after : ℕ) (result : Result Bound Fault) : Type 0 where
  alone : names_file statement ≡ false → BindsAlone s statement result → after ≡ before → IsBound told s statement before after result
  over : (files : Files) → AreTold told files → BindsOver files s statement result → after ≡ before → IsBound told s statement before after result
  failed : reads_source s statement ≡ true → result ≡ Err SourceFailed → after ≡ before + 1 → IsBound told s statement before after result

-- the same of sources and of a catalog
abbrev pub Binds : {S C : Type 0} → Sources S → S → S → Catalog C → C → Statement → Result Bound Fault → Type 0
Binds sources old new catalog c statement result =
    IsBound (sources.files old) (state_of catalog.tables catalog.views c) statement (sources.failures old) (sources.failures new) result

-- the same of a statement that reads no file, over a catalog
abbrev pub BindsIn : {C : Type 0} → Catalog C → C → Statement → Result Bound Fault → Type 0
BindsIn catalog c statement result = BindsAlone (state_of catalog.tables catalog.views c) statement result

-- a COPY whose names have no fault reads its source once, and no other statement reads it
abbrev pub ReadsOnce : {S C : Type 0} → Sources S → S → S → Catalog C → C → Statement → Type 0
ReadsOnce sources old new catalog c statement =
    sources.reads new ≡ reads_behind (reads_source (state_of catalog.tables catalog.views c) statement) (sources.reads old)

-- COPY of this file into the table of this name, bound over sources and a catalog
abbrev pub Loads : {S C : Type 0} → Sources S → S → S → Catalog C → C → List ℕ → List ℕ → Result Bound Fault → Type 0
Loads sources old new catalog c name file result = Binds sources old new catalog c (statements.Copy name file) result

-- it reads its source once, where its names have no fault
abbrev pub LoadsOnce : {S C : Type 0} → Sources S → S → S → Catalog C → C → List ℕ → List ℕ → Type 0
LoadsOnce sources old new catalog c name file = ReadsOnce sources old new catalog c (statements.Copy name file)
