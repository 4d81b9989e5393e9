-- Which names a COPY may open in its folder (docs/LANGUAGE.md, COPY).
use Rattle.std.specs.Prelude.{◌≡◌, ℕ, ◌==◌, Bool, false, ◌&&◌, ◌||◌, not, List, length, codes, Result, Err}
use Rattle.std.specs.List.{list_any}
use Rattle.cq_binder_rules.specs.declared.sources.SourceFault.{SourceFault}
use Rattle.cq_binder_rules.specs.declared.sources.SourceFault.TheVariants.{Failed}
use Rattle.cq_values.specs.Texts.{is_text}

-- what no file's name has: a slash, and NUL
abbrev pub is_barred : ℕ → Bool
is_barred b = (b == 47) || (b == 0)

-- whether a name is that of a file in a folder: it is not empty, and not that of the folder or of the one above
abbrev pub is_file_name : List ℕ → Bool
is_file_name name = not (length name == 0) && not (is_text name (codes ".")) && not (is_text name (codes "..")) && not (list_any is_barred name)

-- a name that is not a file's is that of a failed source
abbrev pub OpensFilesAlone : {A : Type 0} → List ℕ → Result A SourceFault → Type 0
OpensFilesAlone name result = is_file_name name ≡ false → result ≡ Err Failed
