use Rattle.std.proofs.Common.{[], refl}
use Rattle.cq_cli_folder.proofs.folder.FolderSources.read.Goals as goal

-- what was read is the file of each name in some folder
pub returns-in-Ok-clause-read : goal.returns-in-Ok-clause-read
returns-in-Ok-clause-read c = rw (← c.self.view_is) ((λ _. c.in-Ok.bytes.items), tt, (refl, refl))

-- where nothing was read any files will do
pub returns-in-Err-Failed-clause-read : goal.returns-in-Err-Failed-clause-read
returns-in-Err-Failed-clause-read c = rw (← c.self.view_is) ((λ _. []), tt, refl)
