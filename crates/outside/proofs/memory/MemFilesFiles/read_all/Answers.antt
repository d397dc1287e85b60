use Rattle.std.proofs.Common.{refl}
use Rattle.outside.proofs.memory.MemFilesFiles.read_all.Goals as goal

pub returns-in-None-clause-refused : goal.returns-in-None-clause-refused
returns-in-None-clause-refused c = (λ _. rw (← c.self.view_is) (c.in-None.ensures.missing.0 refl), λ _. refl)
