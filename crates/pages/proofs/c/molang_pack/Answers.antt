use Rattle.std.proofs.lemmas.List.{drop-replicate}
use Rattle.pages.proofs.c.molang_pack.Goals as goal

pub returns-in-Err-clause-behind : goal.returns-in-Err-clause-behind
returns-in-Err-clause-behind c = drop-replicate _ 32 0
