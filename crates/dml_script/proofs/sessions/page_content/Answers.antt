use Rattle.std.proofs.lemmas.List.{drop-replicate}
use Rattle.dml_script.proofs.SessionLemmas.{page_is}
use Rattle.dml_script.proofs.sessions.page_content.Goals as goal

pub returns : goal.returns
returns c = page_is c.args.bytes.now _ _ c.copy_from_slice.ensures.after (drop-replicate _ _ _)
