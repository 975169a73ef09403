-- What is spelled can be stored.
use Rattle.av_document.proofs.StoredEntries.{stored_entries}
use Rattle.av_document.proofs.stored_entries_are_states.Goals as goal

pub returns : goal.returns
returns c = stored_entries
