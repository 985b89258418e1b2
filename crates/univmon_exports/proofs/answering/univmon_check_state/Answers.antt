-- What the library's call ensures, as it stands: so a slice that is handed on in another's place shows in the check's message.
use Rattle.univmon_exports.proofs.answering.univmon_check_state.Goals as goal

pub returns : goal.returns
returns c = c.univmon_check_state.ensures
