use Rattle.net_core.proofs.Enabling.{none_enabled_is_quiet}
use Rattle.net_core.proofs.laws.none_enabled_is_quiet.Goals as goal

pub returns : goal.returns
returns c = none_enabled_is_quiet
