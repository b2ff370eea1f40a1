-- What of a network's sites may go to another thread, and what threads may share.
use denote.Param.Send.{IsSend, IsSync}
use Rattle.site_turn.specs.contracts.shared.SharedCode as shared_code
use Rattle.site_turn.specs.contracts.kept.KeptTree as kept_tree
use Rattle.site_turn.specs.contracts.kept.KeptSite as kept_site

abbrev pub SharedCodeCrosses : Type 0
SharedCodeCrosses = IsSend shared_code.the_row

abbrev pub SharedCodeIsShared : Type 0
SharedCodeIsShared = IsSync shared_code.the_row

abbrev pub KeptTreeCrosses : Type 0
KeptTreeCrosses = IsSend kept_tree.the_row

abbrev pub KeptTreeIsShared : Type 0
KeptTreeIsShared = IsSync kept_tree.the_row

abbrev pub KeptSiteCrosses : Type 0
KeptSiteCrosses = IsSend kept_site.the_row
