-- What of their parts may.
use denote.Param.Send.{IsSend, IsSync}
use Rattle.env_store.specs.contracts.code.Code as code
use Rattle.loc_tree.specs.contracts.tree.LocTree as tree
use Rattle.site_solution.specs.contracts.site.Site as site
use Rattle.site_turn.specs.contracts.shared.SharedTree as shared_tree

abbrev pub TreeCrosses : Type 0
TreeCrosses = IsSend tree.the_row

abbrev pub TreeIsShared : Type 0
TreeIsShared = IsSync tree.the_row

abbrev pub SiteCrosses : Type 0
SiteCrosses = IsSend site.the_row

abbrev pub CodeCrosses : Type 0
CodeCrosses = IsSend code.the_row

abbrev pub CodeIsShared : Type 0
CodeIsShared = IsSync code.the_row

abbrev pub SharedTreeCrosses : Type 0
SharedTreeCrosses = IsSend shared_tree.the_row

abbrev pub SharedTreeIsShared : Type 0
SharedTreeIsShared = IsSync shared_tree.the_row
