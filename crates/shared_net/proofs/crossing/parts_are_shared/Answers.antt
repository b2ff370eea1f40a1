-- Each field may be shared.
use denote.Param.Send.{sendable}
use Rattle.shared_net.specs.inside.Crosses.{PartsAreShared}
use Rattle.shared_net.proofs.Sharing.{all_shared}
use Rattle.shared_net.proofs.crossing.parts_are_shared.Goals as goal

pub is_shared-requires-sync-T : goal.is_shared-requires-sync-T
is_shared-requires-sync-T c κs =
    let all : PartsAreShared =
    all_shared c.program_is_shared.ensures c.shared_code_goes_about.ensures.shared
    c.locked_tree_is_shared.ensures c.locked_sites_are_shared.ensures
    c.locked_mail_is_shared.ensures in
    search (sendable, all)
