use Rattle.lossy_link.proofs.Keeping.{whole_order}
use Rattle.lossy_link.proofs.StepsMade.{all_whole, all_replay}
use Rattle.lossy_link.proofs.laws.lists_replay_over_links.Goals as goal

pub returns : goal.returns
returns c l end xs es whole steps =
    let kept = all_whole l end xs es whole steps in
    (kept, whole_order end kept, all_replay l end xs es whole steps)
