use denote.Param.Send.{Quiet-if}
use mir.Syntax.{of_param}
use Rattle.shared_net.proofs.working.lend_locked.Goals as goal

pub lend-requires-send-K : goal.lend-requires-send-K
lend-requires-send-K g c κs within = record {
  owned = c.locked_crosses.ensures.owned;
  leaving = λ k. Quiet-if (k (of_param 1)) _ _ (λ d w. (tt, (tt, tt))) (λ d w. tt);
}
