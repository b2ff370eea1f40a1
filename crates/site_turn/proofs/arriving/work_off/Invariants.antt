use Rattle.site_turn.specs.Bringing.{StillActs}
use Rattle.site_turn.proofs.Coming.{IsComing}
use Rattle.site_turn.proofs.arriving.work_off.Given as goal

abbrev pub invariant-loop-text : goal.invariant-loop-text
invariant-loop-text l = record {
  come : IsComing l.tree l.initial.site l.mail l.text-index l.site l.on;
  fit : StillActs l.tree l.initial.site l.site;
}
