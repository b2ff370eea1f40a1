use Rattle.std.proofs.Common.{◌≡◌, true, false}
use Rattle.net_core.specs.Choosing.{Allows}
use Rattle.net_core.specs.Scheduling.{Meets, Forbids}
use Rattle.site_runner.proofs.Rounding.{meets_turn, no_turn}
use Rattle.site_runner.proofs.in_rounds.meet_one.Goals as goal

pub returns-in_ok-make : goal.returns-in_ok-make
returns-in_ok-make c = meets_turn c.args.net.now c.make.new.net c.args.book.now c.make.new.book
    c.args.choice.now c.in_ok-make.ensures c.requires.request

pub returns-else-enabled : goal.returns-else-enabled
returns-else-enabled c =
    let not : Allows c.args.net.now.code c.args.net.now.net c.args.choice.now → ⊥ =
    λ a. absurd (let clash : false ≡ true = c.if-enabled.ensures.1 a in cc) in
    no_turn Meets Forbids c.args.net.now c.args.book.now c.args.choice.now c.requires.one not
