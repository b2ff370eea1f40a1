use Rattle.std.proofs.Common.{◌≡◌, ◌+◌, ◌*◌, drop}
use Rattle.code_run.proofs.Loops.{Running, Laying}
use Rattle.code_run.proofs.body.Runner.+run_body.Given as goal

abbrev pub invariant-run_body-loop-instr : goal.invariant-run_body-loop-instr
invariant-run_body-loop-instr l = Running l.self.code.now l.self.site l.self.loc l.body
    l.initial.env l.initial.made l.made l.env l.instr-items (drop l.instr-index l.instr-items)

abbrev pub invariant-lay_places-loop-place : goal.invariant-lay_places-loop-place
invariant-lay_places-loop-place l = Laying l.self.code.now l.self.site l.below l.env l.initial.made
    l.made l.from l.k l.places (drop l.place-index l.places) × (l.own ≡ l.env)

-- a body hands each instruction on, and a block its places
abbrev pub decreases-run_body : goal.decreases-run_body
decreases-run_body l = 5 * l.body + 4

abbrev pub decreases-step : goal.decreases-step
decreases-step l = 5 * l.below + 3

abbrev pub decreases-enter : goal.decreases-enter
decreases-enter l = 5 * l.below + 2

abbrev pub decreases-lay_block : goal.decreases-lay_block
decreases-lay_block l = 5 * l.below + 1

abbrev pub decreases-lay_places : goal.decreases-lay_places
decreases-lay_places l = 5 * l.below
