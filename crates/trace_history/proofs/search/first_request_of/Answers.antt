-- All members were looked at.
use Rattle.std.proofs.Common.{refl}
use Rattle.std.specs.Option.{option_copied}
use Rattle.chem_causes.specs.Ready.{can_act}
use Rattle.trace_history.specs.inside.Search.{request_before}
use Rattle.trace_history.proofs.FirstOf.{finds_at_end}
use Rattle.trace_history.proofs.Founds.{requests_order}
use Rattle.trace_history.proofs.search.first_request_of.Goals as goal

pub returns : goal.returns
returns c =
    finds_at_end (can_act c.args.numbered.now) (request_before c.args.numbered.now c.args.from)
    (requests_order c.args.numbered.now c.args.from)
    c.args.atoms.now c.args.atoms.now c.loop-atom.atom-index (option_copied c.loop-atom.first) refl
    c.loop-atom-test.false c.loop-atom.invariant
