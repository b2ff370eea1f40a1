use Rattle.std.proofs.Common.{List, length, sym, subst}
use Rattle.chem_model.specs.declared.name.Name.{Name}
use Rattle.wire_packet.specs.Operations.{HasCount}
use Rattle.site_solution.proofs.Receiving.{plain_count}
use Rattle.site_solution.proofs.Receiving.{continued-run}
use Rattle.site_solution.proofs.Answering.{ok-more}
use Rattle.site_solution.proofs.parcels.continued.Goals as goal

pub returns : goal.returns
returns c =
    ok-more c.message.result _ _ (λ r is. continued-run c.args.counts.now c.args.site.now.number
    c.number.result c.args.site.now.made c.made.result c.args.loc.now c.args.cont c.new.result r
    c.new.ensures c.number.ensures c.made.ensures is) c.message.ensures.run

pub message-requires-clause-count : goal.message-requires-clause-count
message-requires-clause-count c = subst (λ (ns : List Name). HasCount c.args.cont (length ns))
    (sym c.new.ensures) (plain_count c.args.cont 0 c.requires)
