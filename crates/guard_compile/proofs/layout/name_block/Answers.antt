use Rattle.chem_model.specs.Process.{definitions}
use Rattle.guard_compile.proofs.Blocks.{block_named}
use Rattle.guard_compile.proofs.layout.name_block.Goals as goal

pub returns : goal.returns
returns c =
    block_named c.name_places.result (definitions c.args.defs.now) c.args.opened.now
    (record {
      channels = c.name_channels.new.fresh;
      counts = c.name_channels.new.counts;
      order = c.name_places.new.named;
    })
    c.name_channels.new.named c.requires c.in_ok-name_channels.ensures.named
    c.in_ok-name_channels.ensures.fresh c.in_ok-name_channels.ensures.counts c.name_places.ensures
