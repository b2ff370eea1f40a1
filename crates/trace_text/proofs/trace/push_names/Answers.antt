-- The first name, and then those that come later.
use Rattle.chem_model.specs.declared.name.Name.TheVariants.{Seen}
use Rattle.trace_text.proofs.Lists.{names_open}
use Rattle.trace_text.proofs.trace.push_names.Goals as goal

pub returns : goal.returns
returns c = names_open c.args.program.now c.args.binders.now c.args.ranks.now
    c.as_slice-members.result.now c.args.names.now (Seen 0)
    c.args.text.now c.push_name.new.text c.push_later.new.text c.as_slice-members.ensures.members
    c.in-len1-up.len_at_least c.in_ok-push_name.ensures c.in_ok-push_later.ensures
