use Rattle.std.proofs.Common.{rules, ◌≡◌, ◌∙◌}
use Rattle.std.specs.Prelude.{not, filter}
use Rattle.std.proofs.lemmas.Fn.{filter_same}
use Rattle.chem_model.specs.Solution.{same_loc}
use Rattle.wire_packet.specs.declared.packet.Waiting.{Waiting}
use Rattle.site_shelves.proofs.Shelving.{stuck-kept}
use Rattle.site_shelves.proofs.shelves.drop_stuck.Goals as goal

pub returns : goal.returns
returns c =
    let left : c.retain.new.self.items
    ≡ filter (λ (w : Waiting). not (same_loc c.args.loc w.loc)) c.args.stuck.now.items =
    filter_same _ (λ (w : Waiting). not (same_loc c.args.loc w.loc)) _ (λ x b f' k. search rules) _
    _ c.retain.ensures.filtered in
    left ∙ stuck-kept c.args.loc c.args.stuck.now.items
